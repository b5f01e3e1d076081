-- Calls one after another.
use Rattle.std.proofs.Common.{ℕ, inl, inr, ⊎_elim, arith}
use Rattle.mars_base.specs.Moments.{Elapses, Through}

pub stays : {C : Type 0} (now : ℕ) (since : ℕ → C → Type 0) (P : C → Type 0) → Elapses now now since since P
stays now since P = record { later = omega arith; keeps = λ t c le left. left; only = λ t c le left. inl left }

pub weaker : {C : Type 0} {before now : ℕ} {past since : ℕ → C → Type 0} {P Q : C → Type 0} → ((c : C) → P c → Q c) → Elapses before now past since P → Elapses before now past since Q
weaker f e = record { later = e.later; keeps = e.keeps; only = λ t c le left. ⊎_elim (λ was. inl was) (λ p. inr (f c p)) (e.only t c le left) }

pub then : {C : Type 0} {before mid now : ℕ} {past between since : ℕ → C → Type 0} {P : C → Type 0} → Elapses before mid past between P → Elapses mid now between since P → Elapses before now past since P
then a b = record {
  later = omega (arith, a.later, b.later);
  keeps = λ t c le left. b.keeps t c (omega (arith, le, a.later)) (a.keeps t c le left);
  only = λ t c le left. ⊎_elim (λ was. a.only t c le was) (λ p. inr p) (b.only t c (omega (arith, le, a.later)) left);
}

-- the same, seen through what the contents stand for
pub through : {B C : Type 0} {before now : ℕ} {past since : ℕ → B → Type 0} {Q : B → Type 0} (R : B → C → Type 0) (P : C → Type 0) → ((b : B) (c : C) → Q b → R b c → P c) → Elapses before now past since Q → Elapses before now (Through R past) (Through R since) P
through R P f e = record {
  later = e.later;
  keeps = λ t c le left. (left.0, e.keeps t left.0 le left.1, left.2);
  only = λ t c le left. ⊎_elim (λ was. inl (left.0, was, left.2)) (λ q. inr (f left.0 c q left.2)) (e.only t left.0 le left.1);
}
