-- Something for one number, and for the others as before.
use Rattle.std.proofs.Common.{◌≡◌, ℕ, Bool, true, false, cond, inl, inr, refl, sym, ◌∙◌, ap, subst}
use Rattle.std.specs.Prelude.{nat_eq}
use Rattle.std.proofs.lemmas.Bool.{cases_eq, eq-eqb, ne_eqb, eqb-true}
use Rattle.page_store.specs.State.{with_one}

module _ {A : Type 0} (f : ℕ → A) (t : ℕ) (x : A) where
  pub with_here : with_one f t x t ≡ x
  with_here = ap (λ (b : Bool). cond b x (f t)) (eq-eqb t t refl)

  pub with_there : (u : ℕ) → (u ≡ t → ⊥) → with_one f t x u ≡ f u
  with_there u ne = ap (λ (b : Bool). cond b x (f u)) (ne_eqb u t ne)

  with_same_at : x ≡ f t → (u : ℕ) → with_one f t x u ≡ f u
  with_same_at is u = go (nat_eq u t) refl
    where
      go : (b : Bool) → nat_eq u t ≡ b → cond b x (f u) ≡ f u
      go true same = is ∙ ap f (sym (eqb-true u t same))
      go false same = refl

  pub with_same : x ≡ f t → with_one f t x ≡ f
  with_same is = λ i u. with_same_at is u i

-- what holds of every number, if it holds of the one that was changed, and of the others before
pub with_two : {A B : Type 0} (P : ℕ → A → B → Type 0) (f : ℕ → A) (g : ℕ → B) (t : ℕ) (x : A) (y : B) → P t x y → ((u : ℕ) → P u (f u) (g u)) → (u : ℕ) → P u (with_one f t x u) (with_one g t y u)
with_two P f g t x y here there u = elim (cases_eq t u) [
  | inl is ↦ subst (λ (k : ℕ). P k (with_one f t x k) (with_one g t y k)) is (subst (λ a. P t a (with_one g t y t)) (sym (with_here f t x)) (subst (P t x) (sym (with_here g t y)) here))
  | inr ne ↦
      let other : u ≡ t → ⊥ = λ is. ne (sym is) in
      subst (λ a. P u a (with_one g t y u)) (sym (with_there f t x u other)) (subst (P u (f u)) (sym (with_there g t y u other)) (there u))
]

pub with_other : {A : Type 0} (P : ℕ → A → Type 0) (f : ℕ → A) (t : ℕ) (x : A) → P t x → ((u : ℕ) → P u (f u)) → (u : ℕ) → P u (with_one f t x u)
with_other P f t x here there u = with_two (λ (k : ℕ) a b. P k a) f f t x x here there u
