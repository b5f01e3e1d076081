use Rattle.std.proofs.Common.{◌≡◌, ◌+◌, ◌-◌, ◌^◌, ◌⊎◌, ℕ, inr, ⊎_elim, Bool, List, eqb, sym, subst, Decides}
use Rattle.std.specs.Prelude.{Contains, IsTrue}
use Rattle.std.proofs.lemmas.List.Elements.{contains_decides, Decides-contains}
use Rattle.std.proofs.lemmas.Bool.Decides.{Decides-eqb}
use Rattle.memory_eaw.proofs.journal.Journal.must_fail.Goals as goal

decided : (listed xs : List ℕ) (moment : ℕ) (r : Bool) → xs ≡ listed → (moment ≡ 2 ^ 64 - 1 → ⊥) → Decides r (Contains xs (moment + 1))
    → (IsTrue r → (moment ≡ 2 ^ 64 - 1) ⊎ Contains listed (moment + 1)) × ((moment ≡ 2 ^ 64 - 1) ⊎ Contains listed (moment + 1) → IsTrue r)
decided listed xs moment r is low d = (
  λ yes. inr (subst (λ (l : List ℕ). Contains l (moment + 1)) is (d.0 yes)),
  λ must. ⊎_elim (λ last. absurd (low last)) (λ one. d.1 (subst (λ (l : List ℕ). Contains l (moment + 1)) (sym is) one)) must,
)

pub returns : goal.returns
returns c =
    let next = c.self.inside.moment + 1 in
    rw (← c.self.view_is) (decided c.self.inside.listed.items c.deref.result.now c.self.inside.moment c.contains.result c.deref.ensures.value c.if-self.false
    (Decides-contains c.deref.result.now next c.contains.result (contains_decides eqb Decides-eqb c.deref.result.now next c.contains.result c.contains.ensures.cases)))
