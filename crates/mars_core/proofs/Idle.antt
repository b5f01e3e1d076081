-- Callers without a live transaction, of which nothing is logged.
use Rattle.std.proofs.Common.{◌≡◌, ◌≢◌, ℕ, inl, inr, nat_eq, List, [], Option, Some, None, sym, ap, subst, ◌∙◌}
use Rattle.std.specs.Map.{update}
use Rattle.std.proofs.lemmas.Bool.{cases_eq}
use Rattle.std.proofs.lemmas.Map.{update_here, update_apart}
use Rattle.eaw_face.specs.State.{listed}
use Rattle.history.specs.Table.{Granted}

-- where a number's parts lie, if it is live
abbrev pub Ranges : Type 0
Ranges = ℕ → Option (List (ℕ × ℕ))

pub no_calls : (calls : Granted) → (let o : Option Granted = Some calls in o ≡ None) → ⊥
no_calls calls e = cc

-- After what one caller did, of the others as much is logged as before.
module _ (was now : Ranges) (live new : ℕ → Option Granted) (t : ℕ) (others : (u : ℕ) → u ≢ t → now u ≡ was u) (idle : (u : ℕ) → live u ≡ None → listed (was u) ≡ []) where
  same_at : (u : ℕ) → u ≢ t → live u ≡ None → listed (now u) ≡ []
  same_at u ne none = ap (λ (o : Option (List (ℕ × ℕ))). listed o) (others u ne) ∙ idle u none

  -- its transaction is now this one, or none, and then nothing is logged of it either
  pub idle_after : (x : Option Granted) → new ≡ update nat_eq live t x → (x ≡ None → listed (now t) ≡ []) → (u : ℕ) → new u ≡ None → listed (now u) ≡ []
  idle_after x is here u none = elim (cases_eq u t) [
    | inl e ↦ subst (λ (v : ℕ). listed (now v) ≡ []) (sym e) (here (sym (ap (λ (f : ℕ → Option Granted). f t) is ∙ update_here live t x) ∙ ap new (sym e) ∙ none))
    | inr ne ↦ same_at u ne (sym (ap (λ (f : ℕ → Option Granted). f u) is ∙ update_apart live t x u ne) ∙ none)
  ]

  -- it has the transaction that it had
  pub idle_still : (calls : Granted) → live t ≡ Some calls → new ≡ live → (u : ℕ) → new u ≡ None → listed (now u) ≡ []
  idle_still calls has is u none = elim (cases_eq u t) [
    | inl e ↦ absurd (no_calls calls (sym has ∙ sym (ap (λ (f : ℕ → Option Granted). f t) is) ∙ ap new (sym e) ∙ none))
    | inr ne ↦ same_at u ne (sym (ap (λ (f : ℕ → Option Granted). f u) is) ∙ none)
  ]
