-- The saves of transactions, of which as many are counted as there are.
use Rattle.std.proofs.Common.{◌≡◌, ◌≢◌, ℕ, inl, inr, Bool, nat_eq, List, [], ◌∷◌, ◌++◌, length, take, slice_index_or, Option, unwrap_or, refl, sym, ap, subst, ◌∙◌}
use Rattle.std.specs.Prelude.{◌-◌, if◌then◌else◌}
use Rattle.std.specs.Map.{update}
use Rattle.std.proofs.lemmas.Bool.{cases_eq}
use Rattle.std.proofs.lemmas.List.{length-append, length-take-le}
use Rattle.history.specs.Writes.{Table}
use Rattle.history.specs.Table.{Granted, Work, begun, worked, after}
use Rattle.history.specs.declared.call.Call.TheVariants.{Table as OnTable}
use Rattle.history.specs.declared.call.TableCall.{TableCall}
use Rattle.history.specs.declared.call.TableCall.TheVariants.{Save, Back}
use Rattle.history.specs.declared.call.Reply.{Reply}
use Rattle.history.proofs.OneMore.{worked-push}
use Rattle.record_table.specs.Calls.{saves_after}
use Rattle.caller_steps.specs.State.{State, calls_of}
use Rattle.mars_core.specs.Kept.{HaveSaves}
use Rattle.mars_core.specs.Works.{HasSaves}
use Rattle.mars_core.proofs.Mirroring.{has_save_is, calls_here, calls_there}

-- how many saves the calls leave that began on this table
abbrev pub saves_in : Table → Granted → ℕ
saves_in table calls = length (worked (begun table) calls).saves

-- nothing of them changed
pub saves_same : (was now : ℕ → List ℕ) (s new : State) → ((u : ℕ) → length (now u) ≡ length (was u)) → new.live ≡ s.live → HaveSaves was s → HaveSaves now new
saves_same was now s new same live saves u table = same u ∙ saves u table ∙ ap (λ (f : ℕ → Option Granted). saves_in table (unwrap_or (f u) [])) (sym live)

-- one caller's transaction is now this, or none
pub saves_one : (was now : ℕ → List ℕ) (s new : State) (t : ℕ) (x : Option Granted) → ((u : ℕ) → u ≢ t → now u ≡ was u) → new.live ≡ update nat_eq s.live t x
    → ((table : Table) → length (now t) ≡ saves_in table (unwrap_or x [])) → HaveSaves was s → HaveSaves now new
saves_one was now s new t x others live here saves u table = elim (cases_eq u t) [
  | inl e ↦ subst (λ (v : ℕ). length (now v) ≡ saves_in table (calls_of new v)) (sym e) (here table ∙ ap (saves_in table) (sym (calls_here s new t x live)))
  | inr ne ↦ ap (λ (counts : List ℕ). length counts) (others u ne) ∙ saves u table ∙ ap (saves_in table) (sym (calls_there s new t x live u ne))
]

-- what a call makes of their number
pub saves_of_call : (work : Work) (call : TableCall) → HasSaves (length work.saves) call → length (after work call).saves ≡ saves_after (OnTable call) (length work.saves)
saves_of_call work Save has = length-append work.saves (work.table ∷ [])
saves_of_call work (Back n) has =
    ap (λ (b : Bool). (let left : Work = if b then record { table = slice_index_or work.saves (n - 1) work.table; saves = take n work.saves } else work in length left.saves)) (has_save_is work.saves n has.0 has.1)
    ∙ length-take-le n work.saves has.1
saves_of_call work _ has = refl

-- and so a granted call
pub saves_granted : (n m : ℕ) (table : Table) (calls : Granted) (call : TableCall) (answer : Reply) → n ≡ saves_in table calls → HasSaves n call → m ≡ saves_after (OnTable call) n → m ≡ saves_in table (calls ++ (call, answer) ∷ [])
saves_granted n m table calls call answer is has grown =
    grown ∙ ap (saves_after (OnTable call)) is ∙ sym (saves_of_call (worked (begun table) calls) call (subst (λ (k : ℕ). HasSaves k call) is has))
    ∙ ap (λ (work : Work). length work.saves) (sym (worked-push (begun table) calls call answer))
