-- A save, and the way back to it.
use Rattle.std.proofs.Common.{append_assoc, refl, ◌≡◌, ℕ, ◌+◌, ◌-◌, Bool, true, cond, inl, inr, List, [], ◌∷◌, ◌++◌, length, take, Result, Ok, Err, sym, ◌∙◌, ap, subst, arith}
use Rattle.std.specs.Prelude.{◌⊎◌, IfErr, IsErr, IsErrAnd, slice_index_or}
use Rattle.std.specs.FinMap.{get}
use Rattle.std.proofs.Math.Seq.{get_or-append_seam}
use Rattle.history.specs.Table.{Work, has_save}
use Rattle.history.specs.Writes.{Table}
use Rattle.history.specs.declared.call.Call.TheVariants.{Table as OnTable}
use Rattle.history.specs.declared.call.TableCall.TheVariants.{Save, Back}
use Rattle.history.specs.declared.call.Reply.TheVariants.{Fine, Saved}
use Rattle.caller_steps.specs.Core.{CoreView}
use Rattle.caller_steps.specs.State.{view_of}
use Rattle.caller_steps.specs.Run.{Heard}
use Rattle.caller_steps.specs.Step.{Step, Runs}
use Rattle.transactions.specs.Adds.{Stays, Adds}
use Rattle.transactions.specs.Told.{reply_of}
use Rattle.transactions.specs.Went.{Refuses, IsOfCore, turns_by}
use Rattle.transactions.proofs.Going.{joined}
use Rattle.transactions.specs.declared.refusal.Refusal.{Refusal}
use Rattle.transactions.specs.declared.work.Stop.{Stop}
use Rattle.transactions.specs.declared.work.Stop.TheVariants.{Refused, GivenUp}
use Rattle.long_values.specs.declared.unkept.Unkept.{Unkept}
use Rattle.long_values.specs.declared.unkept.Unkept.TheVariants.{Half}
use Rattle.long_values.specs.Changing.{seen_by, saved_by, SameButAt, IsUndone, IsUnfit, IsUnwritten, RefusesBack}
use Rattle.long_values.proofs.Seeing.{added, answered}

-- an error that a `?` hands on
pub handed_on : {T E : Type 0} (P : E → Type 0) (result : Result T E) (e : E) → IsErr result × IsErrAnd result (λ (x : E). x ≡ e) → P e → IfErr result P
handed_on P (Ok x) e both p = tt
handed_on P (Err x) e both p = subst P (sym both.1) p

-- a save adds what is seen to the saves, and tells how many there are then
pub saved : (caller n : ℕ) (old new : CoreView) → Stays caller old new → Adds caller Save (Saved n) old new
    → (seen_by caller new ≡ seen_by caller old) × (saved_by caller new ≡ saved_by caller old ++ seen_by caller old ∷ []) × (n ≡ length (saved_by caller old) + 1)
saved caller n old new stays adds =
    let view = added caller old new Save (Saved n) stays adds in
    let told = answered caller old new Save (Saved n) stays adds in
    (ap (λ (w : Work). w.table) view, ap (λ (w : Work). w.saves) view, cc told)

-- the way back gives what was seen there
pub went_back : (caller n : ℕ) (before : List Table) (there : Table) (old new : CoreView) → Stays caller old new → Adds caller (Back n) Fine old new
    → n ≡ length before + 1 → saved_by caller old ≡ before ++ there ∷ [] → seen_by caller new ≡ there
went_back caller n before there old new stays adds last saves =
    let view = added caller old new (Back n) Fine stays adds in
    let has : has_save (saved_by caller old) n ≡ true = (answered caller old new (Back n) Fine stays adds).0 in
    let at : n - 1 ≡ length before = omega (arith, last) in
    let work : Work = view_of old.state caller in
    ap (λ (w : Work). w.table) view
    ∙ ap (λ (b : Bool). (cond b (record { table = slice_index_or work.saves (n - 1) work.table; saves = take n work.saves }) work).table) has
    ∙ (λ i. slice_index_or (saves i) (at i) work.table) ∙ get_or-append_seam before there [] work.table

-- all but one value is the same in any case
pub undone_outside : (caller : ℕ) (name : List ℕ) (key : ℕ) (there : Table) (old new : CoreView) (stop : Stop Unkept) → IsUndone caller there old new stop → SameButAt name key there (seen_by caller old) → SameButAt name key there (seen_by caller new)
undone_outside caller name key there old new (Refused refusal) undone same k out = ap (λ (t : Table). get t k) undone
undone_outside caller name key there old new (GivenUp reason) undone same k out = ap (λ (t : Table). get t k) undone.1 ∙ same k out

-- a refused way back, also behind other calls
pub refused_back : (caller save : ℕ) (refusal : Refusal) (old new : CoreView) → Step old.limits old.state caller (OnTable (Back save)) (reply_of refusal) new.state → RefusesBack caller old new
refused_back caller save refusal old new step = record { before = []; save = save; refusal = refusal; run = (new.state, step, refl) }

refused_later : (caller : ℕ) (old mid new : CoreView) → Stays caller old mid → RefusesBack caller mid new → RefusesBack caller old new
refused_later caller old mid new stays lost =
    let went = stays.went in
    let last : Heard = (OnTable (Back lost.save), reply_of lost.refusal) ∷ [] in
    record {
      before = went.told ++ lost.before;
      save = lost.save;
      refusal = lost.refusal;
      run = subst (λ (told : Heard). Runs old.limits old.state (turns_by caller told) new.state) (sym (append_assoc went.told lost.before last))
          (joined caller old mid new went.told (lost.before ++ last) stays.goes_on.limits went.run lost.run);
    }

-- what is told of a refusal is the core's,
pub of_core : (caller : ℕ) (old new : CoreView) (refusal : Refusal) (stop : Stop Unkept) → (stop ≡ Refused refusal) ⊎ (stop ≡ GivenUp (Half refusal)) → Refuses caller old new refusal → IsOfCore caller old new stop
of_core caller old new refusal stop told refuses = elim told [
  | inl is ↦ subst (λ (s : Stop Unkept). IsOfCore caller old new s) (sym is) refuses
  | inr is ↦ subst (λ (s : Stop Unkept). IsOfCore caller old new s) (sym is) tt
]

-- none is told for the size,
pub not_unfit : (size : ℕ) (refusal : Refusal) (stop : Stop Unkept) → (stop ≡ Refused refusal) ⊎ (stop ≡ GivenUp (Half refusal)) → IsUnfit size stop
not_unfit size refusal stop told = elim told [
  | inl is ↦ subst (λ (s : Stop Unkept). IsUnfit size s) (sym is) tt
  | inr is ↦ subst (λ (s : Stop Unkept). IsUnfit size s) (sym is) tt
]

-- and the caller sees what it saw, or all but one value of it
pub unwritten : (caller : ℕ) (name : List ℕ) (key : ℕ) (refusal : Refusal) (old mid new : CoreView) (stop : Stop Unkept) → Stays caller old mid → (stop ≡ Refused refusal) ⊎ (stop ≡ GivenUp (Half refusal)) → Refuses caller old new refusal
    → IsUndone caller (seen_by caller old) mid new stop → SameButAt name key (seen_by caller old) (seen_by caller new) → IsUnwritten name key caller old new stop
unwritten caller name key refusal old mid new stop stays told refuses undone same = elim told [
  | inl is ↦ subst (λ (s : Stop Unkept). IsUnwritten name key caller old new s) (sym is) (refuses, subst (λ (s : Stop Unkept). IsUndone caller (seen_by caller old) mid new s) is undone)
  | inr is ↦ subst (λ (s : Stop Unkept). IsUnwritten name key caller old new s) (sym is)
      (refuses, refused_later caller old mid new stays (subst (λ (s : Stop Unkept). IsUndone caller (seen_by caller old) mid new s) is undone).0, same)
]
