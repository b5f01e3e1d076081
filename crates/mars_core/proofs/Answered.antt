-- What becomes of a call of a live transaction, which is out of its seat until the call is answered.
use Rattle.std.proofs.Common.{◌≡◌, ℕ, inl, inr, Bool, true, false, refl, nat_eq, List, ◌∷◌, [], ◌++◌, length, Option, Some, Result, Ok, Err, sym, ap, subst, ◌∙◌}
use Rattle.std.specs.Prelude.{IsErrOf}
use Rattle.std.specs.Map.{update}
use Rattle.array_shape.specs.declared.shape.Shape.{Shape}
use Rattle.eaw_face.specs.Causes.{IsAlive}
use Rattle.page_store.specs.Index as below
use Rattle.page_store.specs.Shown.{PagesView}
use Rattle.history.specs.Rows.{NamedRows}
use Rattle.history.specs.Table.{Granted}
use Rattle.history.specs.declared.call.TableCall.{TableCall}
use Rattle.history.specs.declared.call.Reply.{Reply}
use Rattle.history.specs.declared.call.Reply.TheVariants as reply
use Rattle.record_table.specs.Does.{Does}
use Rattle.record_table.specs.declared.fault.TableFault.{TableFault}
use Rattle.record_table.specs.declared.fault.TableFault.TheVariants.{SlotsFull, Media, NoMemory}
use Rattle.record_table.specs.Faults.{reply_to}
use Rattle.std.proofs.lemmas.Bool.{true≢false}
use Rattle.history.specs.declared.call.Call.TheVariants.{Table as OnTable}
use Rattle.history.specs.declared.call.TableCall.TheVariants.{Save, Back}
use Rattle.caller_steps.specs.Fate.{is_refusal, is_busy}
use Rattle.caller_steps.specs.State.{State, unoffered}
use Rattle.caller_steps.specs.Locked.{IsFree}
use Rattle.caller_steps.specs.Core.{Steps}
use Rattle.caller_steps.specs.Cause.{IsOfKind}
use Rattle.mars_core.specs.Held.{core_over}
use Rattle.mars_core.specs.Kept.{IsKept}
use Rattle.mars_core.specs.Seats.{Seats, live_in, bare}
use Rattle.history.specs.Locks.{has_table}
use Rattle.mars_core.specs.TableCall.{number_for}
use Rattle.mars_core.specs.Works.{IsShown, IsSaveRefusal, Works, IsAnswered, Unmade, Made}
use Rattle.record_table.proofs.Sharing.{Laws}
use Rattle.mars_core.proofs.Answering.{has_asked, did, did_unkept, granted_keeps, granted_steps, refused_keeps, refused_steps}
use Rattle.mars_core.proofs.Prefixes.{StoreLaws}
use Rattle.mars_core.proofs.Staying.{update_same, free_before, busy_before, save_refused, table_refused, memory_refused, busy_refused}
use Rattle.mars_core.proofs.Stepping.{ShowsPages}

no_media : (let r : Result Reply TableFault = Err NoMemory in IsErrOf r Media) → ⊥
no_media is = absurd (cc)

-- no reply of a table is that of a caller who finds a lock
granted_plain : (answer : Reply) → is_refusal answer ≡ false → is_busy answer ≡ false
granted_plain (reply.Busy holder) granted = absurd (true≢false granted)
granted_plain _ granted = refl

pub fault_plain : (fault : TableFault) → is_busy (reply_to fault) ≡ false
fault_plain (SlotsFull n) = refl
fault_plain _ = refl

save_plain : (saves : ℕ) (call : TableCall) (answer : Reply) → IsSaveRefusal saves call answer → is_busy answer ≡ false
save_plain saves Save answer refused = ap is_busy refused.1
save_plain saves (Back n) answer refused = ap is_busy refused.1
save_plain saves _ answer refused = absurd refused

save_refuses : (saves : ℕ) (call : TableCall) (answer : Reply) → IsSaveRefusal saves call answer → is_refusal answer ≡ true
save_refuses saves Save answer refused = ap is_refusal refused.1
save_refuses saves (Back n) answer refused = ap is_refusal refused.1
save_refuses saves _ answer refused = absurd refused

-- a call that was not made was refused
pub unmade_refuses : (saves : ℕ) (seats : Seats) (t : ℕ) (call : TableCall) (answer : Reply) → Unmade saves seats t call answer → is_refusal answer ≡ true
unmade_refuses saves seats t call answer (inl refused) = save_refuses saves call answer refused
unmade_refuses saves seats t call answer (inr (there, inl (none, told))) = ap is_refusal told
unmade_refuses saves seats t call answer (inr (there, inr (table, asked, inl none))) = ap is_refusal none
unmade_refuses saves seats t call answer (inr (there, inr (table, asked, inr (holder, held, busy)))) = ap is_refusal held

-- a call that clashes with nobody's is not told so
pub unmade_plain : (saves : ℕ) (seats : Seats) (t : ℕ) (call : TableCall) (answer : Reply) → (has_table seats.names call ≡ true → IsFree (bare seats) t call) → Unmade saves seats t call answer → is_busy answer ≡ false
unmade_plain saves seats t call answer free (inl refused) = save_plain saves call answer refused
unmade_plain saves seats t call answer free (inr (there, inl (none, told))) = ap is_busy told
unmade_plain saves seats t call answer free (inr (there, inr (table, asked, inl none))) = ap is_busy none
unmade_plain saves seats t call answer free (inr (there, inr (table, asked, inr (holder, held, busy)))) = absurd (free (has_asked seats.names call table asked) holder busy.0)

pub made_plain : (tells : Bool) (Opens : List ℕ → List ℕ → Type 0) (index : below.Index) (saves : ℕ) (seats : Seats) (t : ℕ) (calls : Granted) (call : TableCall) (p q : PagesView) (left : Granted) (answer : Reply)
    → Made tells Opens index saves seats t calls call p q left answer → is_busy answer ≡ false
made_plain tells Opens index saves seats t calls call p q left answer made = go made.result made.works made.answered
  where
    go : (result : Result Reply TableFault) → Works tells Opens index made.table t call p q result → IsAnswered calls call result left answer → is_busy answer ≡ false
    go (Ok r) works (inl (more, told)) = ap is_busy told ∙ granted_plain r works.granted
    go (Ok r) works (inr (listed_rows, same, still, told)) = ap is_busy told
    go (Err f) works (still, told) = ap is_busy told ∙ fault_plain f

-- A state s over pages p, of which the caller's transaction has these calls, and the seats without it.
module _ (tells : Bool) (Opens : Shape → List ℕ → List ℕ → Type 0) (index : below.Index) (p : PagesView) (s : State) (shows : ShowsPages index p s) (count : ℕ) (rows : List NamedRows)
    (kept : IsKept tells Opens index p count rows s) (alive : IsAlive p.store) (tells_writes : IsShown tells index p) (t : ℕ) (call : TableCall) (calls : Granted) (is : s.live t ≡ Some calls) (un : s.offers t ≡ unoffered)
    (mid : Seats) (x : Option Granted) (out : live_in mid ≡ update nat_eq s.live t x) (same_names : mid.names ≡ s.names) where
  asked_in : (table : ℕ) → number_for mid.names call ≡ Some table → number_for s.names call ≡ Some table
  asked_in table asked = ap (λ (ns : List (List ℕ)). number_for ns call) (sym same_names) ∙ asked

  there_is : (table : ℕ) → number_for mid.names call ≡ Some table → has_table s.names call ≡ true
  there_is table asked = has_asked s.names call table (asked_in table asked)

  -- the call was not made
  pub unmade_steps : (new : State) → new ≡ s → (answer : Reply) → Unmade (length (p.counts t)) mid t call answer → Steps tells t (OnTable call) (core_over Opens index p.store s) (core_over Opens index p.store new) answer
  unmade_steps new same answer (inl refused) =
      subst (λ (state : State). Steps tells t (OnTable call) (core_over Opens index p.store s) (core_over Opens index p.store state) answer) (sym same)
      (save_refused tells Opens index p s shows count rows kept alive tells_writes t call calls is un answer refused)
  unmade_steps new same answer (inr (saves, inl (none, told))) =
      subst (λ (r : Reply). Steps tells t (OnTable call) (core_over Opens index p.store s) (core_over Opens index p.store new) r) (sym told)
      (table_refused tells Opens index p s shows count rows kept alive tells_writes t call calls is un saves new same (ap (λ (ns : List (List ℕ)). number_for ns call) (sym same_names) ∙ none))
  unmade_steps new same answer (inr (saves, inr (table, asked, inl none))) =
      subst (λ (r : Reply). Steps tells t (OnTable call) (core_over Opens index p.store s) (core_over Opens index p.store new) r) (sym none)
      (memory_refused tells Opens index p s shows count rows kept alive tells_writes t call calls is un saves new same (there_is table asked))
  unmade_steps new same answer (inr (saves, inr (table, asked, inr (holder, held, busy)))) =
      subst (λ (r : Reply). Steps tells t (OnTable call) (core_over Opens index p.store s) (core_over Opens index p.store new) r) (sym held)
      (busy_refused tells Opens index p s shows count rows kept alive tells_writes t call calls is un saves new same (there_is table asked) holder (busy_before s (bare mid) t x out same_names call holder busy))

  -- the call was made
  module _ (one : (shape : Shape) (image a b : List ℕ) → Opens shape image a → Opens shape image b → a ≡ b) (laws : Laws index) (q : PagesView) (old_laws : StoreLaws tells Opens p.store) (new_laws : StoreLaws tells Opens q.store)
      (new : State) (shows_new : ShowsPages index q new) (names : new.names ≡ s.names) (offers : new.offers ≡ s.offers) (base : new.base ≡ s.base) (history : new.history ≡ s.history) (doubt : new.doubt ≡ s.doubt) (count' : ℕ) (same_count : count' ≡ count)
      (left : Granted) (put : new.live ≡ update nat_eq s.live t (Some left)) (answer : Reply) (made : Made tells (Opens p.store.shape) index (length (p.counts t)) mid t calls call p q left answer) where
    free : IsFree s t call
    free = free_before s (bare mid) t x out same_names call made.free

    stays : left ≡ calls → new.live ≡ s.live
    stays same = put ∙ ap (λ (cs : Granted). update nat_eq s.live t (Some cs)) same ∙ update_same s.live t (Some calls) is

    grows : (r : Reply) → left ≡ calls ++ (call, r) ∷ [] → new.live ≡ update nat_eq s.live t (Some (calls ++ (call, r) ∷ []))
    grows r more = put ∙ ap (λ (cs : Granted). update nat_eq s.live t (Some cs)) more

    listed : (r : Reply) (rows : List (ℕ × List ℕ)) → r ≡ reply.Listed rows → Works tells (Opens p.store.shape) index made.table t call p q (Ok r) → Does tells (Opens p.store.shape) index made.table t (OnTable call) p q (Ok (reply.Listed rows))
    listed r rows same works = subst (λ (r : Reply). Does tells (Opens p.store.shape) index made.table t (OnTable call) p q (Ok r)) same works.does

    pub made_keeps : IsKept tells Opens index q count' rows new
    made_keeps = go made.result made.works made.answered
      where
        go : (result : Result Reply TableFault) → Works tells (Opens p.store.shape) index made.table t call p q result → IsAnswered calls call result left answer → IsKept tells Opens index q count' rows new
        go (Ok r) works (inl (more, told)) = granted_keeps tells Opens index one laws p q old_laws new_laws s new shows shows_new names offers base history doubt count count' same_count rows kept alive tells_writes made.table t call (asked_in made.table made.number) made.saves_there calls is un free
            r (did tells (Opens p.store.shape) index made.table t call p q (Ok r) works.does) works.granted works.plain works.kind (grows r more)
        go (Ok r) works (inr (listed_rows, same, still, told)) = refused_keeps tells Opens index one laws p q old_laws new_laws s new shows shows_new names offers base history doubt count count' same_count rows kept alive tells_writes made.table t call (asked_in made.table made.number) made.saves_there calls is un free
            NoMemory (did_unkept tells (Opens p.store.shape) index made.table t call p q listed_rows alive (subst (λ (x : Reply). IsOfKind (length (p.counts t)) call x) same works.kind) (listed r listed_rows same works)) (λ failed. absurd (no_media failed)) (stays still)
        go (Err f) works (still, told) = refused_keeps tells Opens index one laws p q old_laws new_laws s new shows shows_new names offers base history doubt count count' same_count rows kept alive tells_writes made.table t call (asked_in made.table made.number) made.saves_there calls is un free
            f (did tells (Opens p.store.shape) index made.table t call p q (Err f) works.does) works.due (stays still)

    pub made_steps : Steps tells t (OnTable call) (core_over Opens index p.store s) (core_over Opens index q.store new) answer
    made_steps = go made.result made.works made.answered
      where
        go : (result : Result Reply TableFault) → Works tells (Opens p.store.shape) index made.table t call p q result → IsAnswered calls call result left answer → Steps tells t (OnTable call) (core_over Opens index p.store s) (core_over Opens index q.store new) answer
        go (Ok r) works (inl (more, told)) = subst (λ (r : Reply). Steps tells t (OnTable call) (core_over Opens index p.store s) (core_over Opens index q.store new) r) (sym told)
            (granted_steps tells Opens index one laws p q old_laws new_laws s new shows shows_new names offers base history doubt count count' same_count rows kept alive tells_writes made.table t call (asked_in made.table made.number) made.saves_there calls is un free
            r (did tells (Opens p.store.shape) index made.table t call p q (Ok r) works.does) works.granted works.plain works.kind (grows r more))
        go (Ok r) works (inr (listed_rows, same, still, told)) = subst (λ (r : Reply). Steps tells t (OnTable call) (core_over Opens index p.store s) (core_over Opens index q.store new) r) (sym told)
            (refused_steps tells Opens index one laws p q old_laws new_laws s new shows shows_new names offers base history doubt count count' same_count rows kept alive tells_writes made.table t call (asked_in made.table made.number) made.saves_there calls is un free
            NoMemory (did_unkept tells (Opens p.store.shape) index made.table t call p q listed_rows alive (subst (λ (x : Reply). IsOfKind (length (p.counts t)) call x) same works.kind) (listed r listed_rows same works)) (λ failed. absurd (no_media failed)) (stays still))
        go (Err f) works (still, told) = subst (λ (r : Reply). Steps tells t (OnTable call) (core_over Opens index p.store s) (core_over Opens index q.store new) r) (sym told)
            (refused_steps tells Opens index one laws p q old_laws new_laws s new shows shows_new names offers base history doubt count count' same_count rows kept alive tells_writes made.table t call (asked_in made.table made.number) made.saves_there calls is un free
            f (did tells (Opens p.store.shape) index made.table t call p q (Err f) works.does) works.due (stays still))
