-- The model of records next to the state of callers by turns.
use Rattle.std.proofs.Common.{◌≡◌, ◌≢◌, ◌≤◌, ◌<◌, ℕ, inl, inr, Bool, true, cond, nat_eq, nat_le, ◌&&◌, List, [], ◌∷◌, ◌++◌, length, Option, Some, unwrap_or, refl, sym, ap, subst, ◌∙◌, eq-eqb, ne_eqb, le-leb, lt-ltb}
use Rattle.std.specs.Map.{update}
use Rattle.std.proofs.lemmas.Map.{update_here, update_apart}
use Rattle.std.proofs.lemmas.Bool.{cases_eq}
use Rattle.page_store.specs.State.{with_one}
use Rattle.history.specs.Table.{Granted, Work, has_save, Answers, IsRight}
use Rattle.history.specs.Log.{Log, log_after, log_of}
use Rattle.history.specs.declared.call.Call.{Call}
use Rattle.history.specs.declared.call.Call.TheVariants.{Table as OnTable}
use Rattle.history.specs.declared.call.TableCall.{TableCall}
use Rattle.history.specs.declared.call.TableCall.TheVariants.{Scan}
use Rattle.history.specs.declared.call.Reply.{Reply}
use Rattle.history.proofs.OneMore.{log_of-push}
use Rattle.history.proofs.Pending.{left_is_written, saves_are_written, as_many_saves, has_same_saves}
use Rattle.record_table.specs.State.{TableState, seen_by, work_of}
use Rattle.record_table.specs.Calls.{Replies, own_after, after}
use Rattle.caller_steps.specs.State.{State, calls_of, records_of, view_of}
use Rattle.mars_core.specs.Kept.{Mirrors}

pub with_one_here : {A : Type 0} (f : ℕ → A) (t : ℕ) (x : A) → with_one f t x t ≡ x
with_one_here f t x = ap (λ (b : Bool). cond b x (f t)) (eq-eqb t t refl)

with_one_apart : {A : Type 0} (f : ℕ → A) (t : ℕ) (x : A) (u : ℕ) → u ≢ t → with_one f t x u ≡ f u
with_one_apart f t x u ne = ap (λ (b : Bool). cond b x (f u)) (ne_eqb u t ne)

-- a function with its own value put at a place
with_same : {A : Type 0} (f : ℕ → A) (t : ℕ) → with_one f t (f t) ≡ f
with_same f t = λ i u. one u i
  where
    one : (u : ℕ) → with_one f t (f t) u ≡ f u
    one u = elim (cases_eq u t) [
      | inl e ↦ ap (with_one f t (f t)) e ∙ with_one_here f t (f t) ∙ ap f (sym e)
      | inr ne ↦ with_one_apart f t (f t) u ne
    ]

-- a call changes the log of its own number, and no other
pub apart : (s : TableState) (t : ℕ) (call : Call) (answer : Reply) (u : ℕ) → u ≢ t → (after t call answer s).logs u ≡ s.logs u
apart s t call answer u ne = with_one_apart s.logs t (own_after (s.logs t) call answer) u ne

-- a scan changes nothing
pub scan_after : (s : TableState) (t : ℕ) (name : List ℕ) (low high : ℕ) (answer : Reply) → after t (OnTable (Scan name low high)) answer s ≡ s
scan_after s t name low high answer = ap (λ (logs : ℕ → Log). (let is : TableState = record { table = s.table; logs = logs } in is)) (with_same s.logs t)

pub has_save_is : {A : Type 0} (saved : List A) (n : ℕ) → 0 < n → n ≤ length saved → has_save saved n ≡ true
has_save_is saved n some there = (λ i. lt-ltb 0 n some i && nat_le n (length saved)) ∙ le-leb n (length saved) there

-- each caller's calls, after one caller's have changed
pub calls_here : (old new : State) (t : ℕ) (calls : Option Granted) → new.live ≡ update nat_eq old.live t calls → calls_of new t ≡ unwrap_or calls []
calls_here old new t calls live = ap (λ (f : ℕ → Option Granted). unwrap_or (f t) []) live ∙ ap (λ (o : Option Granted). unwrap_or o []) (update_here old.live t calls)

pub calls_there : (old new : State) (t : ℕ) (calls : Option Granted) → new.live ≡ update nat_eq old.live t calls → (u : ℕ) → u ≢ t → calls_of new u ≡ calls_of old u
calls_there old new t calls live u ne = ap (λ (f : ℕ → Option Granted). unwrap_or (f u) []) live ∙ ap (λ (o : Option Granted). unwrap_or o []) (update_apart old.live t calls u ne)

module _ (below : TableState) (old : State) (mirrors : Mirrors below old) where
  -- after a call that changes only what its own number has, to another log of its caller
  pub mirrors_at : (behind : TableState) (new : State) (t : ℕ) (calls : Option Granted) → new.live ≡ update nat_eq old.live t calls → behind.table ≡ records_of new
      → behind.logs t ≡ log_of (unwrap_or calls []) → ((u : ℕ) → u ≢ t → behind.logs u ≡ below.logs u) → Mirrors behind new
  mirrors_at behind new t calls live table here there = record {
    table = table;
    logs = λ u. elim (cases_eq u t) [
      | inl e ↦ ap behind.logs e ∙ here ∙ ap log_of (sym (calls_here old new t calls live)) ∙ ap (λ (v : ℕ). log_of (calls_of new v)) (sym e)
      | inr ne ↦ there u ne ∙ mirrors.logs u ∙ ap log_of (sym (calls_there old new t calls live u ne))
    ];
  }

  -- after a granted call
  pub mirrors_granted : (new : State) (t : ℕ) (calls : Granted) (call : TableCall) (answer : Reply) → old.live t ≡ Some calls → new.live ≡ update nat_eq old.live t (Some (calls ++ (call, answer) ∷ []))
      → records_of new ≡ records_of old → Mirrors (after t (OnTable call) answer below) new
  mirrors_granted new t calls call answer is live same =
      let at : calls_of old t ≡ calls = ap (λ (o : Option Granted). unwrap_or o []) is in
      mirrors_at (after t (OnTable call) answer below) new t (Some (calls ++ (call, answer) ∷ [])) live (mirrors.table ∙ sym same)
      (with_one_here below.logs t (log_after (below.logs t) call answer) ∙ ap (λ (l : Log). log_after l call answer) (mirrors.logs t ∙ ap log_of at)
      ∙ sym (log_of-push calls call answer))
      (apart below t (OnTable call) answer)

  module _ (t : ℕ) (right : IsRight (records_of old) (calls_of old t)) where
    -- a number sees what its caller sees, with the same saves
    pub work_is : work_of below t ≡ view_of old t
    work_is = (λ i. work_of (record { table = mirrors.table i; logs = λ u. mirrors.logs u i }) t)
        ∙ (λ i. record { table = sym (left_is_written (records_of old) (calls_of old t) right) i; saves = sym (saves_are_written (records_of old) (calls_of old t) right) i })

    pub seen_is : seen_by below t ≡ (view_of old t).table
    seen_is = ap (λ (work : Work). work.table) work_is

    pub saves_are : length (below.logs t).saved ≡ length (view_of old t).saves
    saves_are = ap (λ (l : Log). length l.saved) (mirrors.logs t) ∙ sym (as_many_saves (records_of old) (calls_of old t) right)

    pub has_saves : (n : ℕ) → has_save (view_of old t).saves n ≡ has_save (below.logs t).saved n
    has_saves n = has_same_saves (records_of old) (calls_of old t) n right ∙ ap (λ (l : Log). has_save l.saved n) (sym (mirrors.logs t))

    -- so the reply for what it sees is that of the one-thread table
    pub answers : (call : TableCall) (answer : Reply) → Replies below t (OnTable call) answer → Answers (view_of old t) call answer
    answers call answer replies = subst (λ (work : Work). Answers work call answer) work_is replies
