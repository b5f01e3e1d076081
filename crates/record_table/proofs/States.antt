-- What each call of pages does to the state of records.
use Rattle.std.proofs.Common.{◌≡◌, ℕ, zero, suc, ◌-◌, Bool, true, false, cond, List, [], ◌∷◌, ◌++◌, length, get_or, take, refl, sym, ◌∙◌, ap, subst, arith, eqb-true}
use Rattle.std.specs.Prelude.{nat_eq, map, max, Option, Some, None}
use Rattle.std.specs.Option.{option_map, unwrap_or}
use Rattle.std.proofs.lemmas.List.{map-append, take-map, length-map}
use Rattle.array_shape.specs.Logged.{Part, applied}
use Rattle.eaw_face.specs.State.{Logs, listed, with_log}
use Rattle.page_store.specs.Edit.{with_write}
use Rattle.page_store.specs.Index.{Index}
use Rattle.page_store.specs.State as pages
use Rattle.page_store.specs.State.{PagesState, log_of, with_one}
use Rattle.page_store.specs.Command as page
use Rattle.page_store.specs.Kept.{IsFront}
use Rattle.page_store.proofs.Views.{saved_or_none}
use Rattle.record_slots.specs.Places.{tables_of}
use Rattle.history.specs.declared.key.Key.{Key}
use Rattle.history.specs.Writes.{Write, with_write as writes_with}
use Rattle.history.specs.Table.{has_save}
use Rattle.history.specs.Log.{Log, save_at, floor_of, log_after}
use Rattle.history.specs.declared.call.Call.TheVariants.{Table as OnTable, Control}
use Rattle.history.specs.declared.call.TableCall.TheVariants.{Save, Back}
use Rattle.history.specs.declared.call.Control.TheVariants.{Commit, Abort}
use Rattle.history.specs.declared.call.Reply.{Reply}
use Rattle.record_table.specs.State.{TableState}
use Rattle.record_table.specs.Calls.{after}
use Rattle.record_table.specs.Shown.{table_of, write_of, writes_of, shown_by}
use Rattle.record_table.specs.Invariant.{IsSlotPart, AreSlotParts}
use Rattle.record_table.proofs.Sharing.{Laws, called_same}
use Rattle.record_table.proofs.SlotParts.{IsWritten, writes_same, saves_same, applied_parts, parts_carry, parts_take}
use Rattle.record_table.proofs.Writing.{writes_after, parts_after}

-- a function with its own value put at a place
pub with_same : {A : Type 0} (f : ℕ → A) (t : ℕ) → with_one f t (f t) ≡ f
with_same f t = λ i u. one u i
  where
    one : (u : ℕ) → with_one f t (f t) u ≡ f u
    one u = go (nat_eq u t) refl
      where
        go : (b : Bool) → nat_eq u t ≡ b → cond b (f t) (f u) ≡ f u
        go true same = ap f (sym (eqb-true u t same))
        go false other = refl

-- what a number has logged, from its parts and its saves
abbrev pub log_in : List ℕ → Option (List Part) → List (List Part) → Log
log_in bytes log saves = record { writes = writes_of bytes (listed log); saved = map (writes_of bytes) saves }

-- the logs of numbers, after the parts and the saves of one have changed
logs_with : (bytes : List ℕ) (logs : Logs Part) (saved : ℕ → List (List Part)) (t : ℕ) (log : Option (List Part)) (saves : List (List Part)) (own : Log) → log_in bytes log saves ≡ own
    → (λ (u : ℕ). log_in bytes (with_log logs t log u) (with_one saved t saves u)) ≡ with_one (λ (u : ℕ). log_in bytes (logs u) (saved u)) t own
logs_with bytes logs saved t log saves own is = λ i u. one u i
  where
    one : (u : ℕ) → log_in bytes (with_log logs t log u) (with_one saved t saves u) ≡ with_one (λ (k : ℕ). log_in bytes (logs k) (saved k)) t own u
    one u = go (nat_eq u t)
      where
        go : (b : Bool) → log_in bytes (cond b log (logs u)) (cond b saves (saved u)) ≡ cond b own (log_in bytes (logs u) (saved u))
        go true = is
        go false = refl

-- the logs over data with the same tables
pub logs_same : (d e : List ℕ) → tables_of e ≡ tables_of d → (logs : Logs Part) (saved : ℕ → List (List Part)) → ◌≡◌ {A = ℕ → Log} (λ u. log_in e (logs u) (saved u)) (λ u. log_in d (logs u) (saved u))
logs_same d e tables logs saved = λ i u. record { writes = writes_same d e tables (listed (logs u)) i; saved = saves_same d e tables (saved u) i }

-- a log with one more write, which replaces one of its key since the last save
abbrev pub log_written : Log → Write → Log
log_written l write = record l { writes = writes_with (floor_of l) write l.writes }

-- the state after one more write of a number
abbrev pub written : TableState → ℕ → Key → Option (List ℕ) → TableState
written s t key value = record s { logs = with_one s.logs t (log_written (s.logs t) (key, value)) }

-- the writes at a save
saves_at : (bytes : List ℕ) (saved : List (List Part)) (n : ℕ) → save_at (map (writes_of bytes) saved) n ≡ writes_of bytes (pages.save_at saved n)
saves_at bytes saved n = at saved (n - 1)
  where
    at : (ls : List (List Part)) (i : ℕ) → get_or (map (writes_of bytes) ls) i [] ≡ writes_of bytes (get_or ls i [])
    at [] i = refl
    at (l ∷ ls) zero = refl
    at (l ∷ ls) (suc i) = at ls i

none_above : (n : ℕ) → max n 0 ≡ n
none_above n = omega arith

pub floors : (index : Index) (s : PagesState) (t : ℕ) → s.top t ≡ None → pages.floor_of s t ≡ floor_of ((shown_by index s).logs t)
floors index s t closed =
    ap (λ (o : Option ℕ). max (length (pages.save_at (s.saved t) (length (s.saved t)))) (unwrap_or o 0)) closed
    ∙ none_above (length (pages.save_at (s.saved t) (length (s.saved t))))
    ∙ sym (length-map (pages.save_at (s.saved t) (length (s.saved t))) (write_of s.store.bytes))
    ∙ sym (ap length (ap (save_at (map (writes_of s.store.bytes) (s.saved t))) (length-map (s.saved t) (writes_of s.store.bytes)) ∙ saves_at s.store.bytes (s.saved t) (length (s.saved t))))

module _ (index : Index) (laws : Laws index) (s : PagesState) (t : ℕ) where
  -- with the same table
  abbrev shown : (ℕ → Log) → TableState
  shown logs = record { table = table_of index s.store.bytes; logs = logs }

  -- a slot is written
  pub shown_write : index.sound s.store.bytes → s.top t ≡ None → (new : Part) → IsSlotPart index s.store.bytes new → AreSlotParts index s.store.bytes (log_of s t)
      → shown_by index (page.after (page.write_as t new.0 new.1) s) ≡ written (shown_by index s) t (write_of s.store.bytes new).0 (write_of s.store.bytes new).1
  shown_write sound closed new is parts =
      ap (λ (saved : ℕ → List (List Part)). shown (λ (u : ℕ). log_in s.store.bytes (with_log s.store.logs t (Some (with_write (pages.floor_of s t) new.0 new.1 (log_of s t))) u) (saved u))) (sym (with_same s.saved t))
      ∙ ap shown (logs_with s.store.bytes s.store.logs s.saved t (Some (with_write (pages.floor_of s t) new.0 new.1 (log_of s t))) (s.saved t) (log_written ((shown_by index s).logs t) (write_of s.store.bytes new))
      (ap (λ (ws : List Write). (let l : Log = record { writes = ws; saved = map (writes_of s.store.bytes) (s.saved t) } in l))
      (ap (λ (n : ℕ). writes_of s.store.bytes (with_write n new.0 new.1 (log_of s t))) (floors index s t closed)
      ∙ writes_after index laws s.store.bytes sound new is (floor_of ((shown_by index s).logs t)) (log_of s t) parts)))

  pub shown_save : (reply : Reply) → shown_by index (page.after (page.save t) s) ≡ after t (OnTable Save) reply (shown_by index s)
  shown_save reply =
      ap (λ (logs : Logs Part). shown (λ (u : ℕ). log_in s.store.bytes (logs u) (with_one s.saved t (s.saved t ++ log_of s t ∷ []) u))) (sym (with_same s.store.logs t))
      ∙ ap shown (logs_with s.store.bytes s.store.logs s.saved t (s.store.logs t) (s.saved t ++ log_of s t ∷ []) (log_after ((shown_by index s).logs t) Save reply)
      (ap (λ (saves : List (List Write)). (let l : Log = record { writes = writes_of s.store.bytes (log_of s t); saved = saves } in l)) (map-append (writes_of s.store.bytes) (s.saved t) (log_of s t ∷ []))))

  pub shown_back : (n : ℕ) (reply : Reply) → has_save ((shown_by index s).logs t).saved n ≡ true → IsFront (pages.save_at (s.saved t) n) (log_of s t) → shown_by index (page.after (page.back t n) s) ≡ after t (OnTable (Back n)) reply (shown_by index s)
  shown_back n reply there front = ap shown (logs_with s.store.bytes s.store.logs s.saved t (option_map (λ log. pages.save_at (s.saved t) n) (s.store.logs t)) (take n (s.saved t)) (log_after ((shown_by index s).logs t) (Back n) reply)
      ((λ i. record {
        writes = (ap (writes_of s.store.bytes) (saved_or_none (pages.save_at (s.saved t) n) (s.store.logs t) front) ∙ sym (saves_at s.store.bytes (s.saved t) n)) i;
        saved = sym (take-map (writes_of s.store.bytes) n (s.saved t)) i;
      })
      ∙ sym (ap (λ (b : Bool). cond b (let l : Log = record { writes = save_at (map (writes_of s.store.bytes) (s.saved t)) n; saved = take n (map (writes_of s.store.bytes) (s.saved t)) } in l) ((shown_by index s).logs t)) there)))

  pub shown_commit : (reply : Reply) → index.sound s.store.bytes → AreSlotParts index s.store.bytes (log_of s t) → shown_by index (page.after (page.end t true) s) ≡ after t (Control Commit) reply (shown_by index s)
  shown_commit reply sound parts = λ i. record {
    table = IsWritten.table (applied_parts index laws (log_of s t) s.store.bytes sound parts) i;
    logs = (logs_same s.store.bytes (applied (log_of s t) s.store.bytes) (IsWritten.tables (applied_parts index laws (log_of s t) s.store.bytes sound parts)) (with_log s.store.logs t None) (with_one s.saved t [])
        ∙ logs_with s.store.bytes s.store.logs s.saved t None [] (record { writes = []; saved = [] }) refl) i;
  }

  pub shown_abort : (reply : Reply) → shown_by index (page.after (page.end t false) s) ≡ after t (Control Abort) reply (shown_by index s)
  shown_abort reply = λ i. record {
    table = table_of index s.store.bytes;
    logs = logs_with s.store.bytes s.store.logs s.saved t None [] (record { writes = []; saved = [] }) refl i;
  }

-- the parts of one number changed, those of the others did not
parts_one : (index : Index) (d : List ℕ) (logs : Logs Part) (t : ℕ) (log : Option (List Part)) → AreSlotParts index d (listed log) → ((u : ℕ) → AreSlotParts index d (listed (logs u))) → (u : ℕ) → AreSlotParts index d (listed (with_log logs t log u))
parts_one index d logs t log here there u = go (nat_eq u t)
  where
    go : (b : Bool) → AreSlotParts index d (listed (cond b log (logs u)))
    go true = here
    go false = there u

module _ (index : Index) (laws : Laws index) (s : PagesState) (t : ℕ) (sound : index.sound s.store.bytes) (parts : (u : ℕ) → AreSlotParts index s.store.bytes (log_of s u)) where
  pub parts_write : (new : Part) → IsSlotPart index s.store.bytes new → (u : ℕ) → AreSlotParts index s.store.bytes (log_of (page.after (page.write_as t new.0 new.1) s) u)
  parts_write new is = parts_one index s.store.bytes s.store.logs t (Some (with_write (pages.floor_of s t) new.0 new.1 (log_of s t))) (parts_after index laws s.store.bytes sound new is (pages.floor_of s t) (log_of s t) (parts t)) parts

  pub parts_back : (n : ℕ) → IsFront (pages.save_at (s.saved t) n) (log_of s t) → (u : ℕ) → AreSlotParts index s.store.bytes (log_of (page.after (page.back t n) s) u)
  parts_back n front = parts_one index s.store.bytes s.store.logs t (option_map (λ log. pages.save_at (s.saved t) n) (s.store.logs t))
      (subst (AreSlotParts index s.store.bytes) (sym (saved_or_none (pages.save_at (s.saved t) n) (s.store.logs t) front))
      (subst (AreSlotParts index s.store.bytes) front (parts_take index laws s.store.bytes (length (pages.save_at (s.saved t) n)) (log_of s t) (parts t)))) parts

  pub parts_abort : (u : ℕ) → AreSlotParts index s.store.bytes (log_of (page.after (page.end t false) s) u)
  parts_abort = parts_one index s.store.bytes s.store.logs t None tt parts

  pub parts_commit : (u : ℕ) → AreSlotParts index (applied (log_of s t) s.store.bytes) (log_of (page.after (page.end t true) s) u)
  parts_commit =
      let w = applied_parts index laws (log_of s t) s.store.bytes sound (parts t) in
      parts_one index (applied (log_of s t) s.store.bytes) s.store.logs t None tt (λ u. parts_carry index laws s.store.bytes (applied (log_of s t) s.store.bytes) (called_same s.store.bytes (applied (log_of s t) s.store.bytes) w.tables) w.pairs w.size (log_of s u) (parts u))
