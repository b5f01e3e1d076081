-- The log of calls shows what a transaction has, on every table on which they are right.
use Rattle.std.proofs.Common.{◌≡◌, ℕ, ◌-◌, ◌<◌, ◌≤◌, Bool, true, false, ◌&&◌, nat_lt, nat_le, inl, inr, List, [], ◌∷◌, ◌++◌, map, length, take, drop, Option, Some, None, refl, sym, ap, subst, ◌∙◌, arith, take-append-drop}
use Rattle.std.specs.Prelude.{not, slice_index_or, if◌then◌else◌}
use Rattle.std.specs.List.{fold, list_any}
use Rattle.std.specs.FinMap.{get, remove}
use Rattle.std.proofs.lemmas.Bool.{and_parts, or_parts, true≢false, ltb-true, leb-true, not-true}
use Rattle.std.proofs.lemmas.List.{length-map, take-map, get_or-map}
use Rattle.history.specs.Key.{Key, of_table}
use Rattle.history.specs.Writes.{Table, Write, write_into, all_written, is_of, replaced, with_write}
use Rattle.history.specs.Table.{Granted, Work, begun, removed, has_save, Answers, after, worked, IsRightFrom, IsRight, left_by}
use Rattle.history.specs.Log.{Log, save_at, floor_of, log_after, log_of}
use Rattle.history.specs.declared.call.TableCall.{TableCall}
use Rattle.history.specs.declared.call.TableCall.TheVariants.{Get, Put, Del, Scan, Save, Back}
use Rattle.history.specs.declared.call.Reply.{Reply}
use Rattle.history.proofs.Keys.{cases_key, same_key, same_keys}
use Rattle.history.proofs.Agreeing.{get-set_here, get-set_there, same_table, remove_absent}

pub all_written-append : (table : Table) (writes more : List Write) → all_written table (writes ++ more) ≡ all_written (all_written table writes) more
all_written-append table [] more = refl
all_written-append table (write ∷ writes) more = all_written-append (write_into table write) writes more

-- if two tables agree at a key, they agree there after the same writes
pub get-written_same : (key : Key) (writes : List Write) (one other : Table) → get one key ≡ get other key → get (all_written one writes) key ≡ get (all_written other writes) key
get-written_same key [] one other same = same
get-written_same key (write ∷ writes) one other same = get-written_same key writes (write_into one write) (write_into other write) (elim (cases_key key write.0) [
  | inl is ↦ ap (get (write_into one write)) is ∙ get-set_here one write.0 write.1 ∙ sym (ap (get (write_into other write)) is ∙ get-set_here other write.0 write.1)
  | inr ne ↦ get-set_there one write.0 write.1 key ne ∙ same ∙ sym (get-set_there other write.0 write.1 key ne)
])

-- writes of other keys change nothing at a key
pub get-written_apart : (key : Key) (writes : List Write) (table : Table) → list_any (is_of key) writes ≡ false → get (all_written table writes) key ≡ get table key
get-written_apart key [] table none = refl
get-written_apart key (write ∷ writes) table none =
    let parts = or_parts (is_of key write) (list_any (is_of key) writes) none in
    get-written_apart key writes (write_into table write) parts.1
    ∙ get-set_there table write.0 write.1 key (λ is. true≢false (sym (same_key write.0 key (sym is)) ∙ parts.0))

-- To replace the last write of a key comes to writing after all of them.
in_place : (write other : Write) (writes : List Write) (table : Table) → other.0 ≡ write.0 → list_any (is_of write.0) writes ≡ false
    → all_written table (write ∷ writes) ≡ write_into (all_written table (other ∷ writes)) write
in_place write other writes table is none = same_table (all_written table (write ∷ writes)) (write_into (all_written table (other ∷ writes)) write) (λ q. elim (cases_key q write.0) [
  | inl here ↦ ap (get (all_written table (write ∷ writes))) here ∙ get-written_apart write.0 writes (write_into table write) none ∙ get-set_here table write.0 write.1
      ∙ sym (ap (get (write_into (all_written table (other ∷ writes)) write)) here ∙ get-set_here (all_written table (other ∷ writes)) write.0 write.1)
  | inr there ↦ get-written_same q writes (write_into table write) (write_into table other)
      (get-set_there table write.0 write.1 q there ∙ sym (get-set_there table other.0 other.1 q (λ e. there (e ∙ is))))
      ∙ sym (get-set_there (all_written table (other ∷ writes)) write.0 write.1 q there)
])

replaced_next : (write other : Write) (writes : List Write) (table : Table) (b : Bool) → (is_of write.0 other && not (list_any (is_of write.0) writes)) ≡ b
    → all_written (write_into table other) (replaced write writes) ≡ write_into (all_written (write_into table other) writes) write
    → all_written table (if b then write ∷ writes else other ∷ replaced write writes) ≡ write_into (all_written table (other ∷ writes)) write
replaced_next write other writes table true is rest =
    let parts = and_parts (is_of write.0 other) (not (list_any (is_of write.0) writes)) is in
    in_place write other writes table (same_keys other.0 write.0 parts.0) (not-true (list_any (is_of write.0) writes) parts.1)
replaced_next write other writes table false is rest = rest

pub replaced_written : (write : Write) (writes : List Write) (table : Table) → all_written table (replaced write writes) ≡ write_into (all_written table writes) write
replaced_written write [] table = refl
replaced_written write (other ∷ writes) table =
    replaced_next write other writes table (is_of write.0 other && not (list_any (is_of write.0) writes)) refl (replaced_written write writes (write_into table other))

-- so one more write comes to writing after all of them, whatever the floor
pub all_written-with_write : (floor : ℕ) (write : Write) (writes : List Write) (table : Table)
    → all_written table (with_write floor write writes) ≡ write_into (all_written table writes) write
all_written-with_write floor write writes table =
    all_written-append table (take floor writes) (replaced write (drop floor writes))
    ∙ replaced_written write (drop floor writes) (all_written table (take floor writes))
    ∙ ap (λ (t : Table). write_into t write) (sym (all_written-append table (take floor writes) (drop floor writes)) ∙ ap (all_written table) (take-append-drop floor writes))

map-push : {A B : Type 0} (f : A → B) → (xs : List A) (x : A) → map f (xs ++ x ∷ []) ≡ map f xs ++ f x ∷ []
map-push f [] x = refl
map-push f (y ∷ xs) x = ap (λ (l : List _). f y ∷ l) (map-push f xs x)

-- The log, written into a table, gives what the transaction has, and each save of the log gives what was saved.
pub record IsShown (table : Table) (log : Log) (work : Work) : Type 0 where
  pub now : work.table ≡ all_written table log.writes
  pub saves : work.saves ≡ map (all_written table) log.saved

module _ (base : Table) where
  same_heights : (log : Log) (work : Work) → IsShown base log work → length work.saves ≡ length log.saved
  same_heights log work shown = ap length shown.saves ∙ length-map log.saved (all_written base)

  -- as many saves in the log as in the transaction
  pub same_saves : (log : Log) (work : Work) (n : ℕ) → IsShown base log work → has_save work.saves n ≡ has_save log.saved n
  same_saves log work n shown = ap (λ (height : ℕ). nat_lt 0 n && nat_le n height) (same_heights log work shown)

  shown-written : (log : Log) (work : Work) (write : Write) → IsShown base log work → IsShown base (record log { writes = with_write (floor_of log) write log.writes }) (record { table = write_into work.table write; saves = work.saves })
  shown-written log work write shown = record {
    now = ap (λ (t : Table). write_into t write) shown.now ∙ sym (all_written-with_write (floor_of log) write log.writes base);
    saves = shown.saves;
  }

  shown-save : (log : Log) (work : Work) → IsShown base log work
      → IsShown base (record log { saved = log.saved ++ log.writes ∷ [] }) (record { table = work.table; saves = work.saves ++ work.table ∷ [] })
  shown-save log work shown = record {
    now = shown.now;
    saves = ap (λ (l : List Table). l ++ work.table ∷ []) shown.saves ∙ ap (λ (t : Table). map (all_written base) log.saved ++ t ∷ []) shown.now ∙ sym (map-push (all_written base) log.saved log.writes);
  }

  shown-back : (log : Log) (work : Work) (n : ℕ) → has_save log.saved n ≡ true → IsShown base log work
      → IsShown base (record { writes = save_at log.saved n; saved = take n log.saved }) (record { table = slice_index_or work.saves (n - 1) work.table; saves = take n work.saves })
  shown-back log work n is shown =
      let both : (nat_lt 0 n ≡ true) × (nat_le n (length log.saved) ≡ true) = and_parts (nat_lt 0 n) (nat_le n (length log.saved)) is in
      let some : 0 < n = ltb-true 0 n both.0 in
      let within : n ≤ length log.saved = leb-true n (length log.saved) both.1 in
      record {
        now = ap (λ (l : List Table). slice_index_or l (n - 1) work.table) shown.saves ∙ get_or-map (all_written base) log.saved (n - 1) [] work.table (omega (arith, some, within));
        saves = ap (take n) shown.saves ∙ take-map (all_written base) n log.saved;
      }

  shown-del : (log : Log) (work : Work) (name : List ℕ) (key : ℕ) (reply : Reply) (found : Option (List ℕ)) → get work.table (of_table name key) ≡ found → reply ≡ removed found → IsShown base log work
      → IsShown base (log_after log (Del name key) reply) (record { table = remove work.table (of_table name key); saves = work.saves })
  shown-del log work name key reply None none re shown =
      subst (λ r. IsShown base (log_after log (Del name key) r) (record { table = remove work.table (of_table name key); saves = work.saves })) (sym re)
      (subst (λ t. IsShown base log (record { table = t; saves = work.saves })) (sym (remove_absent work.table (of_table name key) none)) shown)
  shown-del log work name key reply (Some value) some re shown =
      subst (λ r. IsShown base (log_after log (Del name key) r) (record { table = remove work.table (of_table name key); saves = work.saves })) (sym re)
      (shown-written log work (of_table name key, None) shown)

  -- what is shown stays shown after a call that gets the right reply
  pub shown-after : (log : Log) (work : Work) (call : TableCall) (reply : Reply) → Answers work call reply → IsShown base log work → IsShown base (log_after log call reply) (after work call)
  shown-after log work (Get name key) reply answers shown = shown
  shown-after log work (Put name key value) reply answers shown = shown-written log work (of_table name key, Some value) shown
  shown-after log work (Del name key) reply answers shown = shown-del log work name key reply (get work.table (of_table name key)) refl answers shown
  shown-after log work (Scan name low high) reply answers shown = shown
  shown-after log work Save reply answers shown = shown-save log work shown
  shown-after log work (Back n) reply answers shown =
      let is : has_save log.saved n ≡ true = sym (same_saves log work n shown) ∙ answers.0 in
      subst (λ b. IsShown base (if b then record { writes = save_at log.saved n; saved = take n log.saved } else log) (after work (Back n))) (sym is)
      (subst (λ b. IsShown base (record { writes = save_at log.saved n; saved = take n log.saved }) (if b then record { table = slice_index_or work.saves (n - 1) work.table; saves = take n work.saves } else work)) (sym answers.0)
      (shown-back log work n is shown))

  -- the log after more calls
  abbrev logged : Log → Granted → Log
  logged log calls = fold (λ was entry. log_after was entry.0 entry.1) log calls

  shown_through : (calls : Granted) (log : Log) (work : Work) → IsRightFrom work calls → IsShown base log work → IsShown base (logged log calls) (worked work calls)
  shown_through [] log work right shown = shown
  shown_through (entry ∷ calls) log work right shown =
      shown_through calls (log_after log entry.0 entry.1) (after work entry.0) right.1 (shown-after log work entry.0 entry.1 right.0 shown)

  -- The log of right calls shows what they leave and what they saved.
  pub log_shows : (calls : Granted) → IsRight base calls → IsShown base (log_of calls) (worked (begun base) calls)
  log_shows calls right = shown_through calls (record { writes = []; saved = [] }) (begun base) right (record { now = refl; saves = refl })

  pub left_is_written : (calls : Granted) → IsRight base calls → left_by base calls ≡ all_written base (log_of calls).writes
  left_is_written calls right = (log_shows calls right).now

  pub saves_are_written : (calls : Granted) → IsRight base calls → (worked (begun base) calls).saves ≡ map (all_written base) (log_of calls).saved
  saves_are_written calls right = (log_shows calls right).saves

  pub as_many_saves : (calls : Granted) → IsRight base calls → length (worked (begun base) calls).saves ≡ length (log_of calls).saved
  as_many_saves calls right = same_heights (log_of calls) (worked (begun base) calls) (log_shows calls right)

  pub has_same_saves : (calls : Granted) (n : ℕ) → IsRight base calls → has_save (worked (begun base) calls).saves n ≡ has_save (log_of calls).saved n
  has_same_saves calls n right = same_saves (log_of calls) (worked (begun base) calls) n (log_shows calls right)
