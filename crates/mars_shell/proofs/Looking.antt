-- A caller that looks at all records of `main` while no other has a transaction.
use Rattle.std.proofs.Common.{◌≡◌, ◌≢◌, ◌⊎◌, ◌&&◌, ◌^◌, ◌-◌, ◌<◌, ◌≤◌, inl, inr, ℕ, zero, suc, Bool, true, false, cond, List, [], ◌∷◌, ◌++◌, filter, refl, sym, ap, subst, ◌∙◌, arith}
use Rattle.std.specs.Prelude.{IsTrue, IsFalse, nat_eq, nat_le, is_some, slice_get, unwrap_or, codes, Option, Some, None}
use Rattle.std.proofs.lemmas.Bool.{false≢true}
use Rattle.std.proofs.lemmas.Map.{update_here, update_apart}
use Rattle.history.specs.Key.{main_name}
use Rattle.history.specs.Locks.{Meets, touches, has_table}
use Rattle.history.specs.Table.{Granted, worked}
use Rattle.history.specs.Table.{begun as work_on}
use Rattle.history.specs.Writes.{Table, Row, is_within, rows_of, rows_within}
use Rattle.history.specs.declared.call.Call.TheVariants.{Begin, Table as OnTable}
use Rattle.history.specs.declared.call.TableCall.TheVariants.{Scan}
use Rattle.history.specs.declared.call.Reply.{Reply}
use Rattle.history.specs.declared.call.Reply.TheVariants as told
use Rattle.history.proofs.Modes.{clash_none}
use Rattle.record_slots.specs.Names.{names_in, number_of}
use Rattle.record_slots.specs.Places.{page_bytes, version_of, tables_of}
use Rattle.record_slots.specs.Super.{IsMain, AreTables, HasTables, tables_in, tables_used, tables_said, entries_said}
use Rattle.record_slots.specs.declared.super_page.TableEntry.{TableEntry}
use Rattle.record_slots.proofs.Numbering.{first_is}
use Rattle.page_store.specs.Index as below
use Rattle.page_store.specs.Index.{HasCounts}
use Rattle.page_store.specs.Pairs.{Pair, Rise}
use Rattle.page_store.specs.Records as pages
use Rattle.record_table.specs.Names.{names_of, IsCalled}
use Rattle.record_table.specs.Shown.{pairs_of, table_in, table_of}
use Rattle.record_table.proofs.RowsOf.{rows_are}
use Rattle.record_table.proofs.Sharing.{Laws, found_in}
use Rattle.record_table.proofs.Tables.{record_at}
use Rattle.caller_steps.specs.State as state
use Rattle.caller_steps.specs.State.{State, unoffered, records_of, calls_of, with_live}
use Rattle.caller_steps.specs.Locked.{IsBusyWith}
use Rattle.caller_steps.specs.Room.{Limits}
use Rattle.caller_steps.specs.Step.{StepOf, Step}
use Rattle.mars_core.specs.Over.{ShowsAll}
use Rattle.mars_shell.specs.Lines.{goes_on}
use Rattle.mars_shell.specs.Tally.{last_key}
use Rattle.mars_shell.proofs.Resting.{AllUnoffered}

-- ---- keys have 64 bits

-- the first table of sound data is `main`
first_name : (tables : List TableEntry) → IsMain (slice_get tables 0) → slice_get (names_in tables) 0 ≡ Some main_name
first_name [] main = absurd main
first_name (table ∷ tables) main = ap (λ (name : List ℕ). Some name) main.0

main_in : (version pages : ℕ) (entries : List ℕ) → 1 ≤ version → version ≤ 2 → HasTables version pages entries → slice_get (names_in (tables_in version entries)) 0 ≡ Some main_name
main_in zero pages entries low high has = absurd (omega (arith, low))
main_in (suc zero) pages entries low high has = refl
main_in (suc (suc zero)) pages entries low high has = first_name (tables_used entries) (has refl).1.main
main_in (suc (suc (suc version))) pages entries low high has = absurd (omega (arith, high))

main_called : (bytes : List ℕ) → HasCounts bytes → IsCalled bytes 0 main_name
unfolding tables_said
main_called bytes counts = main_in (version_of bytes) _ _ counts.oldest counts.newest counts.tables

le_true : (a b : ℕ) → a ≤ b → nat_le a b ≡ true
le_true a b le = grind arith

row_kept : (key : ℕ) (said : Option (List ℕ)) (rest : List Row) → key < 2 ^ 64 → filter (is_within 0 last_key) rest ≡ rest → filter (is_within 0 last_key) (pages.row_at key said ++ rest) ≡ pages.row_at key said ++ rest
row_kept key None rest less kept = kept
row_kept key (Some value) rest less kept =
    ap (λ (b : Bool). cond b ((key, value) ∷ filter (is_within 0 last_key) rest) (filter (is_within 0 last_key) rest)) (λ i. le_true 0 key (omega arith) i && le_true key last_key (omega (arith, less)) i)
    ∙ ap (λ (l : List Row). (key, value) ∷ l) kept

below_end : (low high : ℕ) (pairs : List Pair) → Rise low high pairs → low ≤ high
below_end low high [] rise = rise
below_end low high (pair ∷ pairs) rise = let later = below_end (suc pair.0) high pairs rise.1 in omega (arith, rise.0, later)

all_kept : (bytes : List ℕ) (low : ℕ) (pairs : List Pair) → Rise low (2 ^ 64) pairs → filter (is_within 0 last_key) (pages.rows_of bytes pairs) ≡ pages.rows_of bytes pairs
all_kept bytes low [] rise = refl
all_kept bytes low (pair ∷ pairs) rise =
    let later = below_end (suc pair.0) (2 ^ 64) pairs rise.1 in
    row_kept pair.0 (record_at bytes (Some pair.1)) (pages.rows_of bytes pairs) (omega (arith, later)) (all_kept bytes (suc pair.0) pairs rise.1)

module _ (index : below.Index) (laws : Laws index) (bytes : List ℕ) (sound : index.sound bytes) where
  called : IsCalled bytes 0 main_name
  called = main_called bytes (laws.counts bytes sound)

  rows : rows_of main_name (table_of index bytes) ≡ pages.rows_of bytes (index.pairs bytes 1)
  unfolding table_of
  rows = rows_are bytes main_name (pairs_of index bytes) 0 (2 ^ 64) (index.pairs bytes 1) (laws.rises bytes 0 1 sound (laws.counts bytes sound).main)
      (λ k. found_in index laws bytes 0 1 k main_name sound called (laws.counts bytes sound).main)

  -- all records of `main` have keys up to the last one
  pub all_within : rows_within main_name 0 last_key (table_of index bytes) ≡ rows_of main_name (table_of index bytes)
  all_within = ap (filter (is_within 0 last_key)) rows ∙ all_kept bytes 0 (index.pairs bytes 1) (laws.rises bytes 0 1 sound (laws.counts bytes sound).main) ∙ sym rows

  pub main_there : number_of (names_of bytes) main_name ≡ Some 0
  main_there = first_is (names_of bytes) main_name 0 called (λ k less. absurd (omega (arith, less)))

-- ---- the look

module _ (limits : Limits) (old : State) (alive : old.is_dead ≡ false) (none : (c : ℕ) → old.live c ≡ None) (free : AllUnoffered old) where
  begun : State
  begun = with_live old 0 (Some [])

  -- the caller begins,
  pub begins : (reply : Reply) (mid : State) → Step limits old 0 Begin reply mid → (reply ≡ told.Fine) × (mid ≡ with_live old 0 (Some []))
  begins reply mid step = subst (λ (x : Bool × state.Offer × Option Granted). StepOf limits x.0 x.1 x.2 old 0 Begin reply mid) (λ i. (alive i, free 0 i, none 0 i)) step.acts

  nobody_else : (holder : ℕ) → holder ≢ 0 → calls_of (with_live old 0 (Some [])) holder ≡ []
  nobody_else holder apart = ap (λ (o : Option Granted). unwrap_or o []) (update_apart old.live 0 (Some []) holder apart ∙ none holder)

  free_of : (holder : ℕ) → IsBusyWith (with_live old 0 (Some [])) 0 (Scan main_name 0 last_key) holder → ⊥
  free_of holder busy =
      let meets : Meets old.names (Scan main_name 0 last_key) [] = subst (λ (calls : Granted). Meets old.names (Scan main_name 0 last_key) calls) (nobody_else holder busy.0.0) busy.0.1 in
      false≢true (sym (clash_none (touches old.names (Scan main_name 0 last_key) meets.0)) ∙ meets.1)

  -- and all records of `main` are listed
  module _ (there : IsTrue (has_table old.names (Scan main_name 0 last_key))) (whole : rows_within main_name 0 last_key (records_of old) ≡ rows_of main_name (records_of old)) (reply : Reply) (new : State) (goes : IsTrue (goes_on reply))
      (step : Step limits (with_live old 0 (Some [])) 0 (OnTable (Scan main_name 0 last_key)) reply new) where
    scan_acts : StepOf limits false unoffered (Some []) (with_live old 0 (Some [])) 0 (OnTable (Scan main_name 0 last_key)) reply new
    scan_acts = subst (λ (x : Bool × state.Offer × Option Granted). StepOf limits x.0 x.1 x.2 (with_live old 0 (Some [])) 0 (OnTable (Scan main_name 0 last_key)) reply new)
        (λ i. (alive i, free 0 i, update_here old.live 0 (Some []) i)) step.acts

    listed : StepOf limits false unoffered (Some []) (with_live old 0 (Some [])) 0 (OnTable (Scan main_name 0 last_key)) reply new → reply ≡ told.Listed (rows_of main_name (records_of new))
    listed (inl (bad, same)) = absurd (bad.0 there)
    listed (inr (has, inl says)) = absurd (false≢true (ap goes_on (sym says.0) ∙ goes))
    listed (inr (has, inr (inl held))) = absurd (free_of held.0 held.1)
    listed (inr (has, inr (inr (is_free, inl grants)))) =
        grants.0 ∙ ap told.Listed (ap (λ (o : Option Granted). rows_within main_name 0 last_key (worked (work_on (records_of old)) (unwrap_or o [])).table) (update_here old.live 0 (Some []))
        ∙ whole ∙ ap (λ (s : State). rows_of main_name (records_of s)) (sym grants.4))
    listed (inr (has, inr (inr (is_free, inr (inl refuses))))) = absurd refuses.0
    listed (inr (has, inr (inr (is_free, inr (inr fails))))) = absurd (false≢true (ap goes_on (sym fails.1.0) ∙ goes))

    pub looks : reply ≡ told.Listed (rows_of main_name (records_of new))
    looks = listed scan_acts

-- what the data of a state shows
module _ (index : below.Index) (laws : Laws index) (s : State) (shows : ShowsAll index s) where
  pub shown_within : rows_within main_name 0 last_key (records_of s) ≡ rows_of main_name (records_of s)
  shown_within = subst (λ (t : Table). rows_within main_name 0 last_key t ≡ rows_of main_name t) shows.table (all_within index laws s.index.bytes shows.sound)

  pub shown_main : IsTrue (is_some (number_of s.names main_name))
  shown_main = ap is_some (ap (λ (names : List (List ℕ)). number_of names main_name) (sym shows.names) ∙ main_there index laws s.index.bytes shows.sound)
