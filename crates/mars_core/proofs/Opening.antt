-- How a core begins: with the records of the store's data.
use Rattle.std.proofs.Common.{◌≡◌, ℕ, inl, inr, Bool, List, [], length, IsTrue, Option, None, unwrap_or, Ok, refl, sym, ap, subst, ◌∙◌, arith}
use Rattle.std.specs.FinMap.{entries, from_entries, get-entries, get-from_entries}
use Rattle.std.proofs.lemmas.Bool.{cases_eq}
use Rattle.array_shape.specs.declared.shape.Shape.{Shape}
use Rattle.eaw_face.specs.State.{listed}
use Rattle.eaw_face.specs.Causes.{IsAlive}
use Rattle.page_store.specs.Index as below
use Rattle.page_store.specs.Shown.{PagesView}
use Rattle.history.specs.Rows.{NamedRows, records_in, table_of}
use Rattle.history.specs.Writes.{Table}
use Rattle.history.specs.Table.{Granted}
use Rattle.history.specs.declared.transaction.Done.{Done}
use Rattle.history.proofs.Keys.{key_cmp_total}
use Rattle.history.proofs.Agreeing.{same_table}
use Rattle.record_table.specs.State.{TableState}
use Rattle.record_slots.specs.Names.{names_in}
use Rattle.record_table.specs.Names.{names_of}
use Rattle.record_table.specs.Shown.{state_of}
use Rattle.record_table.specs.Shown as shown
use Rattle.record_table.specs.Upgrading.{upgraded, Upgrades}
use Rattle.caller_steps.specs.State.{State, unoffered, calls_of, opened}
use Rattle.caller_steps.specs.Sound.{IsSound}
use Rattle.caller_steps.proofs.Sound.{opened_sound}
use Rattle.mars_core.specs.Over.{limits_of, index_of, Begins, OpensWithTables}
use Rattle.mars_core.specs.Held.{core_over, state_at}
use Rattle.mars_core.specs.Kept.{Mirrors, HasHeld, IsTied, IsKept}
use Rattle.mars_core.specs.Seats.{Seats, live_in, offers_in}
use Rattle.mars_core.proofs.Prefixes.{StoreLaws, safe_alive}
use Rattle.mars_core.proofs.Viewing.{views_are}
use Rattle.mars_core.proofs.Saving.{saves_in}

-- the rows of a table are that table's
module _ (m : Table) (rows : List NamedRows) (is : records_in rows ≡ entries m) where
  pub base_is : table_of rows ≡ m
  base_is = ap from_entries is ∙ same_table (from_entries (entries m)) m (λ q. get-from_entries key_cmp_total (entries m) q ∙ sym (get-entries m q))

  pub base_rows : entries (table_of rows) ≡ records_in rows
  base_rows = ap (λ (table : Table). entries table) base_is ∙ sym is

no_log : (new : State) → ((t : ℕ) → new.live t ≡ None) → (t : ℕ) → calls_of new t ≡ []
no_log new idle t = ap (λ (o : Option Granted). unwrap_or o []) (idle t)

-- A core over records to which nobody has written, with their rows, once their data is in version 2.
module _ (tells : Bool) (Opens : Shape → List ℕ → List ℕ → Type 0) (index : below.Index) (p r : PagesView) (new_laws : StoreLaws tells Opens r.store) (alive : IsAlive p.store) (sound : IsTrue tells → index.sound p.store.state.bytes)
    (idle : IsTrue tells → (t : ℕ) → ((state_of index p).logs t).writes ≡ []) (unsaved : IsTrue tells → (t : ℕ) → ((state_of index p).logs t).saved ≡ []) (fresh : (t : ℕ) → p.counts t ≡ []) (upgrades : Upgrades tells (Opens p.store.shape) index p r (Ok tt))
    (rows : List NamedRows) (are : IsTrue tells → records_in rows ≡ entries (shown.table_of index p.store.state.bytes))
    (free : (t : ℕ) → p.store.ranges t ≡ None) (seats : Seats) (named : IsTrue tells → seats.names ≡ names_of p.store.state.bytes) (count : length seats.places ≡ p.store.shape.numbers) (none : (t : ℕ) → live_in seats t ≡ None) (unoffered_all : (t : ℕ) → offers_in seats t ≡ unoffered) (history : List Done) (empty : history ≡ []) (doubt : List Done) (sure : doubt ≡ []) where
  lives : IsAlive r.store
  lives = (upgrades.faults refl).0 ∙ alive

  still_free : (t : ℕ) → r.store.ranges t ≡ None
  still_free t = elim (cases_eq t 0) [
    | inl e ↦ subst (λ (u : ℕ). r.store.ranges u ≡ None) (sym e) (upgrades.ranges refl ∙ free 0)
    | inr ne ↦ upgrades.others t ne ∙ free t
  ]

  module _ (told : IsTrue tells) where
    state_new : state_of index r ≡ state_of index p
    state_new = upgrades.state told refl

    names_new : names_of r.store.state.bytes ≡ names_of p.store.state.bytes
    names_new = ap names_in (upgrades.tables told refl)

    table_is : table_of rows ≡ shown.table_of index p.store.state.bytes
    table_is = base_is (shown.table_of index p.store.state.bytes) rows (are told)

    -- its state is that of a core that was just opened
    opened_is : state_at index r.store seats.names (table_of rows) history (live_in seats) (offers_in seats) doubt ≡ opened (names_of p.store.state.bytes) (shown.table_of index p.store.state.bytes) (index_of index (upgraded p.store.state.bytes))
    opened_is = λ i. record { names = named told i; base = table_is i; history = empty i; live = λ t. none t i; offers = λ t. unoffered_all t i; doubt = sure i; is_dead = lives i; index = index_of index (upgrades.bytes told i) }

    mirrors : Mirrors (state_of index r) (state_at index r.store seats.names (table_of rows) history (live_in seats) (offers_in seats) doubt)
    mirrors = subst (λ (s : State). Mirrors (state_of index r) s) (sym opened_is) (record {
      table = ap (λ (b : TableState). b.table) state_new;
      logs = λ t. ap (λ (b : TableState). b.logs t) state_new ∙ (λ i. record { writes = idle told t i; saved = unsaved told t i });
    })

    tied_new : IsTied index r (state_at index r.store seats.names (table_of rows) history (live_in seats) (offers_in seats) doubt)
    tied_new = record {
      index_sound = upgrades.sound told;
      version = upgrades.version told;
      named = named told ∙ sym names_new;
      mirrors = mirrors;
      sound = subst IsSound (sym opened_is) (opened_sound (names_of p.store.state.bytes) (shown.table_of index p.store.state.bytes) (index_of index (upgraded p.store.state.bytes)));
      room = subst (HasHeld (limits_of index r.store.shape r.store.depth)) (sym opened_is) (λ caller g. omega arith);
    }

  pub opened_keeps : IsKept tells Opens index r (length seats.places) rows (state_at index r.store seats.names (table_of rows) history (live_in seats) (offers_in seats) doubt)
  opened_keeps = record {
    seats = count ∙ sym (ap (λ (h : Shape). h.numbers) upgrades.shape);
    in_order = λ told. base_rows (shown.table_of index p.store.state.bytes) rows (are told);
    idle = λ _ t none. ap (λ (o : Option (List (ℕ × ℕ))). listed o) (still_free t);
    saves = λ _ t table. ap (λ (f : ℕ → List ℕ). length (f t)) upgrades.saves ∙ ap (λ (counts : List ℕ). length counts) (fresh t) ∙ ap (λ (o : Option Granted). saves_in table (unwrap_or o [])) (sym (none t));
    tied = λ told _. tied_new told;
    safe = λ told. safe_alive tells Opens index r new_laws (state_at index r.store seats.names (table_of rows) history (live_in seats) (offers_in seats) doubt) told lives (tied_new told);
  }

  pub opened_begins : Begins tells (Opens p.store.shape) index p.store r.store (core_over Opens index r.store (state_at index r.store seats.names (table_of rows) history (live_in seats) (offers_in seats) doubt))
  opened_begins = record {
    over = record {
      limits = refl;
      faults = refl;
      moment = refl;
      left = λ since image. (λ left. left, λ left. left);
      opens_to = λ image table. (
        λ o. subst (λ (h : Shape). OpensWithTables (Opens h) index seats.names image table) (sym upgrades.shape) o,
        λ o. subst (λ (h : Shape). OpensWithTables (Opens h) index seats.names image table) upgrades.shape o,
      );
      dead = refl;
      keys = λ told. refl;
      sound = λ told _. upgrades.sound told;
      names = λ told _. names_new told ∙ sym (named told);
      table = λ told _. (mirrors told).table;
      views = λ told _ caller. views_are index r (state_at index r.store seats.names (table_of rows) history (live_in seats) (offers_in seats) doubt) (tied_new told) caller;
    };
    alive = lives;
    faults = (upgrades.faults refl).1;
    shape = upgrades.shape;
    depth = upgrades.depth;
    mirrors = upgrades.mirrors;
    state = opened_is;
    fresh = (empty, none, sure, unoffered_all);
    sound = sound;
    bytes = upgrades.bytes;
    version = upgrades.version;
    keys = λ told. upgrades.keys told refl;
    time = λ told. upgrades.exact told alive;
  }
