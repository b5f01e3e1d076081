-- A commit of several numbers, as one call of pages.
use Rattle.std.proofs.Common.{◌≡◌, ◌≢◌, ℕ, ◌⊎◌, Bool, true, false, cond, inl, inr, IsTrue, List, [], ◌∷◌, ◌++◌, length, map, Result, Ok, Err, refl, sym, ◌∙◌, ap, subst, arith}
use Rattle.std.specs.Prelude.{None, flat_map}
use Rattle.std.specs.Option.{option_map}
use Rattle.std.proofs.lemmas.Bool.{false≢true}
use Rattle.std.proofs.lemmas.List.{length-append}
use Rattle.mars_base.proofs.Going.{stays, weaker}
use Rattle.array_shape.specs.declared.shape.Shape.{Shape}
use Rattle.array_shape.specs.Logged.{Part, applied, ranges_of}
use Rattle.eaw_face.specs.StoreView.{StoreView, LeavesOnly}
use Rattle.eaw_face.specs.State.{Logs, listed, is_one_of, with_each, group_log}
use Rattle.eaw_face.specs.Causes.{IsAlive}
use Rattle.history.specs.Log.{Log}
use Rattle.history.specs.Writes.{Write, all_written}
use Rattle.page_store.specs.Command as page
use Rattle.page_store.specs.Does as page_does
use Rattle.record_slots.specs.Names.{names_in}
use Rattle.record_slots.specs.Places.{version_of, tables_of}
use Rattle.page_store.specs.Index.{Index}
use Rattle.page_store.specs.Outline.{Outline}
use Rattle.page_store.specs.Shown.{PagesView, Shown, pages_of, outline_of}
use Rattle.page_store.specs.Shown as pages
use Rattle.page_store.specs.State.{PagesState, log_of}
use Rattle.page_store.specs.declared.fault.PageFault.{PageFault}
use Rattle.page_store.specs.declared.fault.PageFault.TheVariants as fault
use Rattle.record_table.specs.Does.{OpensWith, OpensAs}
use Rattle.record_table.specs.Faults.{told_as}
use Rattle.record_table.specs.Groups.{group_writes, after_group, CommitsGroup}
use Rattle.record_table.specs.Invariant.{AreSlotParts, Holds}
use Rattle.record_table.specs.Shown.{table_of, write_of, writes_of, state_of, shown_by, keys_of}
use Rattle.record_table.specs.State.{TableState}
use Rattle.record_table.specs.declared.fault.TableFault.{TableFault}
use Rattle.record_table.specs.declared.fault.TableFault.TheVariants.{Dead}
use Rattle.record_table.proofs.Ending.{no_parts}
use Rattle.record_table.proofs.Holding.{as_many_writes}
use Rattle.record_table.proofs.Moving.{opens_with}
use Rattle.record_table.proofs.Sharing.{Laws, called_same}
use Rattle.record_table.proofs.SlotParts.{IsWritten, applied_parts, parts_carry}
use Rattle.record_table.proofs.States.{logs_same}
use Rattle.eaw_face.proofs.Mirroring.{none_sent}

parts_append : (index : Index) (d : List ℕ) (ps qs : List Part) → AreSlotParts index d ps → AreSlotParts index d qs → AreSlotParts index d (ps ++ qs)
parts_append index d [] qs one other = other
parts_append index d (p ∷ ps) qs one other = (one.0, parts_append index d ps qs one.1 other)

writes_append : (d : List ℕ) (ps qs : List Part) → writes_of d (ps ++ qs) ≡ writes_of d ps ++ writes_of d qs
writes_append d [] qs = refl
writes_append d (p ∷ ps) qs = ap (λ (ws : List Write). write_of d p ∷ ws) (writes_append d ps qs)

-- what the parts of a group stand for
pub group_said : (d : List ℕ) (logs : Logs Part) (ts : List ℕ) → writes_of d (group_log logs ts) ≡ flat_map (λ t. writes_of d (listed (logs t))) ts
group_said d logs [] = refl
group_said d logs (t ∷ ts) = writes_append d (listed (logs t)) (group_log logs ts) ∙ ap (λ (ws : List Write). writes_of d (listed (logs t)) ++ ws) (group_said d logs ts)

module _ (index : Index) (laws : Laws index) (s : PagesState) (ts : List ℕ) (sound : index.sound s.store.bytes) (parts : (t : ℕ) → AreSlotParts index s.store.bytes (log_of s t)) where
  group_slots : (us : List ℕ) → AreSlotParts index s.store.bytes (group_log s.store.logs us)
  group_slots [] = tt
  group_slots (u ∷ us) = parts_append index s.store.bytes (log_of s u) (group_log s.store.logs us) (parts u) (group_slots us)

  pub group_written : IsWritten index laws s.store.bytes (group_log s.store.logs ts) (applied (group_log s.store.logs ts) s.store.bytes)
  group_written = applied_parts index laws (group_log s.store.logs ts) s.store.bytes sound (group_slots ts)

  pub group_parts : (u : ℕ) → AreSlotParts index (applied (group_log s.store.logs ts) s.store.bytes) (log_of (page.after (page.end_group ts) s) u)
  group_parts u = go (is_one_of ts u)
    where
      go : (b : Bool) → AreSlotParts index (applied (group_log s.store.logs ts) s.store.bytes) (listed (cond b None (s.store.logs u)))
      go true = tt
      go false = parts_carry index laws s.store.bytes (applied (group_log s.store.logs ts) s.store.bytes) (called_same s.store.bytes (applied (group_log s.store.logs ts) s.store.bytes) group_written.tables) group_written.pairs group_written.size (log_of s u) (parts u)

  group_logs : (λ (u : ℕ). let log : Log = record { writes = writes_of s.store.bytes (listed (with_each s.store.logs ts None u)); saved = map (writes_of s.store.bytes) (with_each s.saved ts [] u) } in log)
      ≡ with_each (λ (u : ℕ). let log : Log = record { writes = writes_of s.store.bytes (log_of s u); saved = map (writes_of s.store.bytes) (s.saved u) } in log) ts (record { writes = []; saved = [] })
  group_logs = λ i u. go u (is_one_of ts u) i
    where
      go : (u : ℕ) (b : Bool) → (let log : Log = record { writes = writes_of s.store.bytes (listed (cond b None (s.store.logs u))); saved = map (writes_of s.store.bytes) (cond b [] (s.saved u)) } in log)
          ≡ cond b (record { writes = []; saved = [] }) (record { writes = writes_of s.store.bytes (log_of s u); saved = map (writes_of s.store.bytes) (s.saved u) })
      go u true = refl
      go u false = refl

  pub group_shown : shown_by index (page.after (page.end_group ts) s) ≡ after_group ts (shown_by index s)
  group_shown = λ i. record {
    table = (group_written.table ∙ ap (all_written (table_of index s.store.bytes)) (group_said s.store.bytes s.store.logs ts)) i;
    logs = (logs_same s.store.bytes (applied (group_log s.store.logs ts) s.store.bytes) group_written.tables (with_each s.store.logs ts None) (with_each s.saved ts []) ∙ group_logs) i;
  }

module _ (tells : Bool) (Opens : List ℕ → List ℕ → Type 0) (index : Index) (laws : Laws index) (ts : List ℕ) (old new : PagesView) (holds : Holds tells index old) where
  abbrev before : PagesState
  before = pages.state_of old

  abbrev behind : PagesState
  behind = page.after (page.end_group ts) before

  its_keys : IsAlive old.store → IsTrue tells → keys_of index behind.store.bytes ≡ keys_of index old.store.state.bytes
  its_keys alive told =
      let tied = (holds alive).tied told in
      let w = group_written index laws before ts tied.sound tied.parts in
      w.keys

  its_tables : IsAlive old.store → IsTrue tells → tables_of behind.store.bytes ≡ tables_of old.store.state.bytes
  its_tables alive told =
      let tied = (holds alive).tied told in
      let w = group_written index laws before ts tied.sound tied.parts in
      w.tables

  its_version : IsAlive old.store → IsTrue tells → version_of behind.store.bytes ≡ version_of old.store.state.bytes
  its_version alive told =
      let tied = (holds alive).tied told in
      let w = group_written index laws before ts tied.sound tied.parts in
      w.version

  its_state : IsAlive old.store → IsTrue tells → shown_by index behind ≡ after_group ts (state_of index old)
  its_state alive told = let tied = (holds alive).tied told in group_shown index laws before ts tied.sound tied.parts

  its_bytes : group_writes (state_of index old) ts ≡ [] → behind.store.bytes ≡ old.store.state.bytes
  its_bytes none = no_parts index (group_log old.store.state.logs ts) old.store.state.bytes (group_said old.store.state.bytes old.store.state.logs ts ∙ none)

  time_of : {T : Type 0} (r : Result T PageFault) → IsAlive old.store → page_does.Does tells Opens (page.end_group ts) old new r → IsTrue tells
      → LeavesOnly (λ image. OpensAs Opens index image old.store.state.bytes (state_of index old).table ⊎ OpensAs Opens index image old.store.state.bytes (after_group ts (state_of index old)).table) old.store new.store
  time_of r alive does told =
      let tied = (holds alive).tied told in
      let w = group_written index laws before ts tied.sound tied.parts in
      weaker (λ image either. elim either [
        | inl was ↦ inl (record { bytes = old.store.state.bytes; opened = was; sound = tied.sound; version = λ two. two; named = refl; shows = refl })
        | inr is ↦ inr (record {
          bytes = behind.store.bytes;
          opened = is;
          sound = w.sound;
          version = λ two. its_version alive told ∙ two;
          named = ap names_in (its_tables alive told);
          shows = ap (λ (s : TableState). s.table) (its_state alive told);
        })
      ]) (does.time told alive)

  -- so it opens with the records before or after
  with_of : {T : Type 0} (r : Result T PageFault) → IsAlive old.store → page_does.Does tells Opens (page.end_group ts) old new r → IsTrue tells
      → LeavesOnly (λ image. OpensWith Opens index image (state_of index old).table ⊎ OpensWith Opens index image (after_group ts (state_of index old)).table) old.store new.store
  with_of r alive does told = weaker (λ image either. elim either [
    | inl was ↦ inl (opens_with Opens index image _ _ was)
    | inr is ↦ inr (opens_with Opens index image _ _ is)
  ]) (time_of r alive does told)

  other : {T : Type 0} (r : Result T PageFault) → page_does.Does tells Opens (page.end_group ts) old new r → (u : ℕ) → is_one_of ts u ≡ false → new.store.ranges u ≡ old.store.ranges u
  other r does u away = does.others u (λ so. false≢true (sym away ∙ so))

  counts_away : (u : ℕ) → is_one_of ts u ≡ false → with_each old.counts ts [] u ≡ old.counts u
  counts_away u away = ap (λ (b : Bool). cond b [] (old.counts u)) away

  counts_here : (u : ℕ) → is_one_of ts u ≡ true → with_each old.counts ts [] u ≡ []
  counts_here u here = ap (λ (b : Bool). cond b [] (old.counts u)) here

  ranges_here : (u : ℕ) → is_one_of ts u ≡ true → with_each old.store.ranges ts None u ≡ None
  ranges_here u here = ap (λ (b : Bool). cond b None (old.store.ranges u)) here

  pub group_ends : (r : Result (Unit {0}) PageFault) → page_does.Does tells Opens (page.end_group ts) old new r → ((f : PageFault) → r ≡ Err f → f ≢ fault.Media → new ≡ old) → CommitsGroup tells Opens index ts old new (told_as r) × Holds tells index new
  group_ends (Ok done) does same =
      let alive = does.cause.0 in
      let out = does.done.outline in
      let now = λ (told : IsTrue tells). does.done.state told in (
        record {
          shape = does.shape;
          depth = does.depth;
          mirrors = does.mirrors;
          cause = alive;
          faults = λ _. (does.done.alive ∙ sym alive, does.kept);
          dies = λ failed. absurd (false≢true failed);
          done = λ told. ap (shown_by index) (now told) ∙ its_state alive told;
          refused = λ told _. tt;
          indexed = λ told _. ap (λ (s : PagesState). keys_of index s.store.bytes) (now told) ∙ its_keys alive told;
          version = λ told _ two. ap (λ (s : PagesState). version_of s.store.bytes) (now told) ∙ its_version alive told ∙ two;
          tables = λ told _. ap (λ (s : PagesState). tables_of s.store.bytes) (now told) ∙ its_tables alive told;
          quiet = λ told _ none. ap (λ (s : PagesState). s.store.bytes) (now told) ∙ its_bytes none;
          free = λ u here. ap (λ (o : Outline). o.ranges u) out ∙ ranges_here u here;
          saves = λ u here. ap (λ (o : Outline). o.counts u) out ∙ counts_here u here;
          same_saves = tt;
          others = λ u away. (other (let r : Result (Unit {0}) PageFault = Ok done in r) does u away, ap (λ (o : Outline). o.counts u) out ∙ counts_away u away);
          time = λ told _. with_of (let r : Result (Unit {0}) PageFault = Ok done in r) alive does told;
          named = λ told _. time_of (let r : Result (Unit {0}) PageFault = Ok done in r) alive does told;
        },
        λ living. record {
          closed = λ u. ap (λ (o : Outline). o.top u) out ∙ (holds alive).closed u;
          tied = λ told.
              let tied = (holds alive).tied told in
              let w = group_written index laws before ts tied.sound tied.parts in
              record {
                sound = subst (λ (s : PagesState). index.sound s.store.bytes) (sym (now told)) w.sound;
                parts = λ u. subst (λ (s : PagesState). AreSlotParts index s.store.bytes (log_of s u)) (sym (now told)) (group_parts index laws before ts tied.sound tied.parts u);
              };
        },
      )
  group_ends (Err fault.Media) does same =
      let alive = does.cause.0 in (
        record {
          shape = does.shape;
          depth = does.depth;
          mirrors = does.mirrors;
          cause = alive;
          faults = λ well. absurd (false≢true (sym well));
          dies = λ _. (does.dies refl, does.cause.2);
          done = λ told. tt;
          refused = λ told well. absurd (false≢true (sym well));
          indexed = λ told well. absurd (false≢true (sym well));
          version = λ told well. absurd (false≢true (sym well));
          tables = λ told well. absurd (false≢true (sym well));
          quiet = λ told well. absurd (false≢true (sym well));
          free = tt;
          saves = tt;
          same_saves = does.marks.0;
          others = λ u away. (other (let r : Result (Unit {0}) PageFault = Err fault.Media in r) does u away, ap (λ (f : ℕ → List ℕ). f u) does.marks.0);
          time = λ told _. with_of (let r : Result (Unit {0}) PageFault = Err fault.Media in r) alive does told;
          named = λ told _. time_of (let r : Result (Unit {0}) PageFault = Err fault.Media in r) alive does told;
        },
        λ living. absurd (false≢true (sym living ∙ does.dies refl)),
      )
  group_ends (Err fault.Dead) does same = let e = same fault.Dead refl (λ x. cc) in (
    subst (λ (v : PagesView). CommitsGroup tells Opens index ts old v (let r : Result (Unit {0}) TableFault = Err Dead in r)) (sym e) (record {
      shape = refl;
      depth = refl;
      mirrors = none_sent tells old.store old.store refl refl refl refl (λ fine. fine) (λ told mirrors fine. refl);
      cause = does.cause;
      faults = λ _. (refl, refl);
      dies = λ failed. absurd (false≢true failed);
      done = λ told. tt;
      refused = λ told _. refl;
      indexed = λ told _. refl;
      version = λ told _ two. two;
      tables = λ told _. refl;
      quiet = λ told _ _. refl;
      free = tt;
      saves = tt;
      same_saves = refl;
      others = λ u away. (refl, refl);
      time = λ told _. stays old.store.moment old.store.left_since _;
      named = λ told _. stays old.store.moment old.store.left_since _;
    }),
    subst (Holds tells index) (sym e) holds,
  )
  group_ends (Err fault.SavesFull) does same = absurd does.cause.1
  group_ends (Err (fault.LogFull g h n)) does same = absurd does.cause.1
  group_ends (Err (fault.Damaged bad)) does same = absurd does.cause

-- the same for values that show pages
module _ {S : Type 0} (view : S → StoreView) (tells : Bool) (Opens : Shape → List ℕ → List ℕ → Type 0) (index : Index) (laws : Laws index) (ts : List ℕ) (arg inside : Shown S) (same : inside ≡ arg) where
  pub group_ended : (new : Shown S) → Holds tells index (pages_of (view inside.store) inside) → (r : Result (Unit {0}) PageFault)
      → page_does.Does tells (Opens (view inside.store).shape) (page.end_group ts) (pages_of (view inside.store) inside) (pages_of (view new.store) new) r
      → ((f : PageFault) → r ≡ Err f → f ≢ fault.Media → new ≡ inside) → (s : Result (Unit {0}) TableFault) → s ≡ told_as r
      → CommitsGroup tells (Opens (view arg.store).shape) index ts (pages_of (view arg.store) arg) (pages_of (view new.store) new) s × Holds tells index (pages_of (view new.store) new)
  group_ended new holds r does unchanged s is =
      let both = group_ends tells (Opens (view inside.store).shape) index laws ts (pages_of (view inside.store) inside) (pages_of (view new.store) new) holds r does
      (λ f e ne. ap (λ (p : Shown S). pages_of (view p.store) p) (unchanged f e ne)) in (
        subst (λ (p : Shown S). CommitsGroup tells (Opens (view p.store).shape) index ts (pages_of (view p.store) p) (pages_of (view new.store) new) s) same
            (subst (λ (x : Result (Unit {0}) TableFault). CommitsGroup tells (Opens (view inside.store).shape) index ts (pages_of (view inside.store) inside) (pages_of (view new.store) new) x) (sym is) both.0),
        both.1,
      )

-- a group has as many writes as logged parts
pub as_many_in_group : (index : Index) (view : PagesView) (ts : List ℕ) → ((t : ℕ) → view.store.ranges t ≡ option_map ranges_of (view.store.state.logs t))
    → length (group_log view.store.ranges ts) ≡ length (group_writes (state_of index view) ts)
as_many_in_group index view [] outlined = refl
as_many_in_group index view (t ∷ ts) outlined =
    let log = listed (view.store.state.logs t) in
    omega (
      arith,
      as_many_writes index view t (outlined t),
      as_many_in_group index view ts outlined,
      length-append (listed (view.store.ranges t)) (group_log view.store.ranges ts),
      length-append ((state_of index view).logs t).writes (group_writes (state_of index view) ts),
    )
