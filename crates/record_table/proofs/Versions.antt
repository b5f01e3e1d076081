-- An upgrade of the super page, by a look at it and a write of it.
use Rattle.std.proofs.Common.{◌≡◌, ◌≢◌, ℕ, zero, suc, ◌≤◌, Bool, true, false, cond, inl, inr, IsTrue, List, [], ◌∷◌, length, take, drop, Result, Ok, Err, refl, sym, ◌∙◌, ap, subst, arith}
use Rattle.std.specs.Prelude.{nat_eq, Some, IsFalse, OnOk}
use Rattle.std.proofs.lemmas.Bool.{false≢true}
use Rattle.std.proofs.lemmas.List.{drop_all}
use Rattle.mars_base.specs.Bytes.{put}
use Rattle.mars_base.proofs.Going.{stays, weaker, then}
use Rattle.array_shape.specs.declared.shape.Shape.{Shape}
use Rattle.array_shape.specs.Places.{logger_of}
use Rattle.array_shape.specs.Parts.{parts_of_write, first_parts_of_write}
use Rattle.array_shape.specs.Logged.{ranges_of}
use Rattle.eaw_face.specs.State.{State, listed, count_on}
use Rattle.eaw_face.specs.StoreView.{LeavesOnly}
use Rattle.eaw_face.specs.Causes.{IsAlive, fit}
use Rattle.record_slots.specs.Names.{names_in}
use Rattle.record_slots.specs.Super.{SaysSuper, main_bytes, main_super}
use Rattle.record_slots.specs.Places.{page_bytes, version_of, tables_of}
use Rattle.record_slots.specs.declared.super_page.Super.{Super}
use Rattle.page_store.specs.Command as page
use Rattle.page_store.specs.Does as page_does
use Rattle.page_store.specs.Index.{Index, IsTable}
use Rattle.page_store.specs.Inserts.{KeepsLogs}
use Rattle.page_store.specs.Looks.{LookCause}
use Rattle.page_store.specs.Looks as look
use Rattle.page_store.specs.Outline.{Outline}
use Rattle.page_store.specs.Shown.{PagesView}
use Rattle.page_store.specs.Shown as pages
use Rattle.page_store.specs.State.{PagesState, log_of}
use Rattle.page_store.specs.declared.fault.PageFault.{PageFault}
use Rattle.page_store.specs.declared.fault.PageFault.TheVariants as fault
use Rattle.record_table.specs.Does.{OpensNamed, OpensAs, is_failed}
use Rattle.record_table.specs.Faults.{as_table, told_as}
use Rattle.record_table.specs.Invariant.{AreSlotParts, Rests, Holds}
use Rattle.record_table.specs.Names.{names_of}
use Rattle.record_table.specs.Shown.{table_of, state_of, shown_by, keys_of}
use Rattle.record_table.specs.Sought.{LooksAs}
use Rattle.record_table.specs.Upgrading.{upgraded, OpensUpgraded, Upgrades, UpgradeCause}
use Rattle.record_table.specs.declared.fault.TableFault.{TableFault}
use Rattle.record_table.specs.declared.fault.TableFault.TheVariants as refusal
use Rattle.record_table.proofs.Moving.{Moved, Failed, opens_with, moved_by_look, moved_so, failed_by_look, moved_then, failed_then, rests_moved}
use Rattle.record_table.proofs.Sharing.{Laws, called_same}
use Rattle.record_table.proofs.SlotParts.{parts_carry}
use Rattle.record_table.proofs.Upgraded.{Upgraded, front_of, main_of, two_upgraded, older_upgraded, is_upgraded}
use Rattle.eaw_face.proofs.Mirroring.{none_sent}
use Rattle.eaw_face.proofs.Rooms.{first_unfit}

-- a write of one page is one part, which any log has room for
no_parts : (n at : ℕ) → first_parts_of_write n at [] ≡ []
no_parts zero at = refl
no_parts (suc n) at = refl

one_on : (shape : Shape) (g : ℕ) (part : ℕ × List ℕ) → count_on shape g (ranges_of (part ∷ [])) ≤ 1
one_on shape g part = go (nat_eq (logger_of shape part.0) g)
  where
    go : (b : Bool) → length {A = ℕ × ℕ} (cond b ((part.0, length part.1) ∷ []) []) ≤ 1
    go true = omega arith
    go false = omega arith

one_part : (shape : Shape) (g : ℕ) (bytes : List ℕ) → length bytes ≡ 512 → count_on shape g (ranges_of (parts_of_write 0 bytes)) ≤ 1
unfolding parts_of_write
one_part shape g [] long = absurd (omega (arith, long))
one_part shape g (b ∷ bs) long =
    let rest : first_parts_of_write (length bs) 512 (drop 512 (b ∷ bs)) ≡ [] = ap (first_parts_of_write (length bs) 512) (drop_all 512 (b ∷ bs) (omega (arith, long))) ∙ no_parts (length bs) 512 in
    subst (λ (ps : List (ℕ × List ℕ)). count_on shape g (ranges_of ((0, take 512 (b ∷ bs)) ∷ ps)) ≤ 1) (sym rest) (one_on shape g (0, take 512 (b ∷ bs)))

pub page_fits : (shape : Shape) (bytes : List ℕ) (g h n : ℕ) → 8 ≤ shape.entries → length bytes ≡ 512 → fit shape [] (ranges_of (parts_of_write 0 bytes)) (Some (g, h, n)) → ⊥
page_fits shape bytes g h n some long told = let full = first_unfit shape [] (ranges_of (parts_of_write 0 bytes)) g h n told in let one = one_part shape g bytes long in omega (arith, some, full.full, full.held_is, full.needed_is, one)

-- what holds anyway holds after an Ok
on_ok : {P : Type 0} (r : Result (Unit {0}) TableFault) → P → OnOk r P
on_ok (Ok done) p = p
on_ok (Err fault) p = tt

module _ (tells : Bool) (Opens : List ℕ → List ℕ → Type 0) (index : Index) where
  -- at each moment the records and the names are left
  abbrev IsNamedTime : PagesView → PagesView → Type 0
  IsNamedTime old new = LeavesOnly (λ image. OpensNamed Opens index image (names_of old.store.state.bytes) (state_of index old).table) old.store new.store

  -- as by a look
  named_by_look : (failed : Bool) (old new : PagesView) → IsAlive old.store → Holds tells index old → LooksAs tells Opens 0 failed old new → IsTrue tells → IsNamedTime old new
  named_by_look failed old new alive holds looks told =
      weaker (λ image opens. record { bytes = old.store.state.bytes; opened = opens; sound = ((holds alive).tied told).sound; named = refl; shows = refl }) (looks.time told alive)

  -- an upgrade that leaves records, writes and saves as they were
  moved_upgrades : (old new : PagesView) (r : Result (Unit {0}) TableFault) → IsFalse (is_failed r) → UpgradeCause tells old r → Moved tells Opens index 0 old new
      → (IsTrue tells → OnOk r (new.store.state.bytes ≡ upgraded old.store.state.bytes)) → (IsTrue tells → OnOk r (version_of new.store.state.bytes ≡ 2)) → (IsTrue tells → tables_of new.store.state.bytes ≡ tables_of old.store.state.bytes)
      → (IsTrue tells → keys_of index new.store.state.bytes ≡ keys_of index old.store.state.bytes)
      → (IsTrue tells → version_of old.store.state.bytes ≡ 2 → new.store.state.bytes ≡ old.store.state.bytes)
      → (IsTrue tells → LeavesOnly (OpensUpgraded Opens old.store.state.bytes) old.store new.store) → new.store.ranges 0 ≡ old.store.ranges 0 → (IsTrue tells → IsNamedTime old new)
      → (IsTrue tells → (table root : ℕ) → IsTable old.store.state.bytes table root → index.pairs new.store.state.bytes root ≡ index.pairs old.store.state.bytes root) → Upgrades tells Opens index old new r
  moved_upgrades old new r well cause moved bytes_are version tables keys quiet exact ranges named indexes = record {
    shape = moved.shape;
    depth = moved.depth;
    mirrors = moved.mirrors;
    cause = cause;
    faults = λ _. (moved.dead, moved.faults);
    dies = λ failed. absurd (false≢true (sym well ∙ failed));
    bytes = bytes_are;
    sound = λ told. on_ok r (moved.tied told).sound;
    version = version;
    tables = λ told _. tables told;
    state = λ told _. moved.state told;
    keys = λ told _. keys told;
    indexes = λ told _. indexes told;
    quiet = λ told _. quiet told;
    saves = moved.counts;
    ranges = λ _. ranges;
    others = moved.others;
    time = λ told _. weaker (λ image opens. opens_with Opens index image _ _ opens) (moved.time told);
    exact = λ told _. exact told;
    named = λ told _. named told;
  }

  failed_upgrades : (old new : PagesView) → IsAlive old.store → Failed tells Opens index 0 old new
      → (IsTrue tells → LeavesOnly (OpensUpgraded Opens old.store.state.bytes) old.store new.store) → (IsTrue tells → IsNamedTime old new) → Upgrades tells Opens index old new (Err refusal.Media)
  failed_upgrades old new alive failed exact named = record {
    shape = failed.shape;
    depth = failed.depth;
    mirrors = failed.mirrors;
    cause = alive;
    faults = λ well. absurd (false≢true (sym well));
    dies = λ _. failed.dies;
    bytes = λ told. tt;
    sound = λ told. tt;
    version = λ told. tt;
    tables = λ told well. absurd (false≢true (sym well));
    state = λ told well. absurd (false≢true (sym well));
    keys = λ told well. absurd (false≢true (sym well));
    indexes = λ told well. absurd (false≢true (sym well));
    quiet = λ told well. absurd (false≢true (sym well));
    saves = failed.counts;
    ranges = λ well. absurd (false≢true (sym well));
    others = failed.others;
    time = λ told _. weaker (λ image opens. opens_with Opens index image _ _ opens) (failed.time told);
    exact = λ told _. exact told;
    named = λ told _. named told;
  }

  dead_upgrades : (old : PagesView) → old.store.is_dead ≡ true → Upgrades tells Opens index old old (Err refusal.Dead)
  dead_upgrades old dead = record {
    shape = refl;
    depth = refl;
    mirrors = none_sent tells old.store old.store refl refl refl refl (λ fine. fine) (λ told mirrors fine. refl);
    cause = dead;
    faults = λ _. (refl, refl);
    dies = λ failed. absurd (false≢true failed);
    bytes = λ told. tt;
    sound = λ told. tt;
    version = λ told. tt;
    tables = λ told _. refl;
    state = λ told _. refl;
    keys = λ told _. refl;
    indexes = λ told _ table root is. refl;
    quiet = λ told _ _. refl;
    saves = refl;
    ranges = λ _. refl;
    others = λ u ne. refl;
    time = λ told _. stays old.store.moment old.store.left_since _;
    exact = λ told _. stays old.store.moment old.store.left_since _;
    named = λ told _. stays old.store.moment old.store.left_since _;
  }

  holds_dead : (new : PagesView) → new.store.is_dead ≡ true → Holds tells index new
  holds_dead new dead = λ alive. absurd (false≢true (sym alive ∙ dead))

  -- a look leaves the data
  look_exact : (old mid : PagesView) (failed : Bool) → IsAlive old.store → LooksAs tells Opens 0 failed old mid → IsTrue tells → LeavesOnly (OpensUpgraded Opens old.store.state.bytes) old.store mid.store
  look_exact old mid failed alive looks told = weaker (λ image opens. inl opens) (looks.time told alive)

  -- a look that tells all is as it was
  looked : (old mid : PagesView) (r : Result (Unit {0}) TableFault) → IsFalse (is_failed r) → UpgradeCause tells old r → IsAlive old.store → Holds tells index old → LooksAs tells Opens 0 false old mid
      → (IsTrue tells → OnOk r (old.store.state.bytes ≡ upgraded old.store.state.bytes)) → (IsTrue tells → OnOk r (version_of old.store.state.bytes ≡ 2)) → Upgrades tells Opens index old mid r × Holds tells index mid
  looked old mid r well cause alive holds looks bytes_are version =
      let moved = moved_by_look tells Opens index 0 old mid alive (holds alive) looks in
      let same = λ (told : IsTrue tells). ap (λ (s : State). s.bytes) ((looks.same refl).still.state told) in (
        moved_upgrades old mid r well cause moved (λ told. subst (λ (bytes : List ℕ). OnOk r (bytes ≡ upgraded old.store.state.bytes)) (sym (same told)) (bytes_are told))
            (λ told. subst (λ (bytes : List ℕ). OnOk r (version_of bytes ≡ 2)) (sym (same told)) (version told)) (λ told. ap tables_of (same told))
            (λ told. ap (keys_of index) (same told)) (λ told two. same told) (λ told. look_exact old mid false alive looks told) (λ i. (looks.same refl).ranges i 0)
            (named_by_look false old mid alive holds looks) (λ told table root is. ap (λ (b : List ℕ). index.pairs b root) (same told)),
        λ living. rests_moved tells Opens index 0 old mid (holds alive) moved,
      )

  -- the look at the super page was refused
  pub unread : (old mid : PagesView) (f : PageFault) → Holds tells index old → (let r : Result Super PageFault = Err f in LooksAs tells Opens 0 (look.is_failed r) old mid × LookCause tells old.store r)
      → (f ≡ fault.Dead → mid ≡ old) → Upgrades tells Opens index old mid (Err (as_table f)) × Holds tells index mid
  unread old mid fault.Media holds both same = (
    failed_upgrades old mid both.1 (failed_by_look tells Opens index 0 old mid both.1 (holds both.1) both.0) (look_exact old mid true both.1 both.0) (named_by_look true old mid both.1 holds both.0),
    holds_dead mid (both.0.dies refl).0,
  )
  unread old mid fault.Dead holds both same = (
    subst (λ (v : PagesView). Upgrades tells Opens index old v (Err refusal.Dead)) (sym (same refl)) (dead_upgrades old both.1),
    subst (Holds tells index) (sym (same refl)) holds,
  )
  unread old mid (fault.Damaged bad) holds both same = looked old mid (Err (refusal.Damaged bad)) refl both.1 both.1.0 holds both.0 (λ told. tt) (λ told. tt)
  unread old mid fault.SavesFull holds both same = absurd both.1
  unread old mid (fault.LogFull g h n) holds both same = absurd both.1

  -- the super page is of version 2
  pub already : (old mid : PagesView) (front : Super) → IsAlive old.store → Holds tells index old → LooksAs tells Opens 0 false old mid → (IsTrue tells → SaysSuper (page_bytes old.store.state.bytes 0) front) → front.version ≡ 2
      → Upgrades tells Opens index old mid (Ok tt) × Holds tells index mid
  already old mid front alive holds looks says two = looked old mid (Ok tt) refl alive alive holds looks
      (λ told. sym (two_upgraded old.store.state.bytes (sym (says told).version ∙ two))) (λ told. sym (says told).version ∙ two)

  -- it is written
  module _ (laws : Laws index) (old mid new : PagesView) (bytes : List ℕ) (front : Super) (long : length bytes ≡ 512) (entries : 8 ≤ mid.store.shape.entries) (alive : IsAlive old.store) (holds : Holds tells index old)
      (looks : LooksAs tells Opens 0 false old mid) (says : IsTrue tells → SaysSuper (page_bytes old.store.state.bytes 0) front) (older : front.version ≢ 2)
      (written : SaysSuper bytes (main_super front.form front.next_slot front.next_page)) (as_bytes : bytes ≡ main_bytes front.form front.next_slot front.next_page) where
    looked_moved : Moved tells Opens index 0 old mid
    looked_moved = moved_by_look tells Opens index 0 old mid alive (holds alive) looks

    living : IsAlive mid.store
    living = (looks.same refl).still.dead ∙ alive

    rests : Rests tells index mid
    rests = rests_moved tells Opens index 0 old mid (holds alive) looked_moved

    same_bytes : IsTrue tells → mid.store.state.bytes ≡ old.store.state.bytes
    same_bytes told = ap (λ (s : State). s.bytes) ((looks.same refl).still.state told)

    -- the super page that data of version 1 gets
    front_is : IsTrue tells → main_super front.form front.next_slot front.next_page ≡ front_of mid.store.state.bytes
    front_is told =
        (λ i. main_super ((says told).form i) ((says told).next_slot i) ((says told).next_page i)) ∙ ap front_of (sym (same_bytes told))

    main_is : IsTrue tells → main_bytes front.form front.next_slot front.next_page ≡ main_of mid.store.state.bytes
    main_is told =
        (λ i. main_bytes ((says told).form i) ((says told).next_slot i) ((says told).next_page i)) ∙ ap main_of (sym (same_bytes told))

    before : IsTrue tells → version_of mid.store.state.bytes ≢ 2
    before told two = older ((says told).version ∙ ap version_of (sym (same_bytes told)) ∙ two)

    facts : IsTrue tells → Upgraded index mid.store.state.bytes (put mid.store.state.bytes 0 bytes)
    facts told = is_upgraded index laws mid.store.state.bytes bytes (rests.tied told).sound long (before told) (subst (SaysSuper bytes) (front_is told) written)

    -- the data is that of version 2
    put_is : IsTrue tells → put mid.store.state.bytes 0 bytes ≡ upgraded old.store.state.bytes
    put_is told =
        ap (put mid.store.state.bytes 0) (as_bytes ∙ main_is told) ∙ sym (older_upgraded mid.store.state.bytes (before told)) ∙ ap upgraded (same_bytes told)

    behind : PagesState
    behind = page.after (page.atomic_write 0 0 bytes) (pages.state_of mid)

    time_of : (r : Result (Unit {0}) PageFault) → page_does.Does tells Opens (page.atomic_write 0 0 bytes) mid new r → IsTrue tells
        → LeavesOnly (λ image. OpensAs Opens index image mid.store.state.bytes (state_of index mid).table) mid.store new.store
    unfolding behind
    time_of r does told =
        weaker (λ image either. elim either [
          | inl was ↦ record { bytes = mid.store.state.bytes; opened = was; sound = (rests.tied told).sound; version = λ two. two; named = refl; shows = refl }
          | inr is ↦ record { bytes = put mid.store.state.bytes 0 bytes; opened = is; sound = (facts told).sound; version = λ two. (facts told).version; named = ap names_in (facts told).tables; shows = (facts told).records }
        ]) (does.time told living)

    exact_of : (r : Result (Unit {0}) PageFault) → page_does.Does tells Opens (page.atomic_write 0 0 bytes) mid new r → IsTrue tells
        → LeavesOnly (OpensUpgraded Opens old.store.state.bytes) old.store new.store
    unfolding behind
    exact_of r does told =
        then (look_exact old mid false alive looks told)
        (weaker (λ image either. elim either [
          | inl was ↦ inl (subst (Opens image) (same_bytes told) was)
          | inr is ↦ inr (subst (Opens image) (put_is told) is)
        ]) (does.time told living))

    named_of : (r : Result (Unit {0}) PageFault) → page_does.Does tells Opens (page.atomic_write 0 0 bytes) mid new r → IsTrue tells → IsNamedTime old new
    named_of r does told =
        let records : table_of index mid.store.state.bytes ≡ table_of index old.store.state.bytes = ap (table_of index) (same_bytes told) in
        then (named_by_look false old mid alive holds looks told) (weaker (λ image either. elim either [
          | inl was ↦ record { bytes = mid.store.state.bytes; opened = was; sound = (rests.tied told).sound; named = ap names_of (same_bytes told); shows = records }
          | inr is ↦ record {
            bytes = put mid.store.state.bytes 0 bytes;
            opened = is;
            sound = (facts told).sound;
            named = ap names_in (facts told).tables ∙ ap names_of (same_bytes told);
            shows = (facts told).records ∙ records;
          }
        ]) (does.time told living))

    done : page_does.Does {T = Unit {0}} tells Opens (page.atomic_write 0 0 bytes) mid new (Ok tt) → Moved tells Opens index 0 mid new
    done does =
        let out = does.done.outline in
        let now = λ (told : IsTrue tells). does.done.state told in
        let kept : KeepsLogs tells mid new = record {
          dead = does.done.alive ∙ sym living;
          faults = does.kept;
          tops = ap (λ (o : Outline). o.top) out;
          ranges = λ u. ap (λ (o : Outline). listed (o.ranges u)) out;
          logs = λ told u. ap (λ (s : PagesState). log_of s u) (now told);
        } in
        moved_so tells Opens index 0 mid new does.shape does.mirrors kept (ap (λ (o : Outline). o.counts) out) (λ u ne. ap (λ (o : Outline). o.ranges u) out)
        (λ told. subst (λ (s : PagesState). index.sound s.store.bytes) (sym (now told)) (facts told).sound)
        (λ told two. ap (λ (s : PagesState). version_of s.store.bytes) (now told) ∙ (facts told).version)
        (λ told. ap (λ (s : PagesState). tables_of s.store.bytes) (now told) ∙ (facts told).tables)
        (λ told. ap (λ (s : PagesState). table_of index s.store.bytes) (now told) ∙ (facts told).records)
        (λ told u. subst (λ (s : PagesState). AreSlotParts index s.store.bytes (listed (mid.store.state.logs u))) (sym (now told))
        (parts_carry index laws mid.store.state.bytes (put mid.store.state.bytes 0 bytes) (called_same mid.store.state.bytes (put mid.store.state.bytes 0 bytes) (facts told).tables) (facts told).pairs (facts told).size (listed (mid.store.state.logs u)) ((rests.tied told).parts u)))
        (time_of (Ok tt) does)

    broken : page_does.Does {T = Unit {0}} tells Opens (page.atomic_write 0 0 bytes) mid new (Err fault.Media) → Failed tells Opens index 0 mid new
    broken does = record {
      shape = does.shape;
      depth = does.depth;
      mirrors = does.mirrors;
      dies = (does.dies refl, does.cause.2);
      counts = does.marks.0;
      others = λ u ne. does.others u ne;
      time = time_of (Err fault.Media) does;
    }

    pub wrote : (r : Result (Unit {0}) PageFault) → page_does.Does tells Opens (page.atomic_write 0 0 bytes) mid new r → Upgrades tells Opens index old new (told_as r) × Holds tells index new
    wrote (Ok tt) does =
        let over = done does in
        let moved = moved_then tells Opens index 0 old mid new looked_moved over in
        let now = λ (told : IsTrue tells). ap (λ (s : PagesState). s.store.bytes) (does.done.state told) in (
          moved_upgrades old new (Ok tt) refl alive moved (λ told. now told ∙ put_is told) (λ told. ap version_of (now told) ∙ (facts told).version)
              (λ told. ap tables_of (now told) ∙ (facts told).tables ∙ ap tables_of (same_bytes told)) (λ told. ap (keys_of index) (now told) ∙ (facts told).keys ∙ ap (keys_of index) (same_bytes told))
              (λ told two. absurd (older ((says told).version ∙ two))) (exact_of (Ok tt) does) (ap (λ (o : Outline). o.ranges 0) does.done.outline ∙ (λ i. (looks.same refl).ranges i 0)) (named_of (Ok tt) does)
              (λ told table root is.
              ap (λ (b : List ℕ). index.pairs b root) (now told) ∙ (facts told).indexes table root (subst (λ (b : List ℕ). IsTable b table root) (sym (same_bytes told)) is) ∙ ap (λ (b : List ℕ). index.pairs b root) (same_bytes told)),
          λ _. rests_moved tells Opens index 0 old new (holds alive) moved,
        )
    wrote (Err fault.Media) does = (failed_upgrades old new alive (failed_then tells Opens index 0 old mid new looked_moved (broken does)) (exact_of (Err fault.Media) does) (named_of (Err fault.Media) does), holds_dead new (does.dies refl))
    wrote (Err fault.Dead) does = absurd (false≢true (sym living ∙ does.cause))
    wrote (Err fault.SavesFull) does = absurd does.cause.1
    wrote (Err (fault.LogFull g h n)) does = absurd (page_fits mid.store.shape bytes g h n entries long does.cause.1)
    wrote (Err (fault.Damaged bad)) does = absurd does.cause
