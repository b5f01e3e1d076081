-- Calls on records that are one call of pages: saves, ways back and ends.
use Rattle.std.proofs.Common.{◌≡◌, ◌≢◌, ℕ, ◌-◌, ◌+◌, ◌<◌, ◌≤◌, ◌⊎◌, Bool, true, false, inl, inr, IsTrue, List, [], ◌∷◌, ◌++◌, length, take, Result, Ok, Err, ◌&&◌, nat_le, refl, sym, ◌∙◌, ap, subst, arith, lt-ltb, le-leb}
use Rattle.std.specs.Prelude.{None, map, IfOk, IfErr, OnOk, OnErr}
use Rattle.std.proofs.lemmas.Bool.{false≢true}
use Rattle.std.proofs.lemmas.List.{length-append, length-take-le, length-map}
use Rattle.mars_base.proofs.Going.{weaker}
use Rattle.array_shape.specs.Logged.{Part, applied}
use Rattle.array_shape.specs.declared.shape.Shape.{Shape}
use Rattle.eaw_face.specs.StoreView.{StoreView, LeavesOnly}
use Rattle.eaw_face.specs.State.{listed}
use Rattle.eaw_face.specs.Causes.{IsAlive}
use Rattle.history.specs.Writes.{all_written}
use Rattle.history.specs.Table.{has_save}
use Rattle.history.specs.declared.call.Call.{Call}
use Rattle.history.specs.declared.call.Call.TheVariants.{Table as OnTable, Control}
use Rattle.history.specs.declared.call.TableCall.TheVariants.{Save, Back}
use Rattle.history.specs.declared.call.Control.TheVariants.{Commit, Abort}
use Rattle.history.specs.declared.call.Reply.{Reply}
use Rattle.history.specs.declared.call.Reply.TheVariants.{Fine, Saved}
use Rattle.page_store.specs.Command.{PageCommand}
use Rattle.page_store.specs.Command as page
use Rattle.page_store.specs.Does as page_does
use Rattle.record_slots.specs.Names.{names_in}
use Rattle.record_slots.specs.Places.{version_of, tables_of}
use Rattle.page_store.specs.Index.{Index}
use Rattle.page_store.specs.Kept.{IsOrdered}
use Rattle.page_store.specs.Outline.{Outline, outline_after}
use Rattle.page_store.specs.Shown.{PagesView, Shown, pages_of, outline_of}
use Rattle.page_store.specs.Shown as pages
use Rattle.page_store.specs.State.{PagesState, log_of}
use Rattle.page_store.specs.declared.fault.PageFault.{PageFault}
use Rattle.page_store.specs.declared.fault.PageFault.TheVariants as fault
use Rattle.page_store.proofs.Numbers.{with_here, with_there}
use Rattle.page_store.proofs.Shown.{IsTold, kept}
use Rattle.record_table.specs.Calls.{Replies, table_after, after, saves_after}
use Rattle.record_table.specs.Causes.{MaySave, IsSavedOut, Fits}
use Rattle.record_table.specs.Does.{Does, OpensWith, OpensAs, Indexed, IsQuiet, replied}
use Rattle.record_table.specs.Faults.{told_as}
use Rattle.record_table.specs.Invariant.{AreSlotParts, Rests, Holds}
use Rattle.record_table.specs.Shown.{writes_of, state_of, shown_by, keys_of}
use Rattle.record_table.specs.State.{TableState, Keys}
use Rattle.record_table.specs.declared.fault.TableFault.{TableFault}
use Rattle.record_table.specs.declared.fault.TableFault.TheVariants.{SavesFull}
use Rattle.record_table.specs.declared.fault.TableFault.TheVariants as refusal
use Rattle.record_table.proofs.Doing.{does_broken, does_dead, does_nothing, holds_dead, holds_same, indexed_same}
use Rattle.record_table.proofs.Moving.{opens_with}
use Rattle.record_table.proofs.Sharing.{Laws}
use Rattle.record_table.proofs.SlotParts.{applied_parts}
use Rattle.record_table.proofs.States.{shown_save, shown_back, shown_commit, shown_abort, parts_back, parts_abort, parts_commit}

-- only a fault of the medium is told as one
pub media_told : {T : Type 0} (r : Result T PageFault) (s : Result T TableFault) → s ≡ told_as r → s ≡ Err refusal.Media → r ≡ Err fault.Media
media_told (Ok answer) s is e = absurd (cc)
media_told (Err fault.Media) s is e = refl
media_told (Err fault.Dead) s is e = absurd (cc)
media_told (Err fault.SavesFull) s is e = absurd (cc)
media_told (Err (fault.LogFull g h n)) s is e = absurd (cc)
media_told (Err (fault.Damaged page)) s is e = absurd (cc)

-- parts that stand for no writes
pub no_parts : (index : Index) (log : List Part) (bytes : List ℕ) → writes_of bytes log ≡ [] → applied log bytes ≡ bytes
no_parts index [] bytes none = refl
no_parts index (p ∷ ps) bytes none = absurd (cc)

-- A call of pages that is one of records: it does to the state of pages what that does to the state of records.
pub record IsCall (tells : Bool) (index : Index) (pc : PageCommand) (table t : ℕ) (c : Call) (old : PagesView) : Type 0 where
  pub named : (u : ℕ) → page_does.Names pc u → u ≡ t
  pub sound : IsTrue tells → index.sound (page.after pc (pages.state_of old)).store.bytes
  pub parts : IsTrue tells → (u : ℕ) → AreSlotParts index (page.after pc (pages.state_of old)).store.bytes (log_of (page.after pc (pages.state_of old)) u)
  pub shown : IsTrue tells → (reply : Reply) → shown_by index (page.after pc (pages.state_of old)) ≡ after t c reply (state_of index old)
  pub keys : IsTrue tells → keys_of index (page.after pc (pages.state_of old)).store.bytes ≡ keys_of index old.store.state.bytes
  pub version : IsTrue tells → version_of (page.after pc (pages.state_of old)).store.bytes ≡ version_of old.store.state.bytes
  pub tables : IsTrue tells → tables_of (page.after pc (pages.state_of old)).store.bytes ≡ tables_of old.store.state.bytes
  pub indexed : (a b : Keys) (r : Result Reply TableFault) → b ≡ a → Indexed table c a b r
  pub quiet : IsTrue tells → IsQuiet index old t c → (page.after pc (pages.state_of old)).store.bytes ≡ old.store.state.bytes
  pub saves : length ((outline_after pc (outline_of old)).counts t) ≡ saves_after c (length (old.counts t))
  pub other_saves : (u : ℕ) → u ≢ t → (outline_after pc (outline_of old)).counts u ≡ old.counts u
  pub tops : (u : ℕ) → (outline_after pc (outline_of old)).top u ≡ old.top u
  pub no_log : (g h n : ℕ) → page_does.IsFull old pc g h n → ⊥
  pub saved_out : page_does.IsSavedOut old pc → IsSavedOut old t c
  pub may_save : page_does.HasRoom old pc → MaySave old t c
  pub fits : Fits index table old t c

module _ (tells : Bool) (Opens : List ℕ → List ℕ → Type 0) (index : Index) (pc : PageCommand) (table t : ℕ) (c : Call) (old new : PagesView) (holds : Holds tells index old) (call : IsAlive old.store → IsCall tells index pc table t c old)
    (T : Type 0) (reply : T → Reply) where
  time_of : (r : Result T PageFault) → IsAlive old.store → page_does.Does tells Opens pc old new r → IsTrue tells
      → LeavesOnly (λ image. OpensAs Opens index image old.store.state.bytes (state_of index old).table ⊎ OpensAs Opens index image old.store.state.bytes (table_after t c (state_of index old))) old.store new.store
  time_of r alive does told = weaker (λ image either. elim either [
    | inl before ↦ inl (record { bytes = old.store.state.bytes; opened = before; sound = ((holds alive).tied told).sound; version = λ two. two; named = refl; shows = refl })
    | inr behind ↦ inr (record {
      bytes = (page.after pc (pages.state_of old)).store.bytes;
      opened = behind;
      sound = (call alive).sound told;
      version = λ two. (call alive).version told ∙ two;
      named = ap names_in ((call alive).tables told);
      shows = ap (λ (s : TableState). s.table) ((call alive).shown told Fine);
    })
  ]) (does.time told alive)

  -- so it opens with the records before or after
  with_of : (r : Result T PageFault) → IsAlive old.store → page_does.Does tells Opens pc old new r → IsTrue tells
      → LeavesOnly (λ image. OpensWith Opens index image (state_of index old).table ⊎ OpensWith Opens index image (table_after t c (state_of index old))) old.store new.store
  with_of r alive does told = weaker (λ image either. elim either [
    | inl before ↦ inl (opens_with Opens index image _ _ before)
    | inr behind ↦ inr (opens_with Opens index image _ _ behind)
  ]) (time_of r alive does told)

  pub ends : (r : Result T PageFault) → page_does.Does tells Opens pc old new r → ((f : PageFault) → r ≡ Err f → f ≢ fault.Media → new ≡ old)
      → (IsTrue tells → IfOk r (λ answer. Replies (state_of index old) t c (reply answer))) → Does tells Opens index table t c old new (replied reply (told_as r)) × Holds tells index new
  ends (Ok answer) does same right =
      let alive = does.cause.0 in
      let is = call alive in
      let out = does.done.outline in
      let now = λ (told : IsTrue tells). does.done.state told in (
        record {
          shape = does.shape;
          depth = does.depth;
          mirrors = does.mirrors;
          cause = (alive, is.may_save does.cause.1, λ told. is.fits);
          faults = λ _. (does.done.alive ∙ sym alive, does.kept);
          dies = λ failed. absurd (false≢true failed);
          replies = right;
          done = λ told. ap (shown_by index) (now told) ∙ is.shown told (reply answer);
          refused = λ told _. tt;
          indexed = λ told _ _. is.indexed _ _ (Ok (reply answer)) (ap (λ (s : PagesState). keys_of index s.store.bytes) (now told) ∙ is.keys told);
          quiet = λ told _ still. ap (λ (s : PagesState). s.store.bytes) (now told) ∙ is.quiet told still;
          version = λ told _ two. ap (λ (s : PagesState). version_of s.store.bytes) (now told) ∙ is.version told ∙ two;
          tables = λ told _. ap (λ (s : PagesState). tables_of s.store.bytes) (now told) ∙ is.tables told;
          saves = ap (λ (o : Outline). length (o.counts t)) out ∙ is.saves;
          same_saves = tt;
          others = λ u ne. (does.others u (λ e. ne (is.named u e)), ap (λ (o : Outline). o.counts u) out ∙ is.other_saves u ne);
          time = λ told _. with_of (let r : Result T PageFault = Ok answer in r) alive does told;
          named = λ told _. time_of (let r : Result T PageFault = Ok answer in r) alive does told;
        },
        λ living. record {
          closed = λ u. ap (λ (o : Outline). o.top u) out ∙ is.tops u ∙ (holds alive).closed u;
          tied = λ told. record {
            sound = subst (λ (s : PagesState). index.sound s.store.bytes) (sym (now told)) (is.sound told);
            parts = λ u. subst (λ (s : PagesState). AreSlotParts index s.store.bytes (log_of s u)) (sym (now told)) (is.parts told u);
          };
        },
      )
  ends (Err fault.Media) does same right =
      let alive = does.cause.0 in
      let is = call alive in (
        does_broken tells Opens index table t c old new alive
            (record { shape = does.shape; mirrors = does.mirrors; dies = (does.dies refl, does.cause.2); counts = does.marks.0; others = λ u ne. does.others u (λ e. ne (is.named u e)) })
            (with_of (let r : Result T PageFault = Err fault.Media in r) alive does) (time_of (let r : Result T PageFault = Err fault.Media in r) alive does),
        holds_dead tells Opens index table t c old new (does.dies refl),
      )
  ends (Err fault.Dead) does same right = let e = same fault.Dead refl (λ x. cc) in (does_dead tells Opens index table t c old new e does.cause, holds_same tells Opens index table t c old new holds e)
  ends (Err fault.SavesFull) does same right =
      let e = same fault.SavesFull refl (λ x. cc) in
      let alive = does.cause.0 in (
        subst (λ (v : PagesView). Does tells Opens index table t c old v (Err SavesFull)) (sym e)
            (does_nothing tells Opens index table t c old new SavesFull (refl, (alive, (call alive).saved_out does.cause.1)) (λ told _. indexed_same Reply table c _ _ SavesFull tt refl)),
        holds_same tells Opens index table t c old new holds e,
      )
  ends (Err (fault.LogFull g h n)) does same right = absurd ((call does.cause.0).no_log g h n does.cause.1)
  ends (Err (fault.Damaged bad)) does same right = absurd does.cause

-- a number that has ended is free
pub freed : (tells : Bool) (Opens : List ℕ → List ℕ → Type 0) (t : ℕ) (commits : Bool) (old new : PagesView) (r : Result (Unit {0}) PageFault) (s : Result (Unit {0}) TableFault)
    → page_does.Does tells Opens (page.end t commits) old new r → s ≡ told_as r → OnOk s (new.store.ranges t ≡ None)
freed tells Opens t commits old new (Ok answer) s does is =
    subst (λ (x : Result (Unit {0}) TableFault). OnOk x (new.store.ranges t ≡ None)) (sym is) (ap (λ (o : Outline). o.ranges t) does.done.outline ∙ with_here old.store.ranges t None)
freed tells Opens t commits old new (Err fault) s does is = subst (λ (x : Result (Unit {0}) TableFault). OnOk x (new.store.ranges t ≡ None)) (sym is) tt

-- what holds of every answer
pub always : {T E P : Type 0} (r : Result T E) → P → IfOk r (λ answer. P)
always (Ok answer) holds = holds
always (Err e) holds = tt

-- a number between the first save and the last is one
pub has_save_is : {A : Type 0} (saves : List A) (n : ℕ) → 0 < n → n ≤ length saves → has_save saves n ≡ true
has_save_is saves n some there = (λ i. lt-ltb 0 n some i && nat_le n (length saves)) ∙ le-leb n (length saves) there

-- there are as many saves as counts
pub length-saves : (index : Index) (old : PagesView) (t : ℕ) → length ((state_of index old).logs t).saved ≡ length (old.counts t)
length-saves index old t = length-map (pages.saved_of (listed (old.store.state.logs t)) (old.counts t)) (writes_of old.store.state.bytes) ∙ length-map (old.counts t) (λ count. take count (listed (old.store.state.logs t)))

-- what a save replies
pub saved_right : (tells : Bool) (Opens : List ℕ → List ℕ → Type 0) (index : Index) (old new : PagesView) (t : ℕ) (r : Result ℕ PageFault) → page_does.Does tells Opens (page.save t) old new r
    → IfOk r (λ n. n ≡ length (new.counts t)) → IfOk r (λ n. Replies (state_of index old) t (OnTable Save) (Saved n))
saved_right tells Opens index old new t (Err fault) does is = tt
saved_right tells Opens index old new t (Ok n) does is =
    let more = ap length (with_here old.counts t (old.counts t ++ length (listed (old.store.ranges t)) ∷ [])) ∙ length-append (old.counts t) (length (listed (old.store.ranges t)) ∷ []) in
    ap Saved (is ∙ ap (λ (o : Outline). length (o.counts t)) does.done.outline ∙ more
    ∙ ap (λ (k : ℕ). k + 1) (sym (length-map ((state_of index old).logs t).saved (all_written (state_of index old).table) ∙ length-saves index old t)))

-- a way back finds its save
pub back_right : (index : Index) (old : PagesView) (t n : ℕ) → 0 < n → n ≤ length (old.counts t) → Replies (state_of index old) t (OnTable (Back n)) Fine
back_right index old t n some there = (
  has_save_is (map (all_written (state_of index old).table) ((state_of index old).logs t).saved) n some
      (subst (λ (k : ℕ). n ≤ k) (sym (length-map ((state_of index old).logs t).saved (all_written (state_of index old).table) ∙ length-saves index old t)) there),
  refl,
)

module _ (tells : Bool) (index : Index) (laws : Laws index) (old : PagesView) (rests : Rests tells index old) (table t : ℕ) where
  pub save_is : IsCall tells index (page.save t) table t (OnTable Save) old
  save_is = record {
    named = λ u is. is;
    sound = λ told. (rests.tied told).sound;
    parts = λ told. (rests.tied told).parts;
    shown = λ told reply. shown_save index laws (pages.state_of old) t reply;
    keys = λ told. refl;
    version = λ told. refl;
    tables = λ told. refl;
    indexed = λ a b r same. same;
    quiet = λ told _. refl;
    saves = ap length (with_here old.counts t (old.counts t ++ length (listed (old.store.ranges t)) ∷ [])) ∙ length-append (old.counts t) (length (listed (old.store.ranges t)) ∷ []);
    other_saves = λ u ne. with_there old.counts t (old.counts t ++ length (listed (old.store.ranges t)) ∷ []) u ne;
    tops = λ u. refl;
    no_log = λ g h n full. full;
    saved_out = λ out. out;
    may_save = λ room. room;
    fits = tt;
  }

  pub back_is : (n : ℕ) → 0 < n → n ≤ length (old.counts t) → IsOrdered (outline_of old) → (IsTrue tells → IsTold old.store) → IsCall tells index (page.back t n) table t (OnTable (Back n)) old
  back_is n some there ordered told_by =
      let front = λ (told : IsTrue tells). ((kept old (told_by told) ordered).each t).fronts (n - 1) (omega (arith, length-map (old.counts t) (λ count. take count (listed (old.store.state.logs t))))) in
      record {
        named = λ u is. is;
        sound = λ told. (rests.tied told).sound;
        parts = λ told. parts_back index laws (pages.state_of old) t (rests.tied told).sound (rests.tied told).parts n (front told);
        shown = λ told reply. shown_back index laws (pages.state_of old) t n reply (has_save_is ((state_of index old).logs t).saved n some (subst (λ (k : ℕ). n ≤ k) (sym (length-saves index old t)) there)) (front told);
        keys = λ told. refl;
        version = λ told. refl;
        tables = λ told. refl;
        indexed = λ a b r same. same;
        quiet = λ told _. refl;
        saves = ap length (with_here old.counts t (take n (old.counts t))) ∙ length-take-le n (old.counts t) there;
        other_saves = λ u ne. with_there old.counts t (take n (old.counts t)) u ne;
        tops = λ u. refl;
        no_log = λ g h n full. full;
        saved_out = λ out. out;
        may_save = λ room. room;
        fits = tt;
      }

  pub abort_is : IsCall tells index (page.end t false) table t (Control Abort) old
  abort_is = record {
    named = λ u is. is;
    sound = λ told. (rests.tied told).sound;
    parts = λ told. parts_abort index laws (pages.state_of old) t (rests.tied told).sound (rests.tied told).parts;
    shown = λ told reply. shown_abort index laws (pages.state_of old) t reply;
    keys = λ told. refl;
    version = λ told. refl;
    tables = λ told. refl;
    indexed = λ a b r same. same;
    quiet = λ told _. refl;
    saves = ap length (with_here old.counts t []);
    other_saves = λ u ne. with_there old.counts t [] u ne;
    tops = λ u. refl;
    no_log = λ g h n full. full;
    saved_out = λ out. out;
    may_save = λ room. room;
    fits = tt;
  }

  pub commit_is : IsCall tells index (page.end t true) table t (Control Commit) old
  commit_is =
      let w = λ (told : IsTrue tells). applied_parts index laws (listed (old.store.state.logs t)) old.store.state.bytes (rests.tied told).sound ((rests.tied told).parts t) in
      record {
        named = λ u is. is;
        sound = λ told. (w told).sound;
        parts = λ told. parts_commit index laws (pages.state_of old) t (rests.tied told).sound (rests.tied told).parts;
        shown = λ told reply. shown_commit index laws (pages.state_of old) t reply (rests.tied told).sound ((rests.tied told).parts t);
        keys = λ told. (w told).keys;
        version = λ told. (w told).version;
        tables = λ told. (w told).tables;
        indexed = λ a b r same. same;
        quiet = λ told none. no_parts index (listed (old.store.state.logs t)) old.store.state.bytes none;
        saves = ap length (with_here old.counts t []);
        other_saves = λ u ne. with_there old.counts t [] u ne;
        tops = λ u. refl;
        no_log = λ g h n full. full;
        saved_out = λ out. out;
        may_save = λ room. room;
        fits = tt;
      }

pub err_same : {T A : Type 0} (r : Result T PageFault) → IfErr r (λ f. f ≢ fault.Media → A) → (f : PageFault) → r ≡ Err f → f ≢ fault.Media → A
err_same (Ok x) h f e ne = absurd (cc)
err_same {T} {A} (Err p) h f e ne = let q : p ≡ f = same_fault T p f e in h (λ m. ne (sym q ∙ m))
  where
    same_fault : (T : Type 0) (p f : PageFault) → (let x : Result T PageFault = Err p in let y : Result T PageFault = Err f in x ≡ y) → p ≡ f
    same_fault T p f e = cc

pub on_err_same : {T A : Type 0} (r : Result T PageFault) → OnErr r A → (f : PageFault) → r ≡ Err f → f ≢ fault.Media → A
on_err_same (Ok x) h f e ne = absurd (cc)
on_err_same (Err p) h f e ne = h

-- the same for values that show pages
module _ {S : Type 0} (view : S → StoreView) (tells : Bool) (Opens : Shape → List ℕ → List ℕ → Type 0) (index : Index) (table t : ℕ) (c : Call) (arg inside : Shown S) (same : inside ≡ arg) where
  pub does_of : (new : PagesView) (r : Result Reply TableFault) → Does tells (Opens (view inside.store).shape) index table t c (pages_of (view inside.store) inside) new r → Does tells (Opens (view arg.store).shape) index table t c (pages_of (view arg.store) arg) new r
  does_of new r does = subst (λ (p : Shown S). Does tells (Opens (view p.store).shape) index table t c (pages_of (view p.store) p) new r) same does

  pub ended : (pc : PageCommand) (new : Shown S) → Holds tells index (pages_of (view inside.store) inside) → (IsAlive (view inside.store) → IsCall tells index pc table t c (pages_of (view inside.store) inside))
      → (T : Type 0) (reply : T → Reply) (r : Result T PageFault) → page_does.Does tells (Opens (view inside.store).shape) pc (pages_of (view inside.store) inside) (pages_of (view new.store) new) r
      → ((f : PageFault) → r ≡ Err f → f ≢ fault.Media → new ≡ inside) → (IsTrue tells → IfOk r (λ answer. Replies (state_of index (pages_of (view inside.store) inside)) t c (reply answer)))
      → (s : Result T TableFault) → s ≡ told_as r
      → Does tells (Opens (view arg.store).shape) index table t c (pages_of (view arg.store) arg) (pages_of (view new.store) new) (replied reply s) × Holds tells index (pages_of (view new.store) new)
  ended pc new holds call T reply r does unchanged right s is =
      let both = ends tells (Opens (view inside.store).shape) index pc table t c (pages_of (view inside.store) inside) (pages_of (view new.store) new) holds call T reply r does
      (λ f e ne. ap (λ (p : Shown S). pages_of (view p.store) p) (unchanged f e ne)) right in (
        does_of (pages_of (view new.store) new) (replied reply s)
            (subst (λ (x : Result T TableFault). Does tells (Opens (view inside.store).shape) index table t c (pages_of (view inside.store) inside) (pages_of (view new.store) new) (replied reply x)) (sym is) both.0),
        both.1,
      )
