-- An insertion under way, and how it ends.
use Rattle.std.proofs.Common.{◌≡◌, ◌≢◌, ℕ, ◌≤◌, ◌⊎◌, Bool, true, false, inl, inr, List, Option, Result, Ok, Err, refl, sym, ◌∙◌, ap, subst, arith}
use Rattle.std.specs.Prelude.{IsTrue}
use Rattle.std.proofs.lemmas.Bool.{false≢true}
use Rattle.mars_base.specs.Causes.{Rose}
use Rattle.mars_base.proofs.Going.{then, weaker}
use Rattle.array_shape.specs.Logged.{Part, applied}
use Rattle.eaw_face.specs.State.{State, listed}
use Rattle.eaw_face.specs.StoreView.{LeavesOnly}
use Rattle.eaw_face.specs.Causes.{IsAlive}
use Rattle.eaw_face.specs.Mirroring.{Mirrors}
use Rattle.eaw_face.proofs.Mirroring.{sent_then}
use Rattle.record_slots.specs.Places.{used_pages, slot_due}
use Rattle.page_store.specs.Fits.{IsFirstLacking}
use Rattle.page_store.specs.Index.{Index, IsUntouched, Grows, Rests, Gains}
use Rattle.page_store.specs.Inserts.{KeepsLogs, MayBecome, Made, InsertCause, Inserts, is_insert_failed}
use Rattle.page_store.specs.Looks.{Looks, LookCause, is_failed}
use Rattle.page_store.specs.Shown.{PagesView}
use Rattle.page_store.specs.declared.fault.PageFault.{PageFault}
use Rattle.page_store.specs.declared.fault.PageFault.TheVariants as page
use Rattle.page_store.specs.declared.index_fault.IndexFault.{IndexFault}
use Rattle.page_store.specs.declared.index_fault.IndexFault.TheVariants as index
use Rattle.index_pages.specs.Acts.{Acts}
use Rattle.page_store.specs.Faults.{as_index}

pub nothing_touched : (ix : Index) (root : ℕ) (bytes : List ℕ) → IsUntouched ix root bytes bytes
nothing_touched ix root bytes = record { pairs = refl; level = refl; pages = λ x on. (on, refl) }

pub nothing_grows : (ix : Index) (root : ℕ) (bytes : List ℕ) → ix.sound bytes → Grows ix root bytes bytes × Rests ix root bytes bytes
nothing_grows ix root bytes sound = (
  record {
    sound = sound;
    size = refl;
    version = refl;
    tables = refl;
    others = λ table other is ne. nothing_touched ix other bytes;
    slots = λ j lt ne. refl;
    later = omega arith;
    few = omega arith;
    free_pages_fall = omega arith;
    named = λ x from to. absurd (omega arith);
    taken = λ x free. inl free;
    kept = λ x on. on;
    levels = omega arith;
  },
  record { pairs = refl; slots = refl; due = refl; same = refl },
)

pub logs_then : (tells : Bool) (a b c : PagesView) → KeepsLogs tells a b → KeepsLogs tells b c → KeepsLogs tells a c
logs_then tells a b c first second = record {
  dead = second.dead ∙ first.dead;
  faults = second.faults ∙ first.faults;
  tops = second.tops ∙ first.tops;
  ranges = λ u. second.ranges u ∙ first.ranges u;
  logs = λ told u. second.logs told u ∙ first.logs told u;
}

pub looks_logs : (tells : Bool) (Opens : List ℕ → List ℕ → Type 0) (old now : PagesView) → Looks tells Opens false old now → KeepsLogs tells old now
looks_logs tells Opens old now looks =
    let still = looks.still refl in
    record {
      dead = still.dead;
      faults = still.faults;
      tops = looks.tops;
      ranges = λ u. ap (λ (f : ℕ → Option (List (ℕ × ℕ))). listed (f u)) looks.ranges;
      logs = λ told u. ap (λ (s : State). listed (s.logs u)) (still.state told);
    }

module _ (ix : Index) (tells : Bool) (Opens : List ℕ → List ℕ → Type 0) (t root table key : ℕ) where
  -- So far logs and saves are as they were, and the data has at most grown.
  pub record Going (old now : PagesView) : Type 0 where
    pub shape : now.store.shape ≡ old.store.shape
    pub depth : now.store.depth ≡ old.store.depth
    pub mirrors : Mirrors tells old.store now.store
    pub saves : now.counts ≡ old.counts
    pub others : (u : ℕ) → u ≢ t → now.store.ranges u ≡ old.store.ranges u
    pub logs : KeepsLogs tells old now
    pub made : IsTrue tells → IsAlive old.store → Grows ix root old.store.state.bytes now.store.state.bytes × Rests ix root old.store.state.bytes now.store.state.bytes
    pub time : IsTrue tells → IsAlive old.store → LeavesOnly (λ image. (bytes : List ℕ) × Opens image bytes × MayBecome ix root table key old.store.state.bytes bytes) old.store now.store

  pub going_looks : (old now : PagesView) → (IsTrue tells → IsAlive old.store → ix.sound old.store.state.bytes) → Looks tells Opens false old now → Going old now
  going_looks old now sound looks =
      let still = looks.still refl in
      record {
        shape = looks.shape;
        depth = looks.depth;
        mirrors = looks.mirrors;
        saves = looks.saves;
        others = λ u ne. ap (λ (f : ℕ → Option (List (ℕ × ℕ))). f u) looks.ranges;
        logs = looks_logs tells Opens old now looks;
        made = λ told alive. subst (λ (s : State). Grows ix root old.store.state.bytes s.bytes × Rests ix root old.store.state.bytes s.bytes) (sym (still.state told)) (nothing_grows ix root old.store.state.bytes (sound told alive));
        time = λ told alive. let grown = nothing_grows ix root old.store.state.bytes (sound told alive) in weaker (λ image opens. (old.store.state.bytes, opens, (grown.0, inl grown.1))) (looks.time told alive);
      }

  pub alive_now : (old now : PagesView) → Going old now → IsAlive old.store → IsAlive now.store
  alive_now old now going alive = going.logs.dead ∙ alive

  -- what may be left within a look at the data
  time_looks : (failed : Bool) (old mid now : PagesView) → Going old mid → Looks tells Opens failed mid now → IsTrue tells → IsAlive old.store
      → LeavesOnly (λ image. (bytes : List ℕ) × Opens image bytes × MayBecome ix root table key old.store.state.bytes bytes) old.store now.store
  time_looks failed old mid now going looks told alive =
      let grown = going.made told alive in
      (then) (going.time told alive) (weaker (λ image opens. (mid.store.state.bytes, opens, (grown.0, inl grown.1))) (looks.time told (alive_now old mid going alive)))

  pub going_more : (old mid now : PagesView) → Going old mid → Looks tells Opens false mid now → Going old now
  going_more old mid now going looks =
      let still = looks.still refl in
      record {
        shape = looks.shape ∙ going.shape;
        depth = looks.depth ∙ going.depth;
        mirrors = sent_then tells old.store mid.store now.store going.mirrors looks.mirrors;
        saves = looks.saves ∙ going.saves;
        others = λ u ne. ap (λ (f : ℕ → Option (List (ℕ × ℕ))). f u) looks.ranges ∙ going.others u ne;
        logs = logs_then tells old mid now going.logs (looks_logs tells Opens mid now looks);
        made = λ told alive. subst (λ (s : State). Grows ix root old.store.state.bytes s.bytes × Rests ix root old.store.state.bytes s.bytes) (sym (still.state told)) (going.made told alive);
        time = λ told alive. time_looks false old mid now going looks told alive;
      }

  module _ (old mid now : PagesView) (going : Going old mid) (pages : List ℕ) (parts : List Part)
      (may : IsTrue tells → IsAlive old.store → MayBecome ix root table key old.store.state.bytes (applied parts mid.store.state.bytes)) where
    -- what may be left within an action
    time_acts : (r : Result (Unit {0}) PageFault) → Acts tells Opens t pages parts mid now r → IsTrue tells → IsAlive old.store
        → LeavesOnly (λ image. (bytes : List ℕ) × Opens image bytes × MayBecome ix root table key old.store.state.bytes bytes) old.store now.store
    time_acts r acts told alive =
        let grown = going.made told alive in
        (then) (going.time told alive)
        (weaker (λ image either. elim either [
          | inl before ↦ (mid.store.state.bytes, before, (grown.0, inl grown.1))
          | inr behind ↦ (applied parts mid.store.state.bytes, behind, may told alive)
        ]) (acts.time told (alive_now old mid going alive)))

    -- an action that was done and keeps the pairs
    pub going_act : (let r : Result (Unit {0}) PageFault = Ok tt in Acts tells Opens t pages parts mid now r)
        → (IsTrue tells → IsAlive old.store → Grows ix root old.store.state.bytes (applied parts mid.store.state.bytes) × Rests ix root old.store.state.bytes (applied parts mid.store.state.bytes)) → Going old now
    going_act acts grown = record {
      shape = acts.shape ∙ going.shape;
      depth = acts.depth ∙ going.depth;
      mirrors = sent_then tells old.store mid.store now.store going.mirrors acts.mirrors;
      saves = acts.saves ∙ going.saves;
      others = λ u ne. acts.others u ne ∙ going.others u ne;
      logs = logs_then tells old mid now going.logs (acts.kept refl);
      made = λ told alive. subst (λ (b : List ℕ). Grows ix root old.store.state.bytes b × Rests ix root old.store.state.bytes b) (sym (acts.made told (alive_now old mid going alive))) (grown told alive);
      time = λ told alive. (let r : Result (Unit {0}) PageFault = Ok tt in time_acts r acts told alive);
    }

    -- an action that was refused
    refused : (g h n : ℕ) → (let r : Result (Unit {0}) PageFault = Err (page.LogFull g h n) in Acts tells Opens t pages parts mid now r) → Going old now
    refused g h n acts = record {
      shape = acts.shape ∙ going.shape;
      depth = acts.depth ∙ going.depth;
      mirrors = sent_then tells old.store mid.store now.store going.mirrors acts.mirrors;
      saves = acts.saves ∙ going.saves;
      others = λ u ne. acts.others u ne ∙ going.others u ne;
      logs = logs_then tells old mid now going.logs (acts.kept refl);
      made = λ told alive. subst (λ (b : List ℕ). Grows ix root old.store.state.bytes b × Rests ix root old.store.state.bytes b) (sym (acts.made told (alive_now old mid going alive))) (going.made told alive);
      time = λ told alive. (let r : Result (Unit {0}) PageFault = Err (page.LogFull g h n) in time_acts r acts told alive);
    }

    -- the insertion ends with the pair
    pub inserts_done : (slot : ℕ) → (let r : Result (Unit {0}) PageFault = Ok tt in Acts tells Opens t pages parts mid now r)
        → (IsTrue tells → IsAlive old.store → (slot ≡ slot_due old.store.state.bytes) × Grows ix root old.store.state.bytes (applied parts mid.store.state.bytes) × Gains ix root table key old.store.state.bytes (applied parts mid.store.state.bytes))
        → (let s : Result ℕ IndexFault = Ok slot in InsertCause tells ix t root key old.store s) → (let s : Result ℕ IndexFault = Ok slot in Inserts tells Opens ix t root table key old now s)
    inserts_done slot acts data' cause = record {
      shape = acts.shape ∙ going.shape;
      depth = acts.depth ∙ going.depth;
      mirrors = sent_then tells old.store mid.store now.store going.mirrors acts.mirrors;
      cause = cause;
      saves = acts.saves ∙ going.saves;
      others = λ u ne. acts.others u ne ∙ going.others u ne;
      kept = λ well. logs_then tells old mid now going.logs (acts.kept refl);
      made = λ told alive.
          subst (λ (b : List ℕ). (slot ≡ slot_due old.store.state.bytes) × Grows ix root old.store.state.bytes b × Gains ix root table key old.store.state.bytes b) (sym (acts.made told (alive_now old mid going alive))) (data' told alive);
      dies = λ failed. absurd (false≢true failed);
      time = λ told alive. (let r : Result (Unit {0}) PageFault = Ok tt in time_acts r acts told alive);
    }

  -- the insertion ends without the pair
  pub inserts_refused : (old now : PagesView) → Going old now → (fault : IndexFault) → (let s : Result ℕ IndexFault = Err fault in (is_insert_failed s ≡ false) × InsertCause tells ix t root key old.store s)
      → ((n : ℕ) → fault ≡ index.PagesFull n → IsTrue tells → IsAlive old.store → (n ≤ used_pages now.store.state.bytes) ⊎ (7 ≤ ix.level now.store.state.bytes root)) → (let s : Result ℕ IndexFault = Err fault in Inserts tells Opens ix t root table key old now s)
  inserts_refused old now going fault cause full = record {
    shape = going.shape;
    depth = going.depth;
    mirrors = going.mirrors;
    cause = cause.1;
    saves = going.saves;
    others = going.others;
    kept = λ well. going.logs;
    made = made_of fault cause.0 full;
    dies = λ failed. absurd (false≢true (sym cause.0 ∙ failed));
    time = going.time;
  }
    where
      made_of : (fault : IndexFault) → (let s : Result ℕ IndexFault = Err fault in is_insert_failed s ≡ false) → ((n : ℕ) → fault ≡ index.PagesFull n → IsTrue tells → IsAlive old.store → (n ≤ used_pages now.store.state.bytes) ⊎ (7 ≤ ix.level now.store.state.bytes root))
          → IsTrue tells → IsAlive old.store → (let s : Result ℕ IndexFault = Err fault in Made ix root table key old.store.state.bytes now.store.state.bytes s)
      made_of (index.SlotsFull n) well full told alive = going.made told alive
      made_of (index.PagesFull n) well full told alive = let grown = going.made told alive in (grown.0, grown.1, full n refl told alive)
      made_of (index.LogFull g h n) well full told alive = going.made told alive
      made_of index.Media well full told alive = tt
      made_of index.Dead well full told alive = going.made told alive
      made_of (index.Damaged bad) well full told alive = going.made told alive

  -- the medium failed
  inserts_look_media : (old mid now : PagesView) → Going old mid → Looks tells Opens true mid now → IsAlive old.store → (let s : Result ℕ IndexFault = Err index.Media in Inserts tells Opens ix t root table key old now s)
  inserts_look_media old mid now going looks alive =
      let dies = looks.dies refl in
      record {
        shape = looks.shape ∙ going.shape;
        depth = looks.depth ∙ going.depth;
        mirrors = sent_then tells old.store mid.store now.store going.mirrors looks.mirrors;
        cause = alive;
        saves = looks.saves ∙ going.saves;
        others = λ u ne. ap (λ (f : ℕ → Option (List (ℕ × ℕ))). f u) looks.ranges ∙ going.others u ne;
        kept = λ well. absurd (false≢true (sym well));
        made = λ told living. tt;
        dies = λ failed. (dies.0, subst (λ (n : ℕ). Rose n now.store.faults) going.logs.faults dies.1);
        time = λ told living. time_looks true old mid now going looks told living;
      }

  pub inserts_look_err : (T : Type 0) (old mid now : PagesView) → Going old mid → (fault : PageFault) → (let r : Result T PageFault = Err fault in Looks tells Opens (is_failed r) mid now × LookCause tells mid.store r)
      → (let s : Result ℕ IndexFault = Err (as_index fault) in Inserts tells Opens ix t root table key old now s)
  inserts_look_err T old mid now going page.Media looks = inserts_look_media old mid now going looks.0 (sym going.logs.dead ∙ looks.1)
  inserts_look_err T old mid now going page.Dead looks = inserts_refused old now (going_more old mid now going looks.0) index.Dead (refl, sym going.logs.dead ∙ looks.1) (λ n e. absurd (cc))
  inserts_look_err T old mid now going (page.Damaged bad) looks = inserts_refused old now (going_more old mid now going looks.0) (index.Damaged bad) (refl, (sym going.logs.dead ∙ looks.1.0, looks.1.1)) (λ n e. absurd (cc))
  inserts_look_err T old mid now going (page.LogFull g h n) looks = absurd looks.1
  inserts_look_err T old mid now going page.SavesFull looks = absurd looks.1

  pub inserts_act_err : (old mid now : PagesView) → (going : Going old mid) → (pages : List ℕ) (parts : List Part)
      → (may : IsTrue tells → IsAlive old.store → MayBecome ix root table key old.store.state.bytes (applied parts mid.store.state.bytes)) → IsAlive old.store
      → ((g h n : ℕ) → IsFirstLacking mid.store t pages g h n → (let s : Result ℕ IndexFault = Err (index.LogFull g h n) in InsertCause tells ix t root key old.store s))
      → (fault : PageFault) → (let r : Result (Unit {0}) PageFault = Err fault in Acts tells Opens t pages parts mid now r) → (let s : Result ℕ IndexFault = Err (as_index fault) in Inserts tells Opens ix t root table key old now s)
  inserts_act_err old mid now going pages parts may alive cause page.Media acts =
      let dies = acts.dies refl in
      record {
        shape = acts.shape ∙ going.shape;
        depth = acts.depth ∙ going.depth;
        mirrors = sent_then tells old.store mid.store now.store going.mirrors acts.mirrors;
        cause = alive;
        saves = acts.saves ∙ going.saves;
        others = λ u ne. acts.others u ne ∙ going.others u ne;
        kept = λ well. absurd (false≢true (sym well));
        made = λ told living. tt;
        dies = λ failed. (dies.0, subst (λ (n : ℕ). Rose n now.store.faults) going.logs.faults dies.1);
        time = λ told living. (let r : Result (Unit {0}) PageFault = Err page.Media in time_acts old mid now going pages parts may r acts told living);
      }
  inserts_act_err old mid now going pages parts may alive cause (page.LogFull g h n) acts =
      inserts_refused old now (refused old mid now going pages parts may g h n acts) (index.LogFull g h n) (refl, cause g h n acts.cause.1) (λ m e. absurd (cc))
  inserts_act_err old mid now going pages parts may alive cause page.Dead acts = absurd (false≢true (sym (alive_now old mid going alive) ∙ acts.cause))
  inserts_act_err old mid now going pages parts may alive cause page.SavesFull acts = absurd acts.cause
  inserts_act_err old mid now going pages parts may alive cause (page.Damaged bad) acts = absurd acts.cause
