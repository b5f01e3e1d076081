-- What is told when records cannot be taken.
use Rattle.std.proofs.Common.{◌≡◌, ◌⊎◌, inl, inr, ⊎_elim, ◌∙◌, refl, Bool, false, List, ℕ, IsTrue, Result, Err, sym, ap, subst}
use Rattle.std.proofs.lemmas.Bool.{false≢true}
use Rattle.mars_base.specs.Causes.{Rose}
use Rattle.mars_base.proofs.Going.{stays, weaker, then}
use Rattle.array_shape.specs.declared.shape.Shape.{Shape}
use Rattle.eaw_face.specs.State.{State}
use Rattle.eaw_face.specs.StoreView.{StoreView}
use Rattle.eaw_face.specs.Causes.{IsAlive}
use Rattle.eaw_face.proofs.Mirroring.{none_sent, sent_then}
use Rattle.page_store.specs.Index.{Index}
use Rattle.page_store.specs.Looks.{Looks}
use Rattle.page_store.specs.Shown.{PagesView}
use Rattle.record_table.specs.Attached.{AttachCause, is_refused_by_media}
use Rattle.page_store.specs.declared.index_fault.CheckFault.{CheckFault}
use Rattle.page_store.specs.declared.index_fault.CheckFault.TheVariants.{Damaged, Media, Dead, NoMemory}
use Rattle.record_table.specs.Sought.{LooksAs}
use Rattle.record_table.specs.Upgrading.{upgraded, OpensUpgraded, Upgrades, UpgradeCause}
use Rattle.record_table.specs.Names.{names_of}
use Rattle.record_table.specs.Shown.{table_of, keys_of}
use Rattle.caller_steps.specs.State.{opened}
use Rattle.caller_steps.specs.Core.{CoreView}
use Rattle.mars_core.specs.Over.{IsOver, Begins, index_of}
use Rattle.record_table.specs.declared.fault.TableFault.{TableFault}
use Rattle.record_table.specs.declared.fault.TableFault.TheVariants as fault
use Rattle.mars_core.specs.Attached.{is_media_fault, attach_fault, scan_fault, CoreCause, LeftAsItWas, GivesBack}

pub attach_cause : (tells : Bool) (index : Index) (old : StoreView) (fault : CheckFault) → AttachCause tells index old fault → CoreCause tells index old (attach_fault fault)
attach_cause tells index old (Damaged page) cause = cause.1
attach_cause tells index old Media cause = tt
attach_cause tells index old Dead cause = tt
attach_cause tells index old NoMemory cause = tt

-- a look leaves the store as it was
pub look_left : (tells : Bool) (Opens : List ℕ → List ℕ → Type 0) (old new : PagesView) → IsAlive old.store → Looks tells Opens false old new → LeftAsItWas tells Opens false old.store new.store
look_left tells Opens old new alive looks =
    let still = looks.still refl in
    record {
      shape = looks.shape;
      depth = looks.depth;
      mirrors = looks.mirrors;
      kept = λ well. (still.dead, still.faults);
      unwritten = λ told well. ap (λ (s : State). s.bytes) (still.state told);
      dies = λ failed. absurd (false≢true failed);
      time = λ told. looks.time told alive;
    }

-- and so does a test that ends with a refusal, unless the medium failed
pub attach_left : (tells : Bool) (Opens : List ℕ → List ℕ → Type 0) (index : Index) (old new : PagesView) → IsAlive old.store → (fault : CheckFault) → AttachCause tells index old.store fault
    → Looks tells Opens (is_refused_by_media fault) old new → LeftAsItWas tells Opens (is_media_fault (attach_fault fault)) old.store new.store
attach_left tells Opens index old new alive (Damaged page) cause looks = look_left tells Opens old new alive looks
attach_left tells Opens index old new alive NoMemory cause looks = look_left tells Opens old new alive looks
attach_left tells Opens index old new alive Media cause looks = record {
  shape = looks.shape;
  depth = looks.depth;
  mirrors = looks.mirrors;
  kept = λ well. absurd (false≢true (sym well));
  unwritten = λ told well. absurd (false≢true (sym well));
  dies = looks.dies;
  time = λ told. looks.time told alive;
}
attach_left tells Opens index old new alive Dead cause looks = absurd (false≢true (sym alive ∙ cause))

-- a store that is as it was can be given back
pub left_gives : (tells : Bool) (Opens : List ℕ → List ℕ → Type 0) (failed : Bool) (old new : StoreView) → LeftAsItWas tells Opens failed old new → GivesBack tells Opens failed old new
left_gives tells Opens failed old new left = record {
  shape = left.shape;
  depth = left.depth;
  mirrors = left.mirrors;
  kept = left.kept;
  unwritten = left.unwritten;
  dies = left.dies;
  time = λ told. weaker (λ image opens. inl opens) (left.time told);
}

-- why data was not brought to version 2, as the opening tells it
pub upgrade_cause : (tells : Bool) (index : Index) (old : PagesView) (f : TableFault) → (let r : Result (Unit {0}) TableFault = Err f in UpgradeCause tells old r) → CoreCause tells index old.store (scan_fault f)
upgrade_cause tells index old (fault.Damaged page) cause = λ told. absurd (cause.1 told)
upgrade_cause tells index old _ cause = tt

-- the store is then given back
pub upgrade_gives : (tells : Bool) (Opens : List ℕ → List ℕ → Type 0) (index : Index) (old new : PagesView) → IsAlive old.store → (f : TableFault) → (let r : Result (Unit {0}) TableFault = Err f in Upgrades tells Opens index old new r)
    → GivesBack tells Opens (is_media_fault (scan_fault f)) old.store new.store
upgrade_gives tells Opens index old new alive fault.Media up = record {
  shape = up.shape;
  depth = up.depth;
  mirrors = up.mirrors;
  kept = λ well. absurd (false≢true (sym well));
  unwritten = λ told well. absurd (false≢true (sym well));
  dies = up.dies;
  time = λ told. weaker (λ image either. ⊎_elim (λ was. inl was) (λ is. inr (refl, is)) either) (up.exact told alive);
}
upgrade_gives tells Opens index old new alive fault.NoMemory up = absurd up.cause
upgrade_gives tells Opens index old new alive (fault.Damaged page) up = record {
  shape = up.shape;
  depth = up.depth;
  mirrors = up.mirrors;
  kept = up.faults;
  unwritten = λ told well. absurd (up.cause.1 told);
  dies = λ failed. absurd (false≢true failed);
  time = λ told. absurd (up.cause.1 told);
}
upgrade_gives tells Opens index old new alive fault.Dead up = absurd (false≢true (sym alive ∙ up.cause))
upgrade_gives tells Opens index old new alive fault.SavesFull up = absurd up.cause
upgrade_gives tells Opens index old new alive (fault.SlotsFull n) up = absurd up.cause
upgrade_gives tells Opens index old new alive (fault.PagesFull n) up = absurd up.cause
upgrade_gives tells Opens index old new alive (fault.LogFull g h n) up = absurd up.cause

-- what a look left is given back
pub looked_gives : (tells : Bool) (Opens : Shape → List ℕ → List ℕ → Type 0) (failed : Bool) (p q : PagesView) (new : StoreView) → IsAlive p.store → LooksAs tells (Opens p.store.shape) 0 false p q
    → GivesBack tells (Opens q.store.shape) failed q.store new → GivesBack tells (Opens p.store.shape) failed p.store new
looked_gives tells Opens failed p q new alive looks back =
    let still = (looks.same refl).still in
    let bytes : IsTrue tells → q.store.state.bytes ≡ p.store.state.bytes = λ told. ap (λ (s : State). s.bytes) (still.state told) in
    record {
      shape = back.shape ∙ looks.shape;
      depth = back.depth ∙ looks.depth;
      mirrors = sent_then tells p.store q.store new looks.mirrors back.mirrors;
      kept = λ well. ((back.kept well).0 ∙ still.dead, (back.kept well).1 ∙ still.faults);
      unwritten = λ told well. back.unwritten told well ∙ bytes told;
      dies = λ dead. ((back.dies dead).0, subst (λ (n : ℕ). Rose n new.faults) still.faults (back.dies dead).1);
      time = λ told. then (weaker (λ image opens. inl opens) (looks.time told alive))
          (weaker (λ image either. subst (λ (x : Shape × List ℕ). Opens x.0 image x.1 ⊎ (IsTrue failed × Opens x.0 image (upgraded x.1))) (λ i. (looks.shape i, bytes told i)) either) (back.time told));
    }

-- what begins on it begins on what was there before
pub looked_begins : (tells : Bool) (Opens : Shape → List ℕ → List ℕ → Type 0) (index : Index) (p q : PagesView) (new : StoreView) (core : CoreView) → IsAlive p.store → Looks tells (Opens p.store.shape) false p q
    → Begins tells (Opens q.store.shape) index q.store new core → Begins tells (Opens p.store.shape) index p.store new core
looked_begins tells Opens index p q new core alive looks begins =
    let still = looks.still refl in
    let bytes : IsTrue tells → q.store.state.bytes ≡ p.store.state.bytes = λ told. ap (λ (s : State). s.bytes) (still.state told) in
    record {
      over = subst (λ (s : Shape). IsOver tells (Opens s) index new core) looks.shape begins.over;
      alive = begins.alive;
      faults = begins.faults ∙ still.faults;
      shape = begins.shape ∙ looks.shape;
      depth = begins.depth ∙ looks.depth;
      state = λ told. subst (λ (d : List ℕ). core.state ≡ opened (names_of d) (table_of index d) (index_of index (upgraded d))) (bytes told) (begins.state told);
      fresh = begins.fresh;
      sound = λ told. subst (λ (d : List ℕ). index.sound d) (bytes told) (begins.sound told);
      bytes = λ told. begins.bytes told ∙ ap upgraded (bytes told);
      version = begins.version;
      keys = λ told. begins.keys told ∙ ap (keys_of index) (bytes told);
      time = λ told. then (weaker (λ image opens. inl opens) (looks.time told alive))
          (weaker (λ image either. subst (λ (x : Shape × List ℕ). OpensUpgraded (Opens x.0) x.1 image) (λ i. (looks.shape i, bytes told i)) either) (begins.time told));
      mirrors = sent_then tells p.store q.store new looks.mirrors begins.mirrors;
    }

-- a store to which nothing was done
pub gives_same : (tells : Bool) (Opens : List ℕ → List ℕ → Type 0) (old : StoreView) → GivesBack tells Opens false old old
gives_same tells Opens old = record {
  shape = refl;
  depth = refl;
  mirrors = none_sent tells old old refl refl refl refl (λ fine. fine) (λ told mirrors fine. refl);
  kept = λ well. (refl, refl);
  unwritten = λ told well. refl;
  dies = λ failed. absurd (false≢true failed);
  time = λ told. stays old.moment old.left_since _;
}
