-- Looks as a number: none, one by the index, one read, and one after another.
use Rattle.std.proofs.Common.{◌≡◌, ◌≢◌, ℕ, Bool, false, inl, inr, List, Result, Ok, Err, refl, sym, ◌∙◌, ap, subst}
use Rattle.std.proofs.lemmas.Bool.{false≢true}
use Rattle.mars_base.specs.Causes.{Rose}
use Rattle.mars_base.proofs.Going.{stays, then, weaker}
use Rattle.array_shape.specs.declared.shape.Shape.{Shape}
use Rattle.eaw_face.specs.State.{State}
use Rattle.page_store.specs.State.{PagesState}
use Rattle.page_store.specs.Command.{read_as}
use Rattle.page_store.specs.Does.{Does}
use Rattle.page_store.specs.Outline.{Outline}
use Rattle.page_store.specs.Shown.{PagesView}
use Rattle.page_store.specs.Looks.{Looks, is_failed, LookCause}
use Rattle.page_store.specs.declared.fault.PageFault.{PageFault}
use Rattle.page_store.specs.declared.fault.PageFault.TheVariants.{LogFull, SavesFull, Media, Dead, Damaged}
use Rattle.record_table.specs.Sought.{LooksAs}
use Rattle.record_table.specs.Does as answers
use Rattle.record_table.specs.Faults.{as_table}
use Rattle.record_table.specs.declared.fault.TableFault.{TableFault}
use Rattle.eaw_face.proofs.Mirroring.{none_sent, sent_then}

module _ (tells : Bool) (Opens : List ℕ → List ℕ → Type 0) (t : ℕ) where
  pub looks_as : (failed : Bool) (old new : PagesView) → Looks tells Opens failed old new → LooksAs tells Opens t failed old new
  looks_as failed old new looks = record {
    shape = looks.shape;
    depth = looks.depth;
    mirrors = looks.mirrors;
    saves = looks.saves;
    tops = looks.tops;
    others = λ u ne i. looks.ranges i u;
    same = λ well. record { still = looks.still well; ranges = looks.ranges };
    dies = looks.dies;
    time = looks.time;
  }

  pub looks_none : (old : PagesView) → LooksAs tells Opens t false old old
  looks_none old = record {
    shape = refl;
    depth = refl;
    mirrors = none_sent tells old.store old.store refl refl refl refl (λ fine. fine) (λ told mirrors fine. refl);
    saves = refl;
    tops = refl;
    others = λ u ne. refl;
    same = λ well. record { still = record { dead = refl; faults = refl; state = λ told. refl }; ranges = refl };
    dies = λ failed. absurd (false≢true failed);
    time = λ told alive. stays old.store.moment old.store.left_since (λ image. Opens image old.store.state.bytes);
  }

  pub looks_same : (old new : PagesView) → new ≡ old → LooksAs tells Opens t false old new
  looks_same old new same = subst (λ (v : PagesView). LooksAs tells Opens t false old v) (sym same) (looks_none old)

  pub looks_then : (failed : Bool) (old mid new : PagesView) → LooksAs tells Opens t false old mid → LooksAs tells Opens t failed mid new → LooksAs tells Opens t failed old new
  looks_then failed old mid new first second =
      let was = first.same refl in
      record {
        shape = second.shape ∙ first.shape;
        depth = second.depth ∙ first.depth;
        mirrors = sent_then tells old.store mid.store new.store first.mirrors second.mirrors;
        saves = second.saves ∙ first.saves;
        tops = second.tops ∙ first.tops;
        others = λ u ne. second.others u ne ∙ first.others u ne;
        same = λ well. let later = second.same well in record {
          still = record { dead = later.still.dead ∙ was.still.dead; faults = later.still.faults ∙ was.still.faults; state = λ told. later.still.state told ∙ was.still.state told };
          ranges = later.ranges ∙ was.ranges;
        };
        dies = λ bad. let later = second.dies bad in (later.0, subst (λ (n : ℕ). Rose n new.store.faults) was.still.faults later.1);
        time = λ told alive.
            then (first.time told alive)
            (weaker (λ image. λ opens. subst (λ (s : State). Opens image s.bytes) (was.still.state told) opens) (second.time told (was.still.dead ∙ alive)));
      }

  module _ {T : Type 0} (old new : PagesView) where
    -- a read as a number
    pub looks_read : (r : Result T PageFault) → Does tells Opens (read_as t) old new r → ((p : PageFault) → r ≡ Err p → p ≢ Media → new ≡ old) → LooksAs tells Opens t (is_failed r) old new × LookCause tells old.store r
    looks_read (Ok answer) does same =
        let out = does.done.outline in (
          record {
            shape = does.shape;
            depth = does.depth;
            mirrors = does.mirrors;
            saves = ap (λ (o : Outline). o.counts) out;
            tops = ap (λ (o : Outline). o.top) out;
            others = λ u ne i. (out i).ranges u;
            same = λ well. record {
              still = record { dead = does.done.alive ∙ sym does.cause.0; faults = does.kept; state = λ told. ap (λ (s : PagesState). s.store) (does.done.state told) };
              ranges = ap (λ (o : Outline). o.ranges) out;
            };
            dies = λ failed. absurd (false≢true failed);
            time = λ told alive. weaker (λ image either. elim either [ inl before ↦ before | inr behind ↦ behind ]) (does.time told alive);
          },
          does.cause.0,
        )
    looks_read (Err Media) does same = (
      record {
        shape = does.shape;
        depth = does.depth;
        mirrors = does.mirrors;
        saves = does.marks.0;
        tops = does.marks.1;
        others = λ u ne. does.others u ne;
        same = λ well. absurd (false≢true (sym well));
        dies = λ failed. (does.dies refl, does.cause.2);
        time = λ told alive. weaker (λ image either. elim either [ inl before ↦ before | inr behind ↦ behind ]) (does.time told alive);
      },
      does.cause.0,
    )
    looks_read (Err Dead) does same = (looks_same old new (same Dead refl (λ e. cc)), does.cause)
    looks_read (Err (LogFull g h n)) does same = absurd does.cause.1
    looks_read (Err SavesFull) does same = absurd does.cause.1
    looks_read (Err (Damaged page)) does same = absurd does.cause

-- the same if the second look begins with the shape of its own store
pub looks_next : (tells : Bool) (Opens : Shape → List ℕ → List ℕ → Type 0) (t : ℕ) (failed : Bool) (old mid new : PagesView) → LooksAs tells (Opens old.store.shape) t false old mid
    → LooksAs tells (Opens mid.store.shape) t failed mid new → LooksAs tells (Opens old.store.shape) t failed old new
looks_next tells Opens t failed old mid new first second =
    looks_then tells (Opens old.store.shape) t failed old mid new first (subst (λ (s : Shape). LooksAs tells (Opens s) t failed mid new) first.shape second)

-- refusals of a look, told as those of records
pub failed_told : (f : PageFault) → (let r : Result (Unit {0}) TableFault = Err (as_table f) in answers.is_failed r) ≡ (let r : Result (Unit {0}) PageFault = Err f in is_failed r)
failed_told (LogFull g h n) = refl
failed_told SavesFull = refl
failed_told Media = refl
failed_told Dead = refl
failed_told (Damaged page) = refl
