-- A run over an array that was opened: its records were read, and its lines answered.
use Rattle.std.proofs.Common.{◌≡◌, ◌⊎◌, ℕ, ◌≤◌, length, false, nat_lt, inl, inr, ⊎_elim, List, Bool, sym, ap, subst, ◌∙◌, arith}
use Rattle.std.specs.Prelude.{IsTrue}
use Rattle.pcm_media.specs.Images.{MayLeave}
use Rattle.pcm_media.specs.View.{View}
use Rattle.pcm_media.proofs.Left.{left_as_read}
use Rattle.array_shape.specs.declared.shape.Shape.{Shape}
use Rattle.array_image.specs.Decided.{settled_data}
use Rattle.device_recovery.specs.Recovered.{HasNoVote}
use Rattle.commit_queue.specs.Deferred.{deferred_orders}
use Rattle.eaw_face.specs.StoreView.{StoreView}
use Rattle.eaw_device.specs.Opens.{Opens, AllOpen, OpensLike, KeepsData, Attached}
use Rattle.page_store.specs.Index.{Index}
use Rattle.caller_steps.specs.State.{State}
use Rattle.caller_steps.specs.Room.{Limits}
use Rattle.caller_steps.specs.Run.{Turn}
use Rattle.caller_steps.specs.Step.{Runs}
use Rattle.mars_core.specs.Over.{limits_of}
use Rattle.script_run.specs.declared.ended.Ended.{Ended}
use Rattle.array_runs.specs.Forms.{index_at, index_in}
use Rattle.array_runs.specs.Records.{begun_on, HasAll}
use Rattle.mars_shell.specs.Run.{TakesTurns}
use Rattle.mars_shell.specs.PrefixLaw.{Recovers}
use Rattle.mars_shell.specs.Served.{opens_of, Served}
use Rattle.array_runs.proofs.Forming.{sound_says}
use Rattle.array_runs.proofs.Opened.{at_entry, holds}
use Rattle.mars_shell.proofs.Waiting.{IsHandedBack}

module _ (tells : Bool) (told : IsTrue tells) (old : View) (only_now : (image : List ℕ) → IsTrue tells → old.left_since old.moment image → MayLeave old.content image)
    (store : StoreView) (attached : Attached tells old store) (keeps : KeepsData tells old store.moment store.left_since) where
  module _ (depth : ℕ) (limit : store.depth ≡ depth) (later : StoreView) (new : View) (handed : IsHandedBack tells depth later new) where
    module _ (counts_now : (t : ℕ) (image : List ℕ) → IsTrue tells → t ≤ new.moment → MayLeave new.content image → new.left_since t image) where
      left_now : (image : List ℕ) → MayLeave new.content image → later.left_since later.moment image
      left_now image left = subst (λ (t : ℕ). later.left_since t image) handed.behind.moment (handed.behind.left new.moment image (counts_now new.moment image told (omega arith) left))

      module _ (Says : Limits → List Turn → State → Type 0) (ended : Ended) (served : Served Says Opens (index_at store.state.bytes) store ended later) where
        recovers : (least : ℕ) (image : List ℕ) → opens_of Opens store.shape (index_at store.state.bytes) served.final least image → Recovers store.shape (index_in store.shape old) served.final least image
        recovers least image has =
            let opens = has.opens in
            subst (λ (b : List ℕ). Recovers store.shape (index_at b) served.final least image) (attached.bytes told) (record {
              count = has.count;
              at_least = has.at_least;
              at_most = has.at_most;
              whole = has.whole;
              opens = (record { bytes = opens.bytes; opened = opens.opened; sound = opens.sound; named = opens.named; shows = opens.shows }, opens.version);
            })

        -- within the opening, or behind it
        as_opened : AllOpen store.shape old.content → (image : List ℕ) → Opens store.shape image store.state.bytes ⊎ opens_of Opens store.shape (index_at store.state.bytes) served.final 0 image
            → OpensLike store.shape old.content image ⊎ Recovers store.shape (index_in store.shape old) served.final 0 image
        as_opened all image (inl opens) =
            let first = all old.content.bytes (left_as_read old.content) in
            inl (old.content.bytes, left_as_read old.content, first.0, first.1, subst (λ (b : List ℕ). Opens store.shape image b) (attached.bytes told ∙ first.1.stands.gives) opens)
        as_opened all image (inr has) = inr (recovers 0 image has)

        bytes_now : later.is_dead ≡ false → settled_data store.shape new.content.bytes ≡ later.state.bytes
        bytes_now alive = ap (λ (s : Shape). settled_data s new.content.bytes) (sym served.shape) ∙ handed.behind.bytes told alive

        -- the data at the end names the index that it is sound under
        own_all : later.is_dead ≡ false → HasAll (index_at store.state.bytes) later.state.bytes served.final → HasAll (index_in store.shape new) (settled_data store.shape new.content.bytes) served.final
        own_all alive has =
            subst (λ (b : List ℕ). HasAll (index_at b) b served.final) (sym (bytes_now alive))
            (subst (λ (i : Index). HasAll i later.state.bytes served.final) (sym (sound_says store.state.bytes later.state.bytes has.sound)) has)

        -- callers took turns
        pub takes_turns : TakesTurns depth Says old ended new
        takes_turns = record {
          shape = store.shape;
          holds = holds tells told old only_now store attached keeps served.sound;
          turns = served.turns;
          final = served.final;
          runs = subst (λ (x : List ℕ × ℕ). Runs (limits_of (index_at x.0) store.shape x.1) (begun_on (index_at x.0) x.0) served.turns served.final) (λ i. (attached.bytes told i, limit i)) served.runs;
          says = subst (λ (x : List ℕ × ℕ). Says (limits_of (index_at x.0) store.shape x.1) served.turns served.final) (λ i. (attached.bytes told i, limit i)) served.says;
          prefix_law = record {
            now = λ image left. recovers (length served.final.history) image (served.now image (left_now image left));
            since = λ all image left. ⊎_elim (λ was. inl (at_entry tells told old only_now store attached keeps store.shape all image was)) (λ anew. as_opened all image anew)
                (served.since.only old.moment image (keeps told store.shape all).later (handed.behind.left old.moment image left));
          };
          quiet = λ unfailed at_once. subst (λ (s : Shape). HasNoVote s new.content.bytes) served.shape (handed.behind.quiet told (served.left unfailed).0 (ap (nat_lt 0) at_once));
          waiting = λ unfailed. subst (λ (s : Shape). length (deferred_orders s new.content.bytes) ≤ depth) served.shape (handed.waiting told (served.left unfailed).0);
          left = λ unfailed. let its = served.left unfailed in (its.1, own_all its.0 its.2);
        }
