-- What an opening keeps, told of the medium.
use Rattle.std.proofs.lemmas.Bool.{false≢true}
use Rattle.std.proofs.Common.{◌≡◌, ℕ, inl, inr, ⊎_elim, List, Bool, false, refl, sym, ◌∙◌, ap, subst, arith}
use Rattle.std.specs.Prelude.{IsTrue, IsFalse}
use Rattle.mars_base.specs.Moments.{Elapses}
use Rattle.pcm_media.specs.View.{View}
use Rattle.pcm_media.proofs.Left.{left_as_read}
use Rattle.array_shape.specs.declared.shape.Shape.{Shape}
use Rattle.array_shape.specs.Places.{media_len}
use Rattle.array_image.specs.Decided.{settled_data}
use Rattle.array_image.specs.Standing.{IsLawful}
use Rattle.row_bytes.proofs.OneShape.{one_shape}
use Rattle.eaw_face.specs.StoreView.{StoreView}
use Rattle.eaw_device.specs.Opens.{header_of, Opens, AllOpen, OpensLike, KeepsData, Attached, IsArray, IsBehind}
use Rattle.eaw_device.specs.declared.fault.AttachFault.{AttachFault}
use Rattle.record_table.specs.Upgrading.{OpensUpgraded}
use Rattle.device_recovery.specs.Recovered.{HasNoVote}
use Rattle.mars_core.specs.Attached as core
use Rattle.mars_core.specs.Attached.{is_media_fault}
use Rattle.mars_core.specs.declared.fault.CoreFault.{CoreFault}
use Rattle.mars_core.specs.declared.fault.CoreFault.TheVariants.{Damaged, Media, NoMemory}
use Rattle.open_records.specs.Opens as opening
use Rattle.open_records.specs.Opens.{OpensAsLeft, OpensAt, KeepsRecords, KeepsAt, LeavesNew, StillHolds}
use Rattle.open_records.specs.declared.opening.OpenFault.{OpenFault}
use Rattle.open_records.specs.declared.opening.OpenFault.TheVariants.{Array, Records}

module _ (tells : Bool) (told : IsTrue tells) (old : View) (store : StoreView) (attached : Attached tells old store) where
  pub holds_array : IsArray store.shape old
  holds_array = record { header = attached.shape_is told; sized = attached.sized; good = attached.good told }

  module _ (shape : Shape) (all : AllOpen shape old.content) where
    -- what a read gives opens with the data of the array
    same : store.shape ≡ shape
    same = one_shape (header_of old.content.bytes) store.shape shape (attached.shape_is told) (all old.content.bytes (left_as_read old.content)).1.header

    first : Opens shape old.content.bytes store.state.bytes
    first =
        let opens = all old.content.bytes (left_as_read old.content) in
        subst (λ (s : Shape). Opens s old.content.bytes store.state.bytes) same (record {
          header = attached.shape_is told;
          stands = record { lawful = subst (λ (s : Shape). IsLawful s old.content.bytes) (sym same) opens.1.stands.lawful; gives = sym (attached.bytes told) };
        })

    -- an image that opens with that data, or with the same in version 2
    like : (image : List ℕ) → Opens store.shape image store.state.bytes → OpensLike shape old.content image
    like image opens = (old.content.bytes, left_as_read old.content, store.state.bytes, first, subst (λ (s : Shape). Opens s image store.state.bytes) same opens)

    as_left : (image : List ℕ) → OpensUpgraded (Opens store.shape) store.state.bytes image → OpensAsLeft shape old.content image
    as_left image opens = (old.content.bytes, left_as_read old.content, store.state.bytes, first, subst (λ (s : Shape). OpensUpgraded (Opens s) store.state.bytes image) same opens)

    as_before : (image : List ℕ) → OpensLike shape old.content image → OpensAsLeft shape old.content image
    as_before image before = (before.0, before.1, before.2, before.3, inl before.4)

  -- what the array keeps as it is opened, and as its records are taken
  pub kept_records : (mid now : ℕ) (between since : ℕ → List ℕ → Type 0) → now ≡ mid → ((t : ℕ) (image : List ℕ) → (between t image → since t image) × (since t image → between t image))
      → KeepsData tells old store.moment store.left_since → Elapses store.moment mid store.left_since between (OpensUpgraded (Opens store.shape) store.state.bytes) → KeepsRecords tells old now since
  kept_records mid now between since moment left keeps time told' shape all =
      let before = keeps told shape all in
      record {
        later = omega (arith, before.later, time.later, moment);
        keeps = λ t image le was. (left t image).0 (time.keeps t image (omega (arith, le, before.later)) (before.keeps t image le was));
        only = λ t image le is. ⊎_elim (λ was. ⊎_elim (λ past. inl past) (λ opens. inr (as_before shape all image opens)) (before.only t image le was)) (λ opens. inr (as_left shape all image opens))
            (time.only t image (omega (arith, le, before.later)) ((left t image).1 is));
      }

  module _ (defers : Bool) (later : StoreView) (new : View) (behind : IsBehind tells defers later new) (keeps : KeepsData tells old store.moment store.left_since) where
    -- what was new since the store was opened, told of the medium behind it
    since : (P Q : List ℕ → Type 0) → Elapses store.moment later.moment store.left_since later.left_since Q → (shape : Shape) → AllOpen shape old.content
        → ((image : List ℕ) → OpensLike shape old.content image → P image) → ((image : List ℕ) → Q image → P image) → LeavesNew P old new
    since P Q time shape all before after =
        let opened = keeps told shape all in
        record {
          later = omega (arith, opened.later, time.later, behind.moment);
          only = λ t image le left. ⊎_elim (λ was. ⊎_elim (λ past. inl past) (λ opens. inr (before image opens)) (opened.only t image le was)) (λ opens. inr (after image opens))
              (time.only t image (omega (arith, le, opened.later)) (behind.left t image left));
        }

    -- the array is as it was opened
    pub still : later.shape ≡ store.shape → later.is_dead ≡ false → later.state.bytes ≡ store.state.bytes → StillHolds defers old new
    still shape alive bytes = record {
      shape = store.shape;
      array = holds_array;
      size = behind.size ∙ ap media_len shape ∙ sym attached.sized;
      bytes = ap (λ (s : Shape). settled_data s new.content.bytes) (sym shape) ∙ behind.bytes told alive ∙ bytes ∙ attached.bytes told;
      quiet = λ at_once. subst (λ (s : Shape). HasNoVote s new.content.bytes) shape (behind.quiet told alive at_once);
    }

    pub alone : later ≡ store → (fault : OpenFault) → ((shape : Shape) (image : List ℕ) → OpensLike shape old.content image → OpensAt fault shape old.content image) → KeepsAt tells old new fault
    alone same fault before told' shape all =
        since (OpensAt fault shape old.content) (λ image. ⊥) (subst (λ (v : StoreView). Elapses store.moment v.moment store.left_since v.left_since (λ image. ⊥)) (sym same)
        (record { later = omega arith; keeps = λ t image le left. left; only = λ t image le left. inl left })) shape all (before shape) (λ image never. absurd never)

    -- the records were not taken
    module _ (fault : CoreFault) (gives : core.GivesBack tells (Opens store.shape) (is_media_fault fault) store later) where
      pub untaken : KeepsAt tells old new (Records fault)
      untaken told' shape all = by fault gives
        where
          by : (fault : CoreFault) → core.GivesBack tells (Opens store.shape) (is_media_fault fault) store later → LeavesNew (OpensAt (Records fault) shape old.content) old new
          by Media gives = since _ _ (gives.time told) shape all (as_before shape all) (λ image opens. ⊎_elim (λ same. as_left shape all image (inl same)) (λ two. as_left shape all image (inr two.1)) opens)
          by NoMemory gives = since _ _ (gives.time told) shape all (λ image opens. opens) (λ image opens. ⊎_elim (like shape all image) (λ two. absurd (false≢true two.0)) opens)
          by (Damaged page) gives = since _ _ (gives.time told) shape all (λ image opens. opens) (λ image opens. ⊎_elim (like shape all image) (λ two. absurd (false≢true two.0)) opens)

-- the store of records that were not taken
pub given_back : (tells defers : Bool) (old new : View) (store later : StoreView) → Attached tells old store → IsBehind tells defers later new → KeepsData tells old store.moment store.left_since
    → (fault : CoreFault) → core.GivesBack tells (Opens store.shape) (is_media_fault fault) store later → opening.GivesBack tells defers old new (Records fault)
given_back tells defers old new store later attached behind keeps fault gives = by fault gives
  where
    by : (fault : CoreFault) → core.GivesBack tells (Opens store.shape) (is_media_fault fault) store later → opening.GivesBack tells defers old new (Records fault)
    by Media gives = λ told. (store.shape, holds_array tells told old store attached)
    by NoMemory gives = λ told. still tells told old store attached defers later new behind keeps gives.shape ((gives.kept refl).0 ∙ attached.alive) (gives.unwritten told refl)
    by (Damaged page) gives = λ told. still tells told old store attached defers later new behind keeps gives.shape ((gives.kept refl).0 ∙ attached.alive) (gives.unwritten told refl)

-- the array was not opened
pub kept_unopened : (tells : Bool) (old new : View) (fault : AttachFault) → KeepsData tells old new.moment new.left_since → KeepsAt tells old new (Array fault)
kept_unopened tells old new fault keeps told shape all = let time = keeps told shape all in record { later = time.later; only = time.only }
