-- How many commits may wait for their write-back, by what words ask for.
use Rattle.std.proofs.Common.{◌≡◌, ℕ, zero, suc, ◌<◌, ◌≤◌, Bool, false, nat_lt, List, length, Option, Some, None, subst, arith}
use Rattle.std.specs.Prelude.{IsTrue}
use Rattle.pcm_media.specs.View.{View}
use Rattle.commit_queue.specs.Deferred.{deferred_orders}
use Rattle.eaw_face.specs.StoreView.{StoreView}
use Rattle.eaw_device.specs.Depths.{IsOfDepth}
use Rattle.eaw_device.specs.Opens.{IsBehind}
use Rattle.command_words.specs.Asked.{IsNumber, GivesWriting, AsksFor}
use Rattle.command_words.specs.declared.words.CallersNumbers.{CallersNumbers}
use Rattle.command_words.specs.declared.words.DrillNumbers.{DrillNumbers}
use Rattle.command_words.specs.declared.words.RunOptions.{RunOptions}
use Rattle.command_words.specs.declared.words.Writing.{Writing}
use Rattle.command_words.specs.declared.words.Writing.TheVariants.{AtOnce, Late}
use Rattle.command_words.specs.declared.words.Words.TheVariants.{Run, Callers, Drill}
use Rattle.reader_work.specs.Readership.{passes_for}
use Rattle.mars_shell.specs.Late.{depth_of, HasDepth}

-- The medium that a run gives back is behind the store, and no more commits wait on it than may.
pub record IsHandedBack (tells : Bool) (depth : ℕ) (store : StoreView) (media : View) : Type 0 where
  pub behind : IsBehind tells (nat_lt 0 depth) store media
  pub waiting : IsTrue tells → store.is_dead ≡ false → length (deferred_orders store.shape media.content.bytes) ≤ depth

-- where the type of a device says what the words ask for
module _ (writing : Writing) (least most : ℕ) (is : (least ≡ depth_of writing) × (most ≡ depth_of writing)) where
  pub of_depth : (depth : ℕ) → depth ≤ 64 → depth ≡ depth_of writing → IsOfDepth least most depth
  of_depth depth few same = (omega (arith, is.0, same), omega (arith, is.1, same), few)

  pub handed_back : (tells : Bool) (store : StoreView) (media : View) → IsBehind tells (nat_lt 0 most) store media → (waiting : ℕ) → waiting ≤ most
      → (IsTrue tells → store.is_dead ≡ false → length (deferred_orders store.shape media.content.bytes) ≡ waiting) → IsHandedBack tells (depth_of writing) store media
  handed_back tells store media behind waiting few counted = record {
    behind = subst (λ (depth : ℕ). IsBehind tells (nat_lt 0 depth) store media) is.1 behind;
    waiting = λ told alive. omega (arith, counted told alive, few, is.1);
  }

given_depth : (first : Option (List ℕ)) (writing : Writing) → GivesWriting first writing → HasDepth writing
given_depth first AtOnce gives = tt
given_depth None (Late depth) gives = absurd (cc gives)
given_depth (Some value) (Late depth) gives = (omega (arith, gives.0), gives.1)

pub run_depth : (words : List (List ℕ)) (given : RunOptions) → AsksFor words (Run given) → HasDepth given.writing
run_depth words given asks = given_depth _ given.writing asks.4.1

pub callers_depth : (words : List (List ℕ)) (numbers : CallersNumbers) → AsksFor words (Callers numbers) → HasDepth numbers.writing
callers_depth words numbers asks = given_depth _ numbers.writing asks.4.1.writing

given_few : (first : Option (List ℕ)) (number : ℕ) → IsNumber 1 32 None first number → number ≤ 32
given_few None number gives = absurd (cc gives)
given_few (Some value) number gives = gives.1

one_left : (callers readers : ℕ) → callers ≤ 32 → (0 < readers → callers ≤ 31) → passes_for callers readers ≤ 32
one_left callers zero few room = few
one_left callers (suc readers) few room = (let most = room (omega arith) in omega (arith, most))

pub callers_few : (words : List (List ℕ)) (numbers : CallersNumbers) → AsksFor words (Callers numbers) → passes_for numbers.callers numbers.readers ≤ 32
callers_few words numbers asks = one_left numbers.callers numbers.readers (given_few _ numbers.callers asks.4.1.callers) asks.4.1.room

given_readers : (first : Option (List ℕ)) (number : ℕ) → IsNumber 1 8 (Some 0) first number → number ≤ 8
given_readers None number gives = (let none : 0 ≡ number = cc gives in omega (arith, none))
given_readers (Some value) number gives = gives.1

pub readers_few : (words : List (List ℕ)) (numbers : CallersNumbers) → AsksFor words (Callers numbers) → numbers.readers ≤ 8
readers_few words numbers asks = given_readers _ numbers.readers asks.4.1.readers

pub drill_depth : (words : List (List ℕ)) (numbers : DrillNumbers) → AsksFor words (Drill numbers) → HasDepth numbers.writing
drill_depth words numbers asks = given_depth _ numbers.writing asks.4.3
