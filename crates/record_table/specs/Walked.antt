-- What a walk over the keys of a table reads, over any store, and what it costs.
use Rattle.std.specs.Prelude.{ℕ, suc, ◌≡◌, ◌+◌, ◌*◌, ◌≤◌, Bool, IsFalse, List, [], ◌∷◌, length}
use Rattle.array_shape.specs.Places.{page_count}
use Rattle.array_shape.specs.declared.shape.Shape.{Shape}
use Rattle.eaw_face.specs.Command.{Command}
use Rattle.eaw_face.specs.Command as store
use Rattle.page_store.specs.Course.{Course, Reading, IsWay, AreThere}
use Rattle.page_store.specs.Follows.{reads_cost}
use Rattle.page_store.specs.Access.{Access}
use Rattle.page_store.specs.Index.{slots_of}
use Rattle.page_store.specs.Pairs.{Pair}
use Rattle.record_table.specs.Hearing.{Hearing}

-- the key behind the last of these pairs, or this one if there are none
abbrev pub behind : ℕ → List Pair → ℕ
behind from [] = from
behind from (p ∷ ps) = behind (suc p.0) ps

-- a look for the pairs that come next: from which key on, and the pages that it read
abbrev pub Look : Type 0
Look = ℕ × List Reading

-- each went its course in the index of this root
abbrev pub AreLooks : Access → ℕ → Shape → List Look → Type 0
AreLooks access root shape [] = Unit {0}
AreLooks access root shape (l ∷ ls) =
    IsWay (access.nexting root l.0).goes l.1 × (length l.1 ≤ (access.nexting root l.0).most shape) × AreThere (page_count shape) l.1 × AreLooks access root shape ls

-- the calls of these looks, and of reads of the slots behind them, if each command and each slot make so many
abbrev pub looks_cost : (Command → ℕ) → List Look → ℕ
looks_cost calls [] = 0
looks_cost calls (l ∷ ls) = reads_cost calls l.1 + looks_cost calls ls

abbrev pub heard_cost : (ℕ → ℕ) → List Hearing → ℕ
heard_cost cost [] = 0
heard_cost cost (h ∷ hs) = cost h.1 + heard_cost cost hs

-- slots were read, and nothing else: unless the medium failed, the calls are theirs
abbrev pub ArePaid : Bool → (ℕ → ℕ) → (before now : ℕ) → (old new : List Hearing) → Type 0
ArePaid failed cost before now old new = IsFalse failed → now + heard_cost cost old ≡ before + heard_cost cost new

-- each command costs what it did, unless the medium failed
abbrev pub AreSteady : Bool → (calls calls_now : Command → ℕ) → Type 0
AreSteady failed calls calls_now = IsFalse failed → (command : Command) → calls_now command ≡ calls command

-- the calls of a read of a slot in the data
abbrev pub data_cost : (Command → ℕ) → Shape → ℕ → ℕ
data_cost calls shape slot = calls (store.read (64 * (slots_of shape + slot)) 64)

-- A walk made these looks, at most one more than there are slots, and read these slots, and nothing else: unless the medium failed, its calls are
-- those of these reads. So it ends, whatever a store says.
pub record Walked (access : Access) (root : ℕ) (calls : Command → ℕ) (cost : ℕ → ℕ) (shape : Shape) (failed : Bool) (before now : ℕ) (heard : List Hearing) : Type 0 where
  pub looks : List Look
  pub are : AreLooks access root shape looks
  pub few : length looks ≤ slots_of shape + 1
  pub few_heard : length heard ≤ slots_of shape + 30
  pub exact : IsFalse failed → now ≡ before + (looks_cost calls looks + heard_cost cost heard)

-- One look, and a read of the slot that it led to, if it led to one, and nothing else: unless the medium failed, the calls are theirs.
pub record LooksOnce (course : Course (List Pair)) (calls : Command → ℕ) (cost : ℕ → ℕ) (shape : Shape) (failed : Bool) (before now : ℕ) (old new : List Hearing) : Type 0 where
  pub read : List Reading
  pub way : IsWay course.goes read
  pub few : length read ≤ course.most shape
  pub there : AreThere (page_count shape) read
  pub exact : IsFalse failed → now + heard_cost cost old ≡ before + (reads_cost calls read + heard_cost cost new)
