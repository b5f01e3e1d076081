-- The heap, as an allocator, and what the proofs of the parts share.
use mathlib.Core.Path.{◌≡◌, refl}
use mathlib.Core.Bool.{Bool, true, false, ◌&&◌, false≢true}
use lib.Dec.{T}
use mir.Syntax.{impl, tnil, dnil}
use mathlib.Core.List.{[]}
use denote.RattleType.{RattleType}
use Rattle.std.specs.Prelude.{Option, Some, None, IsSome}
use Rattle.core.proofs.alloc.Calls.{Al}
use Rattle.std_heap.specs.contracts.Global as Heap
use Rattle.std_heap.specs.contracts.GlobalAllocator.TheImpl.{ghosts, dict}
use Rattle.std_heap.proofs.Global.TheLaws as global
use Rattle.std_alloc.proofs.BoxSteps.Form.{Bx, R, P}
use Rattle.box_parts.specs.contracts.parts.Parts as parts

-- the parts of a box, as a row
abbrev pub PartsRow : Bx → RattleType
PartsRow E = parts.the_row (R E) (P E) E.al.g

abbrev pub heap : Al
heap = record { row = Heap.the_row; laws = global.the_row_laws; g = ghosts; d = dict; drops = impl [] tnil dnil }

pub held_in : {A : Type 0} (o : Option A) → IsSome o → (x : A) × (o ≡ Some x)
held_in (Some x) some = (x, refl)
held_in None some = absurd (false≢true some)

pub both : (a b : Bool) → T a → T b → T (a && b)
both true b x y = y
both false b x y = absurd x
