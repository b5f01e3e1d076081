-- The parts of a box of the heap that holds an open array.
use mir.Syntax.{Sym}
use denote.RattleType.{RattleType}
use Rattle.std_heap.specs.contracts.Global as Heap
use Rattle.std_heap.specs.contracts.GlobalAllocator.TheImpl.{ghosts}
use Rattle.box_parts.specs.contracts.parts.Parts as Parts
use Rattle.taped_array.specs.contracts.open_array.OpenArray.{the_row}

abbrev pub row : RattleType
row = Parts.the_row the_row Heap.the_row ghosts

abbrev pub name : Sym
name = (Parts.the_type the_row Heap.the_row ghosts).name
