-- What a `Held` owns: the same as a `Box<OpenArray>`, or nothing. Assumes nothing: these are definitions.
use base.Fml.{Fml}
use base.Stored.{Coded}
use denote.RawPtr.{Ptr}
use Rattle.std.specs.Prelude.{Option}
use Rattle.std.specs.Coded.{coded_option}
use Rattle.std.specs.Global.{Global}
use Rattle.std_heap.specs.contracts.GlobalAllocator.TheImpl.{ghosts}
use Rattle.box_parts.specs.Owned.{owned}
use Rattle.taped_array.specs.contracts.open_array.OpenArray.{the_row}

abbrev pub held_owns : Global → Ptr → Option the_row.Denot → Fml
held_owns alloc = owned (ghosts.dealloc_token alloc) the_row

abbrev pub held_coded : Coded (Option the_row.Denot)
held_coded = coded_option the_row.coded
