-- What an open array shows.
use Rattle.tape_media.specs.Tape as tape
use Rattle.eaw_device.specs.Opens.{Opens}
use Rattle.eaw_device.specs.Sound as device
use Rattle.btree_pages.specs.Index.{tree}
use Rattle.caller_steps.specs.Core.{CoreView}
use Rattle.mars_core.specs.Held.{core_of}
use Rattle.taped_records.specs.declared.records.TapedRecords.{TapedRecords}

-- the tape of what is still to be done on the device
abbrev pub tape_of : TapedRecords → tape.Tape
tape_of array = array.core.records.store.media

-- the core of records over it
abbrev pub core_in : TapedRecords → CoreView
core_in array =
    let store = array.core.records.store in
    core_of Opens tree (device.view_of (tape.view_of store.media) store.shape store.logs.items store.late store.is_dead) array.core
