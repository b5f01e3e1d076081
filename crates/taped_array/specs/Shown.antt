-- What an open array shows.
use Rattle.tape_media.specs.Tape as tape
use Rattle.eaw_face.specs.StoreView.{StoreView}
use Rattle.eaw_device.specs.Sound as device
use Rattle.taped_array.specs.declared.open_array.OpenArray.{OpenArray}

-- the tape of what is still to be done on the device
abbrev pub tape_of : OpenArray → tape.Tape
tape_of array = array.store.media

-- the array as a store
abbrev pub store_in : OpenArray → StoreView
store_in array =
    let store = array.store in
    device.view_of (tape.view_of store.media) store.shape store.logs.items store.late store.is_dead
