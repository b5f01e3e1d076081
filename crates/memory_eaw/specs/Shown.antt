-- A store in memory, as its fields give it.
use Rattle.eaw_face.specs.StoreView.{StoreView}
use Rattle.memory_eaw.specs.declared.eaw.MemoryEaw.{MemoryEaw}
use Rattle.memory_eaw.specs.Kept.{Kept}
use Rattle.memory_eaw.specs.Plain.{Plain, view_of}

-- its fields as one value
abbrev pub plain_of : MemoryEaw → Plain
plain_of eaw = record { shape = eaw.shape; bytes = eaw.bytes.items; logs = eaw.logs.items; kept = eaw.journal; is_dead = eaw.is_dead }

-- what it shows as a store
abbrev pub shown : MemoryEaw → StoreView
shown eaw = view_of (plain_of eaw)

-- what it keeps of its calls
abbrev pub kept_of : MemoryEaw → Kept
kept_of eaw = eaw.journal
