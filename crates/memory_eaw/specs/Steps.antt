-- What the steps of a command make of a store in memory, and why they stop.
use Rattle.std.specs.Prelude.{Some, ℕ, ◌≡◌, ◌⊎◌, Bool, true, List, [], ◌∷◌, slice_set}
use Rattle.array_shape.specs.Logged.{Part, applied}
use Rattle.eaw_face.specs.StoreView.{StoreView}
use Rattle.eaw_face.specs.Causes.{IsAlive, fit, known}
use Rattle.eaw_face.specs.Command.{commit_group}
use Rattle.eaw_face.specs.declared.fault.EawFault.{EawFault}
use Rattle.eaw_face.specs.declared.fault.EawFault.TheVariants.{UnknownTid, LogFull, Dead}
use Rattle.memory_eaw.specs.Kept.{failed, called, changed}
use Rattle.mirror.specs.Log.{log_at}
use Rattle.memory_eaw.specs.Plain.{Plain}

-- number t is now live or not, and has logged these parts
abbrev pub relogged : ℕ → Bool → List Part → Plain → Plain
relogged t is_live parts plain = record plain { logs = slice_set plain.logs t (record { is_live = is_live; parts = parts; room = (log_at plain.logs t).room }) }

-- a call was made that changes no data
abbrev pub called_plain : Plain → Plain
called_plain plain = record plain { kept = called plain.kept }

-- a call changed the data to this
abbrev pub changed_plain : List ℕ → Plain → Plain
changed_plain bytes plain = record plain { bytes = bytes; kept = changed plain.bytes plain.kept }

-- a call failed
abbrev pub failed_plain : Plain → Plain
failed_plain plain = record plain { kept = failed plain.kept; is_dead = true }

-- these parts were committed; if there are none, no call was made
abbrev pub committed : List Part → Plain → Plain
committed [] plain = plain
committed (p ∷ ps) plain = changed_plain (applied (p ∷ ps) plain.bytes) plain

-- the fault says that the store is dead, or that the number lacks what it needs
abbrev pub IsUnknown : StoreView → Type 0 → ℕ → EawFault → Type 0
IsUnknown store Known t fault = ((fault ≡ Dead) × (store.is_dead ≡ true)) ⊎ ((fault ≡ UnknownTid t) × IsAlive store × (Known → ⊥))

-- the fault says that the store is dead, or names the first of these numbers that is not live
abbrev pub IsUnknownIn : StoreView → List ℕ → EawFault → Type 0
IsUnknownIn store ts fault = ((fault ≡ Dead) × (store.is_dead ≡ true)) ⊎ ((u : ℕ) × (fault ≡ UnknownTid u) × IsAlive store × known store (commit_group ts) (Some u))

-- the fault names the first logger that has no room for its share of `needed` besides its share of `held`
pub record IsFullBy (store : StoreView) (held needed : List (ℕ × ℕ)) (fault : EawFault) : Type 0 where
  pub g : ℕ
  pub h : ℕ
  pub n : ℕ
  pub fault_is : fault ≡ LogFull g h n
  pub first : fit store.shape held needed (Some (g, h, n))
