-- A store in memory: its data, what each number has logged, and what it keeps of its calls.
use Rattle.std.specs.Prelude.{ℕ, ◌≡◌, ◌-◌, ◌^◌, ◌<◌, ◌≤◌, ◌⊎◌, Bool, List, [], ◌∷◌, length, All}
use Rattle.pcm_media.specs.Images.{no_content}
use Rattle.array_shape.specs.declared.shape.Shape.{Shape}
use Rattle.array_shape.specs.Places.{data_len}
use Rattle.eaw_face.specs.Sending.{silent}
use Rattle.eaw_face.specs.StoreView.{StoreView}
use Rattle.memory_eaw.specs.Kept.{Version, Kept}
use Rattle.mirror.specs.Log.{Log}
use Rattle.memory_eaw.specs.Log.{IsSoundLog, logged, outline}

pub record Plain : Type 0 where
  pub shape : Shape
  pub bytes : List ℕ
  pub logs : List Log
  pub kept : Kept
  pub is_dead : Bool

-- the data was this until some change after moment `t`
abbrev pub WasBefore : List Version → ℕ → List ℕ → Type 0
WasBefore [] t image = ⊥
WasBefore (v ∷ vs) t image = ((t < v.until) × (image ≡ v.bytes)) ⊎ WasBefore vs t image

-- A loss of power leaves the data as it is. So at moment `t` or later it might have left the data as it is now, or as it
-- was before some change after `t`.
abbrev pub LeftSince : List ℕ → List Version → ℕ → List ℕ → Type 0
LeftSince bytes past t image = (image ≡ bytes) ⊎ WasBefore past t image

-- an image opens with itself as the data
abbrev pub IsData : List ℕ → List ℕ → Type 0
IsData image bytes = image ≡ bytes

-- what it shows as a store
abbrev pub view_of : Plain → StoreView
view_of plain = record {
  shape = plain.shape;
  depth = 0;
  state = record { bytes = plain.bytes; logs = logged plain.logs };
  ranges = outline (logged plain.logs);
  is_dead = plain.is_dead;
  faults = plain.kept.faults;
  moment = plain.kept.moment;
  left_since = LeftSince plain.bytes plain.kept.past;
  device = no_content;
  sending = silent;
}

-- It has the data and the logs of its shape, and no change is stamped later than now.
pub record IsSound (plain : Plain) : Type 0 where
  pub long : length plain.bytes ≡ data_len plain.shape
  pub size : plain.kept.size ≡ data_len plain.shape
  pub numbers : length plain.logs ≡ plain.shape.numbers
  pub logs : All (IsSoundLog plain.shape) plain.logs
  pub low : plain.kept.moment ≤ 2 ^ 64 - 1
  pub few : plain.kept.faults ≤ 2 ^ 64 - 1
  pub stamped : All (λ v. v.until ≤ plain.kept.moment) plain.kept.past
