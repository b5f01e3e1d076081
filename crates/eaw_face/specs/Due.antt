-- The frame that is due of a command that is done, and what is sent of it.
use Rattle.std.specs.Prelude.{ℕ, ◌≡◌, ◌+◌, ◌^◌, ◌<◌, ◌≤◌, ◌⊎◌, Bool, true, false, IsTrue, List, [], ◌∷◌, length, drop, map, flat_map}
use Rattle.mars_base.specs.Causes.{Rose}
use Rattle.array_shape.specs.Parts.{parts_of_write}
use Rattle.array_shape.specs.Logged.{ranges_of}
use Rattle.eaw_face.specs.State.{Logs, listed}
use Rattle.eaw_face.specs.StoreView.{StoreView}
use Rattle.eaw_face.specs.Command.{Command, log_write, log_edit, commit, commit_group, abort, nested_top, partial_abort, atomic_write, log_read, read}
use Rattle.eaw_face.specs.Frame.{Group, Frame}

-- a number with what it commits, if that is anything
abbrev pub entry : {A : Type 0} → ℕ → List A → List (ℕ × List A)
entry t [] = []
entry t (x ∷ xs) = (t, x ∷ xs) ∷ []

-- What a command commits, number by number, of logs of parts or of where these lie: all of a log, the logs of a group, a log from an
-- offset on, or a write as it is cut.
abbrev pub commits : {A : Type 0} → (cut : ℕ → List ℕ → List A) → Command → Logs A → List (ℕ × List A)
commits cut (commit t) logs = entry t (listed (logs t))
commits cut (commit_group ts) logs = flat_map (λ t. entry t (listed (logs t))) ts
commits cut (nested_top t offset) logs = entry t (drop offset (listed (logs t)))
commits cut (atomic_write t addr bytes) logs = entry t (cut addr bytes)
commits cut (log_write t addr bytes) logs = []
commits cut (log_edit t pos at bytes) logs = []
commits cut (abort t) logs = []
commits cut (partial_abort t offset) logs = []
commits cut (log_read t) logs = []
commits cut (read addr len) logs = []

-- the same as the groups of a frame
abbrev pub groups_due : Command → StoreView → List Group
groups_due command store = map (λ e. record { number = e.0; parts = e.1 }) (commits parts_of_write command store.state.logs)

-- where the parts of these groups lie, which is known even of a store that does not tell its data
abbrev pub ranges_due : Command → StoreView → List (ℕ × List (ℕ × ℕ))
ranges_due command store = commits (λ addr bytes. ranges_of (parts_of_write addr bytes)) command store.ranges

-- a frame of these groups, the next in sequence; none of no group
abbrev pub next_frames : StoreView → List Group → List Frame
next_frames store [] = []
next_frames store (g ∷ gs) = record { sequence = store.sending.sent + 1; groups = g ∷ gs } ∷ []

-- the frames that are due of a command: one if it commits anything, else none
abbrev pub frames_due : Command → StoreView → List Frame
frames_due command store = next_frames store (groups_due command store)

-- these groups are those that are due
pub record AreDue (tells : Bool) (command : Command) (store : StoreView) (groups : List Group) : Type 0 where
  pub parts : IsTrue tells → groups ≡ groups_due command store
  pub ranges : map (λ g. (g.number, ranges_of g.parts)) groups ≡ ranges_due command store

-- What a command that is done has sent: just the frame that is due, while the sending goes on. The sending ends only at a frame that
-- is due, and that is not sent: its send has failed, or it is behind the last sequence that there is. If none is due, nothing changes.
pub record SendsDue (tells : Bool) (command : Command) (added : List Frame) (old new : StoreView) : Type 0 where
  pub groups : List Group
  pub due : AreDue tells command old groups
  pub none : groups ≡ [] → new.sending ≡ old.sending
  pub sent : new.sending.is_down ≡ false → added ≡ next_frames old groups
  pub unsent : new.sending.is_down ≡ true → added ≡ []
  pub ended : new.sending.is_down ≡ true
      → (old.sending.is_down ≡ true) ⊎ ((0 < length groups) × ((2 ^ 64 ≤ old.sending.sent + 1) ⊎ Rose old.sending.faults new.sending.faults))
