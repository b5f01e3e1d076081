-- What a store has sent of its commits.
use Rattle.std.specs.Prelude.{ℕ, Bool, true, false, List, []}

-- Whether the store mirrors, that is, sends what each commit writes as a frame; whether contracts speak of these frames; those that are not
-- yet given up, the oldest first; how often a send has failed; how many were sent in all; and whether the sending has ended.
pub record Sending : Type 0 where
  pub mirrors : Bool
  pub told : Bool
  pub frames : List (List ℕ)
  pub faults : ℕ
  pub sent : ℕ
  pub is_down : Bool

-- that of a store that does not mirror
abbrev pub silent : Sending
silent = record { mirrors = false; told = true; frames = []; faults = 0; sent = 0; is_down = false }
