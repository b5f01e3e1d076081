-- Commits that may wait for their write-back.
use Rattle.std.specs.Prelude.{ℕ, ◌<◌, ◌≤◌}
use Rattle.command_words.specs.declared.words.Writing.{Writing}
use Rattle.command_words.specs.declared.words.Writing.TheVariants.{AtOnce, Late}

-- how many commits may wait: answered before their data is written to its place
abbrev pub depth_of : Writing → ℕ
depth_of AtOnce = 0
depth_of (Late depth) = depth

-- if some may, then so many as a device can have, 1 to 64
abbrev pub HasDepth : Writing → Type 0
HasDepth AtOnce = Unit {0}
HasDepth (Late depth) = (0 < depth) × (depth ≤ 64)
