-- The raw commands of a script and how they are written.
use Rattle.std.specs.Prelude.{ℕ, ◌≡◌, ◌≤◌, ◌<◌, ◌^◌, List, ◌∷◌, ◌++◌, codes}
use Rattle.std.specs.Fmt.{decimal}
use Rattle.eaw_face.specs.Command.{Command, log_write, log_edit, commit, abort, nested_top, partial_abort, atomic_write, read}
use Rattle.hex.specs.Hex.{encode_lower as hex_of}
use Rattle.script_text.specs.HexText.{IsBlock}

-- a command of the store, or a question about a number's log: one of its parts, how many it has, or how many of them a logger holds
pub data Raw : Type 0 where
  does : (command : Command) → Raw
  read_log : (pos : ℕ) → Raw
  log_len : Raw
  held : (logger : ℕ) → Raw

-- The text of a raw command of number t, after that number. Its numbers are in range, and what it writes is 1 to 1,024 bytes, each as two
-- lower-case hexadecimal digits.
abbrev pub IsTextOf : ℕ → Raw → List ℕ → Type 0
IsTextOf t (does (log_write u addr bytes)) text = (u ≡ t) × (addr < 2 ^ 32) × IsBlock bytes × (text ≡ codes "logwrite " ++ (decimal addr ++ 32 ∷ hex_of bytes))
IsTextOf t (does (commit u)) text = (u ≡ t) × (text ≡ codes "commit")
IsTextOf t (does (abort u)) text = (u ≡ t) × (text ≡ codes "abort")
IsTextOf t (does (nested_top u offset)) text = (u ≡ t) × (offset < 2 ^ 32) × (text ≡ codes "nested " ++ decimal offset)
IsTextOf t (does (partial_abort u offset)) text = (u ≡ t) × (offset < 2 ^ 32) × (text ≡ codes "partial " ++ decimal offset)
IsTextOf t (does (atomic_write u addr bytes)) text = (u ≡ t) × (addr < 2 ^ 32) × IsBlock bytes × (text ≡ codes "atomic " ++ (decimal addr ++ 32 ∷ hex_of bytes))
IsTextOf t (does (log_edit u pos at bytes)) text =
    (u ≡ t) × (pos < 2 ^ 32) × (at < 2 ^ 32) × IsBlock bytes × (text ≡ codes "editlog " ++ (decimal pos ++ 32 ∷ (decimal at ++ 32 ∷ hex_of bytes)))
IsTextOf t (does (read addr len)) text = (addr < 2 ^ 32) × (1 ≤ len) × (len ≤ 1024) × (text ≡ codes "read " ++ (decimal addr ++ 32 ∷ decimal len))
IsTextOf t (read_log pos) text = (pos < 2 ^ 32) × (text ≡ codes "readlog " ++ decimal pos)
IsTextOf t log_len text = text ≡ codes "loglen"
IsTextOf t (held logger) text = (logger < 8) × (text ≡ codes "held " ++ decimal logger)
IsTextOf t _ text = ⊥
