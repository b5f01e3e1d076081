-- Room at the loggers of an array, each of which has so many entries.
use Rattle.std.specs.Prelude.{ℕ, ◌≡◌, ◌+◌, ◌<◌, ◌≤◌, Some, None}
use Rattle.mars_base.specs.Check.{Check}

-- Each logger has room for what it needs beside what it holds. Of the first that has not, what it holds and what more it needs are told.
abbrev pub room : {Bad : Type 0} → (told : ℕ → ℕ → ℕ → Bad) → (loggers entries : ℕ) → (held needed : ℕ → ℕ) → Check Bad
room told loggers entries held needed None = (g : ℕ) → g < loggers → held g + needed g ≤ entries
room told loggers entries held needed (Some bad) =
    (g : ℕ) × (g < loggers) × (entries < held g + needed g) × ((k : ℕ) → k < g → held k + needed k ≤ entries) × (bad ≡ told g (held g) (needed g))

-- each logger has room
abbrev pub HaveRoom : (loggers entries : ℕ) → (held needed : ℕ → ℕ) → Type 0
HaveRoom loggers entries held needed = (g : ℕ) → g < loggers → held g + needed g ≤ entries

-- logger g is the first without room: it holds h entries, and n more are needed
pub record IsFirstFull (loggers entries : ℕ) (held needed : ℕ → ℕ) (g h n : ℕ) : Type 0 where
  pub logger : g < loggers
  pub held_is : h ≡ held g
  pub needed_is : n ≡ needed g
  pub full : entries < h + n
  pub before : (k : ℕ) → k < g → held k + needed k ≤ entries
