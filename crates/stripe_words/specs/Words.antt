-- A stripe's word, and what all passes have of the stripe.
use Rattle.std.specs.Prelude.{ℕ, ◌≡◌, ◌≢◌, ◌⊎◌, ◌+◌, ◌<◌, ◌≤◌, Bool, true, false}
use Rattle.std.specs.Int.{bit_at}
use Rattle.stripe_words.specs.declared.hold.Hold.{Hold}
use Rattle.stripe_words.specs.declared.hold.Hold.TheVariants.{Free, Trying, Shared, Exclusive}
use Rattle.history.specs.declared.locks.Mode.{Mode}
use Rattle.history.specs.declared.locks.Mode.TheVariants as mode

-- 1 where the pass has its mark in the word
abbrev pub marked : Hold → ℕ
marked Free = 0
marked Trying = 1
marked Shared = 1
marked Exclusive = 1

-- 1 where it has its exclusive lock there
abbrev pub locked : Hold → ℕ
locked Free = 0
locked Trying = 0
locked Shared = 0
locked Exclusive = 1

-- 1 where it may read
abbrev pub granted : Hold → ℕ
granted Free = 0
granted Trying = 0
granted Shared = 1
granted Exclusive = 1

-- if one is exclusive, the other is none or trying
abbrev pub MayStand : Hold → Hold → Type 0
MayStand one other = locked one + granted other ≤ 1

-- The word of a stripe of which each pass n has what `has n` says
pub record Stands (w : ℕ) (has : ℕ → Hold) : Type 0 where
  pub marks : (n : ℕ) → n < 32 → bit_at w n ≡ marked (has n)
  pub locks : (n : ℕ) → n < 32 → bit_at w (32 + n) ≡ locked (has n)
  pub apart : (n h : ℕ) → h ≢ n → MayStand (has n) (has h)
  pub strangers : (n : ℕ) → 32 ≤ n → has n ≡ Free

-- what a mark gains: shared where no exclusive lock was found
abbrev pub gained : Bool → Hold
gained true = Shared
gained false = Trying

-- a pass with an exclusive lock has its mark too
abbrev pub IsWord : ℕ → Type 0
IsWord w = (h : ℕ) → h < 32 → bit_at w (32 + h) ≤ bit_at w h

abbrev pub HasLock : ℕ → ℕ → Type 0
HasLock w h = bit_at w (32 + h) ≡ 1

abbrev pub HasBit : ℕ → ℕ → Type 0
HasBit w h = (bit_at w h ≡ 1) ⊎ HasLock w h

-- of the passes other than `me`, h is the lowest with the property
pub record IsLowest (has : ℕ → Type 0) (me h : ℕ) : Type 0 where
  pub small : h < 32
  pub other : h ≢ me
  pub it_has : has h
  pub lowest : (i : ℕ) → i < h → i ≢ me → ¬ (has i)

-- a call is refused for the pass h by the word that it found
abbrev pub Refuses : Mode → ℕ → ℕ → ℕ → Type 0
Refuses mode.Shared found me h = IsLowest (HasLock found) me h
Refuses mode.Exclusive found me h = IsLowest (HasBit found) me h

-- what a pass has of a stripe after a call that is granted
abbrev pub raised : Mode → Hold → Hold
raised mode.Shared Free = Shared
raised mode.Shared Trying = Shared
raised mode.Shared Shared = Shared
raised mode.Shared Exclusive = Exclusive
raised mode.Exclusive has = Exclusive
