-- What passes ask for of the stripes, and whom each word shows that stands in another's way.
use Rattle.std.specs.Prelude.{ℕ, ◌≡◌, ◌≢◌, ◌<◌, ◌≤◌, ◌+◌, IsTrue, List, [], ◌∷◌, ◌++◌, Contains}
use Rattle.std.specs.Int.{bit_at}
use Rattle.history.specs.declared.call.Call.{Call}
use Rattle.history.specs.declared.locks.Mode.{Mode}
use Rattle.history.specs.declared.locks.Mode.TheVariants as mode
use Rattle.stripe_words.specs.declared.hold.Hold.{Hold}
use Rattle.stripe_words.specs.Words.{marked, locked}
use Rattle.mars_manager.specs.declared.view.Met.{Met}
use Rattle.mars_manager.specs.declared.view.Known.{Known}
use Rattle.mars_manager.specs.Pass.{PassView}
use Rattle.mars_manager.specs.Locks.{locks}

-- the bit of a word that a pass sets when it asks in this mode: its mark for reading, its exclusive lock for writing
abbrev pub bit_for : Mode → ℕ → ℕ
bit_for mode.Shared pass = pass
bit_for mode.Exclusive pass = 32 + pass

-- 1 where a pass that has this of a stripe has that bit in the word
abbrev pub set_for : Mode → Hold → ℕ
set_for mode.Shared has = marked has
set_for mode.Exclusive has = locked has

-- a step asked for the stripe in this mode; a step that asks for writing asks for reading too
abbrev pub AsksFor : Mode → ℕ → Met → Type 0
AsksFor mode.Shared stripe step = step.stripe ≡ stripe
AsksFor mode.Exclusive stripe step = (step.stripe ≡ stripe) × (step.asked ≡ mode.Exclusive)

-- one of these steps did
abbrev pub HasAsked : Mode → ℕ → List Met → Type 0
HasAsked asked stripe steps = (step : Met) × Contains steps step × AsksFor asked stripe step

-- whoever has a bit in the word that a step of the pass n found has itself asked for the stripe, in the mode of the bit
abbrev pub IsCaused : (ℕ → List Met) → ℕ → Met → Type 0
IsCaused met n step = (asked : Mode) (h : ℕ) → h < 32 → h ≢ n → bit_at step.found (bit_for asked h) ≡ 1 → HasAsked asked step.stripe (met h)

-- so it is of each step of each pass
abbrev pub AreCaused : (ℕ → List Met) → Type 0
AreCaused met = (n : ℕ) (step : Met) → Contains (met n) step → IsCaused met n step

-- the mode in which a holder has asked that refuses a call in this mode: a reader is refused by writers, and a writer by all
abbrev pub against : Mode → Mode
against mode.Shared = mode.Exclusive
against mode.Exclusive = mode.Shared

-- a step that is made for a call in the other mode: a mark is made for both
abbrev pub IsUpTo : Mode → Mode → Type 0
IsUpTo mode.Shared asked = Unit {0}
IsUpTo mode.Exclusive asked = asked ≡ mode.Exclusive

-- a step for this stripe in this mode
abbrev pub IsStepFor : Mode → ℕ → Met → Type 0
IsStepFor asked stripe step = (step.stripe ≡ stripe) × IsUpTo step.asked asked

-- a step for a stripe below n for reading
abbrev pub IsReadingBelow : ℕ → Met → Type 0
IsReadingBelow n step = (step.stripe < n) × IsUpTo step.asked mode.Shared

-- a step for what a call locks
abbrev pub IsStepOf : List (List ℕ) → Call → Met → Type 0
IsStepOf names call step = (asked : Mode) × IsTrue (locks names call step.stripe asked) × IsUpTo step.asked asked

-- each step is for this stripe or one above, and for none below that of the step before
abbrev pub AreRising : ℕ → List Met → Type 0
AreRising low [] = Unit {0}
AreRising low (step ∷ steps) = (low ≤ step.stripe) × AreRising step.stripe steps

module _ {C : Type 0} where
  -- a pass made more steps on words of stripes, each of this kind
  pub record Meets (Holds : Met → Type 0) (was now : Known C) : Type 0 where
    pub more : List Met
    pub is : now.met ≡ was.met ++ more
    pub each : (step : Met) → Contains more step → Holds step

  -- it made them by rising stripe
  pub record AsksUp (was now : Known C) : Type 0 where
    pub more : List Met
    pub is : now.met ≡ was.met ++ more
    pub rising : AreRising 0 more

  -- the steps of each of the passes are those of its number
  abbrev pub AreMet : (ℕ → List Met) → List (PassView C) → Type 0
  AreMet met [] = Unit {0}
  AreMet met (pass ∷ passes) = (pass.known.met ≡ met pass.known.number) × AreMet met passes

  -- Whoever stood in the way of a step of another pass had itself asked for the stripe: `met n` are the steps of the pass n. There are no
  -- others than those of these callers.
  pub record HaveAsked (callers : ℕ) (passes : List (PassView C)) : Type 0 where
    pub met : ℕ → List Met
    pub each : AreMet met passes
    pub strangers : (n : ℕ) → callers ≤ n → met n ≡ []
    pub caused : AreCaused met
