-- The feed of what callers commit, and the pass by which it reads that.
use Rattle.std.specs.Prelude.{ℕ, ◌≡◌, ◌+◌, Bool, [], ◌++◌, length, drop}
use Rattle.caller_steps.specs.Core.{CoreView}
use Rattle.caller_work.specs.declared.gate.Place.{Place}
use Rattle.caller_work.specs.declared.gate.Place.TheVariants.{Ended}
use Rattle.mars_manager.specs.Pass.{told_of}
use Rattle.mars_manager.specs.Sharing.{Reads}
use Rattle.mars_manager.specs.declared.view.Known.{Known}
use Rattle.snapshot_readers.specs.Batches.{joined}
use Rattle.snapshot_readers.specs.Feeds.{fed}
use Rattle.snapshot_readers.specs.declared.feed.Feed.{Feed}

-- this is so where a transaction has ended
abbrev pub IfEnded : Place → Type 0 → Type 0
IfEnded (Ended caller nth) is = is
IfEnded _ is = Unit {0}

module _ {C : Type 0} where
  -- the pass with this number has made no call and has asked for no stripe
  pub record IsOnlooker (number : ℕ) (known : Known C) : Type 0 where
    pub number_is : known.number ≡ number
    pub silent : told_of known ≡ []
    pub unlocked : known.met ≡ []

  -- what was fed is a front of what the pass has seen
  abbrev pub IsBehind : Feed → Known C → Type 0
  IsBehind feed known = joined (fed feed) ++ drop (length (joined (fed feed))) known.seen ≡ known.seen

  -- the pass has had its turn, after some tries in vain, and has seen the whole history then
  abbrev pub HadTurn : Bool → (C → CoreView) → Known C → Known C → Type 0
  HadTurn tells show was now = (found : ℕ) × (vain : ℕ) × Reads tells show (record was { found = found; tries = was.tries + vain }) now
