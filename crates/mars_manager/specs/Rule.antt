-- The rule of the table, and what each step guarantees. Words 0 to 63 are those of the stripes. Word 64 is the turn: 0, or one more than the
-- number of the pass that has it. Word 65 is the length of the history as last published. The slot has the core while the turn is free.
use Rattle.std.specs.Prelude.{ℕ, ◌≡◌, ◌≢◌, ◌⊎◌, ◌+◌, ◌<◌, ◌≤◌, Bool, IsFalse, List, [], ◌∷◌, map, length, replicate, slice_index, slice_index_or, slice_set, Option, Some, None}
use mathlib.Core.Option.{some}
use lib.ListN.{get_elem?}
use Rattle.history.specs.declared.call.Call.{Call}
use Rattle.history.specs.declared.call.Reply.{Reply}
use Rattle.caller_steps.specs.Core.{CoreView}
use Rattle.atomic_table.specs.Table.{Step}
use Rattle.mars_manager.specs.declared.view.Known.{Known}
use Rattle.mars_manager.specs.declared.view.Met.{Met}
use Rattle.mars_manager.specs.declared.view.Stage.TheVariants.{Vacant, Opening, Shared}
use Rattle.mars_manager.specs.declared.view.View.{View}
use Rattle.mars_manager.specs.declared.setup.Setup.{Setup}
use Rattle.caller_steps.specs.Run.{Turn, GoesAlong, AreOf}
use Rattle.mars_manager.specs.Pass.{names_of, AllFit, known_after, known_at, own_by, finds, hears, times}
use Rattle.mars_manager.specs.Sharing.{CanShare, Since}
use Rattle.mars_manager.specs.Seat.{TableOf, SeatOf, view, shared_view, seat_of, first_of, opener}
use Rattle.mars_manager.specs.Locks.{IsCovered, Finds, FindsOther, hold_of, with_hold, marked_by, excluded_by, noted}
use Rattle.mars_manager.specs.Asked.{set_for, HasAsked, AreCaused}
use Rattle.stripe_words.specs.declared.hold.Hold.{Hold}
use Rattle.stripe_words.specs.declared.hold.Hold.TheVariants as hold
use Rattle.stripe_words.specs.Words.{Stands, granted, locked}
use Rattle.caller_steps.specs.Own.{KnowsLive}
use Rattle.caller_steps.specs.State.{State, calls_of}
use Rattle.history.specs.Locks.{touched, is_touch}
use Rattle.history.specs.declared.locks.Mode.{Mode}
use Rattle.history.specs.declared.locks.Mode.TheVariants as mode

-- how a kind of core is seen
pub record Face (C : Type 0) : Type 1 where
  pub tells : Bool
  pub show : C → CoreView

module _ {C : Type 0} where
  -- no pass has seen or heard of a longer history
  abbrev pub AllHeard : ℕ → List (Known C) → Type 0
  AllHeard n [] = Unit {0}
  AllHeard n (known ∷ others) = (length known.seen ≤ n) × (known.heard ≤ n) × AllHeard n others

  -- each pass belongs to a core that is shared by at least so many callers
  abbrev pub AreAbove : ℕ → List (Known C) → Type 0
  AreAbove n [] = Unit {0}
  AreAbove n (known ∷ others) = ((setup : Setup C) → known.setup ≡ Some setup → n ≤ setup.callers) × AreAbove n others

  abbrev pub face : Bool → (C → CoreView) → Face C
  face tells show = record { tells = tells; show = show }

  abbrev pub total : (View C → ℕ) → List (View C) → ℕ
  total each [] = 0
  total each (one ∷ others) = each one + total each others

  -- how many passes of this number the views have
  abbrev pub count : ℕ → List (View C) → ℕ
  count n views = total (λ v. times n v.passes) views

  -- the turn is free, and the core is in its slot
  pub record IsFree (core : C) (s : TableOf C) : Type 0 where
    pub turn : slice_index s.words 64 ≡ 0
    pub home : get_elem? s.homes 0 ≡ some (some (Some core))
    pub nobody : (i : ℕ) (v : View C) → get_elem? s.views i ≡ some v → v.held ≡ None

  -- just one seat has the turn, that of the pass with this number, and it last reported this core
  pub record IsHeld (core : C) (s : TableOf C) : Type 0 where
    pub number : ℕ
    pub seat : ℕ
    pub holder : View C
    pub turn : slice_index s.words 64 ≡ number + 1
    pub there : get_elem? s.views seat ≡ some holder
    pub holds : holder.held ≡ Some core
    pub has : 0 < times number holder.passes
    pub others : (i : ℕ) (v : View C) → i ≢ seat → get_elem? s.views i ≡ some v → v.held ≡ None

  -- what a pass has, and the steps that it made, are those of its number
  abbrev pub Has : (ℕ → List Hold) → (ℕ → List Met) → Known C → Type 0
  Has holds met known = (known.holds ≡ holds known.number) × (known.met ≡ met known.number)

  -- so it is of each of these passes
  abbrev pub AllHave : (ℕ → List Hold) → (ℕ → List Met) → List (Known C) → Type 0
  AllHave holds met [] = Unit {0}
  AllHave holds met (known ∷ others) = Has holds met known × AllHave holds met others

  -- `holds n` is what the pass n has of each stripe, and `met n` are the steps that it made on their words. Each word of a stripe stands for
  -- what all have of it. While the medium has not failed, what a live transaction reads its pass has shared or exclusive, and what it writes
  -- its pass has exclusive. Whoever has a mark has asked for the stripe, and whoever has it exclusive has asked for it for writing; and so has
  -- each other pass whose bit was in a word that a step found.
  pub record AreLocked (callers : ℕ) (names : List (List ℕ)) (state : State) (holds : ℕ → List Hold) (met : ℕ → List Met) (words : List ℕ) (views : List (View C)) : Type 0 where
    pub have : (i : ℕ) (v : View C) → get_elem? views i ≡ some v → AllHave holds met v.passes
    pub strangers : (n : ℕ) → callers ≤ n → (holds n ≡ replicate 64 hold.Free) × (met n ≡ [])
    pub asked : (mode : Mode) (n t : ℕ) → set_for mode (slice_index_or (holds n) t hold.Free) ≡ 1 → HasAsked mode t (met n)
    pub caused : AreCaused met
    pub long : (n : ℕ) → length (holds n) ≡ 64
    pub stripes : (t : ℕ) → t < 64 → Stands (slice_index words t) (λ n. slice_index_or (holds n) t hold.Free)
    pub covered : IsFalse state.is_dead → (n : ℕ) → IsCovered (touched names (calls_of state n)) (holds n)

  -- nothing has happened yet: the only seat is the opener's
  pub record IsFresh (setup : Setup C) (s : TableOf C) : Type 0 where
    pub words : s.words ≡ replicate 66 0
    pub homes : s.homes ≡ some None ∷ []
    pub views : s.views ≡ opener Vacant setup ∷ []

  pub record IsOpening (setup : Setup C) (s : TableOf C) : Type 0 where
    pub words : s.words ≡ slice_set (replicate 66 0) 64 1
    pub one : length s.homes ≡ 1
    pub views : s.views ≡ opener Opening setup ∷ []

  module _ (f : Face C) where
    -- From the opening on: the core that was reported last is one that the shared core has come to by a run of these callers. The length of
    -- its history is published, and what each pass knows is true of the run. No caller has two passes. The words of the stripes say what the
    -- passes have, and that covers what their live transactions touched. Who has or had a bit in one has asked for the stripe.
    pub record IsKept (setup : Setup C) (s : TableOf C) : Type 0 where
      pub core : C
      pub turns : List Turn
      pub holds : ℕ → List Hold
      pub met : ℕ → List Met
      pub wide : length s.words ≡ 66
      pub one : length s.homes ≡ 1
      pub told : slice_index s.words 65 ≡ length (f.show core).state.history
      pub place : IsFree core s ⊎ IsHeld core s
      pub staged : (i : ℕ) (v : View C) → get_elem? s.views i ≡ some v → v.stage ≡ Shared
      pub fit : (i : ℕ) (v : View C) → get_elem? s.views i ≡ some v → AllFit f.tells f.show setup turns (f.show core).state v.passes
      pub once : (n : ℕ) → count n s.views ≤ 1
      pub below : (n : ℕ) → setup.callers ≤ n → count n s.views ≡ 0
      pub few : setup.callers ≤ 32
      pub named : setup.names ≡ (f.show setup.first).state.names
      pub locks : AreLocked setup.callers setup.names (f.show core).state holds met s.words s.views
      pub ready : CanShare f.tells setup.callers (f.show setup.first)
      pub since : Since f.tells (f.show setup.first) (f.show core)
      pub run : GoesAlong f.tells (f.show setup.first).limits (f.show setup.first).state turns (f.show core).state
      pub whose : AreOf setup.callers turns

    abbrev pub Rule : Setup C → TableOf C → Type 0
    Rule setup s = IsFresh setup s ⊎ (IsOpening setup s ⊎ IsKept setup s)

    -- what a pass knows after a step that it made after these turns
    abbrev pub shown : Call → Reply → List Turn → C → Known C → Known C
    shown call reply turns core known = known_after known turns (f.show core).state call reply

    -- While the medium has not failed, what the core has of a pass's transaction is what it was told of: the live one, or, where it waits for its
    -- settle, the one that it has offered or that a group has committed since. Another caller's touches for writing no stripe that the pass may read,
    -- and touches none that it may write.
    pub record HasAlone (core : C) (known : Known C) : Type 0 where
      pub mine : KnowsLive known.number (own_by known) (f.show core).state
      pub reads : (t h : ℕ) → t < 64 → h ≢ known.number → granted (hold_of t known) ≡ 1 → IsFalse (touched (f.show core).state.names (calls_of (f.show core).state h) t mode.Exclusive)
      pub writes : (t h : ℕ) → t < 64 → h ≢ known.number → locked (hold_of t known) ≡ 1 → IsFalse (is_touch (touched (f.show core).state.names (calls_of (f.show core).state h) t))

    -- the turn was taken, with this core
    pub record Took (m n : SeatOf C) : Type 0 where
      pub core : C
      pub now : n ≡ (shared_view (map (finds 0) m.0.passes) (Some core), (0, Some core) ∷ [])
      pub few : (k : ℕ) → 0 < times k m.0.passes → k < (f.show core).limits.callers
      pub seen : length (first_of m.0.passes).seen ≤ length (f.show core).state.history
      pub named : names_of (first_of m.0.passes) ≡ (f.show core).state.names
      pub alone : IsFalse (f.show core).state.is_dead → HasAlone core (first_of m.0.passes)

    -- The step from one core to another was recorded as the last turn of a run. The shared core had come to the first of them by the turns
    -- before, and what the seat knew was true of these.
    pub record Told (call : Call) (reply : Reply) (old new : C) (m n : SeatOf C) : Type 0 where
      pub setup : Setup C
      pub turns : List Turn
      pub now : n ≡ (shared_view (map (shown call reply turns new) m.0.passes) (Some new), m.1)
      pub fit : AllFit f.tells f.show setup turns (f.show old).state m.0.passes
      pub since : Since f.tells (f.show setup.first) (f.show old)
      pub whose : AreOf setup.callers turns
      pub ready : CanShare f.tells setup.callers (f.show setup.first)

    -- The turn was given up, and the history of the core was read. The shared core had come to this one by the turns, and what the seat knew
    -- was true of these.
    pub record HasRead (core : C) (m n : SeatOf C) : Type 0 where
      pub setup : Setup C
      pub turns : List Turn
      pub now : n ≡ (shared_view (map (λ (known : Known C). known_at known turns (f.show core).state) m.0.passes) None, [])
      pub fit : AllFit f.tells f.show setup turns (f.show core).state m.0.passes
      pub since : Since f.tells (f.show setup.first) (f.show core)
      pub whose : AreOf setup.callers turns
      pub ready : CanShare f.tells setup.callers (f.show setup.first)

    -- What a step guarantees, by the step, the seat before, the number found and the seat after. If the turn was not free, another pass had
    -- it, and the seat just notes what it found.
    abbrev pub takes_turn : Step (Option C) → SeatOf C → ℕ → SeatOf C → Type 0
    takes_turn st m r n = (r ≡ 0 → Took m n) × (r ≢ 0 → (n ≡ (shared_view (map (finds r) m.0.passes) None, [])) × (r ≤ 32) × ((k : ℕ) → r ≡ k + 1 → times k m.0.passes ≡ 0) × AreAbove r m.0.passes)

    abbrev pub tells_length : Call → Reply → Step (Option C) → SeatOf C → ℕ → SeatOf C → Type 0
    tells_length call reply st m r n = (old new : C) → m.0.held ≡ Some old → m.1 ≡ (0, Some new) ∷ [] → Told call reply old new m n

    -- the turn is given up, and the core as it last reported it was read
    abbrev pub gives_read : Step (Option C) → SeatOf C → ℕ → SeatOf C → Type 0
    gives_read st m r n = (core : C) → m.0.held ≡ Some core → HasRead core m n

  abbrev pub began : Step (Option C) → SeatOf C → ℕ → SeatOf C → Type 0
  began st m r n = n ≡ (view Opening m.0.passes None, (0, None) ∷ [])

  -- the opener and each later holder give up the turn in the same way
  abbrev pub gives_turn : Step (Option C) → SeatOf C → ℕ → SeatOf C → Type 0
  gives_turn st m r n = n ≡ (shared_view m.0.passes None, [])

  abbrev pub looks : Step (Option C) → SeatOf C → ℕ → SeatOf C → Type 0
  looks st m r n = (n ≡ (shared_view (map (hears r) m.0.passes) m.0.held, m.1)) × AllHeard r m.0.passes

  -- a mark was set, and the stripe is shared where no exclusive lock was found
  abbrev pub marks : Step (Option C) → SeatOf C → ℕ → SeatOf C → Type 0
  marks st m r n = (n ≡ seat_of (marked_by st.word r (first_of m.0.passes))) × Finds (first_of m.0.passes).number r

  -- the exclusive lock was taken, or a bit of another was found
  abbrev pub excludes : Step (Option C) → SeatOf C → ℕ → SeatOf C → Type 0
  excludes st m r n = (r ≡ st.first → n ≡ seat_of (excluded_by st.word r (first_of m.0.passes))) × (r ≢ st.first → (n ≡ seat_of (noted st.word mode.Exclusive r (first_of m.0.passes))) × FindsOther (first_of m.0.passes).number r)

  abbrev pub releases : Step (Option C) → SeatOf C → ℕ → SeatOf C → Type 0
  releases st m r n = n ≡ seat_of (with_hold st.word hold.Free (first_of m.0.passes))

  abbrev pub backs : Step (Option C) → SeatOf C → ℕ → SeatOf C → Type 0
  backs st m r n = n ≡ seat_of (with_hold st.word hold.Shared (first_of m.0.passes))
