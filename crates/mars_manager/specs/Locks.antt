-- What a pass has of the stripes of keys, and how its steps change that.
use Rattle.std.specs.Prelude.{ℕ, ◌≡◌, ◌≢◌, ◌<◌, ◌≤◌, ◌+◌, ◌/◌, ◌^◌, ◌==◌, Bool, true, false, not, ◌&&◌, IsTrue, IsFalse, MatchBool, filter, Option, None, if◌then◌else◌, List, [], ◌∷◌, ◌++◌, length, replicate, slice_index_or, slice_set, unwrap_or, Result, Ok, Err}
use Rattle.std.specs.Int.{bit_at}
use Rattle.record_slots.specs.Names.{number_of}
use Rattle.history.specs.Locks.{Touch, touches, touched, has_table}
use Rattle.history.specs.declared.call.Call.{Call}
use Rattle.history.specs.declared.call.Call.TheVariants.{Table, Control}
use Rattle.history.specs.declared.call.TableCall.{TableCall}
use Rattle.history.specs.declared.call.TableCall.TheVariants.{Get, Put, Del, Scan}
use Rattle.history.specs.declared.call.Control.TheVariants.{Offer}
use Rattle.history.specs.declared.call.Reply.{Reply}
use Rattle.history.specs.declared.call.Reply.TheVariants as says
use Rattle.history.specs.declared.locks.Mode.{Mode}
use Rattle.history.specs.declared.locks.Mode.TheVariants as mode
use Rattle.caller_steps.specs.Fate.{is_refusal, is_busy, is_media}
use Rattle.caller_steps.specs.Own.{is_commit}
use Rattle.caller_steps.specs.Run.{Heard}
use Rattle.stripe_words.specs.declared.hold.Hold.{Hold}
use Rattle.stripe_words.specs.declared.hold.Hold.TheVariants.{Free, Trying, Shared, Exclusive}
use Rattle.stripe_words.specs.Words.{granted, locked, gained, raised, IsWord, Refuses}
use Rattle.mars_manager.specs.declared.locking.Lock.{Lock}
use Rattle.mars_manager.specs.declared.locking.Lock.TheVariants.{Held, Busy, NoTransaction}
use Rattle.mars_manager.specs.declared.view.Met.{Met}
use Rattle.mars_manager.specs.declared.view.Known.{Known}
use Rattle.mars_manager.specs.Pass.{live_of, takes_of, names_of, finds, tried}

-- what is touched for reading is shared or exclusive, and what is touched for writing is exclusive
pub record IsCovered (touch : ℕ → Touch) (holds : List Hold) : Type 0 where
  pub reads : (t : ℕ) → IsTrue (touch t mode.Shared) → granted (slice_index_or holds t Free) ≡ 1
  pub writes : (t : ℕ) → IsTrue (touch t mode.Exclusive) → locked (slice_index_or holds t Free) ≡ 1

-- what a pass may give back: from y down to x
abbrev pub IsBelow : Hold → Hold → Type 0
IsBelow Free y = Unit {0}
IsBelow Trying y = ⊥
IsBelow Shared y = granted y ≡ 1
IsBelow Exclusive y = locked y ≡ 1

abbrev pub met : ℕ → Mode → ℕ → Met
met stripe asked found = record { stripe = stripe; asked = asked; found = found }

-- the number of the table that a call asks for, if it asks for one that is there
abbrev pub number_asked : List (List ℕ) → TableCall → Option ℕ
number_asked names (Get name key) = number_of names name
number_asked names (Put name key value) = number_of names name
number_asked names (Del name key) = number_of names name
number_asked names (Scan name low high) = number_of names name
number_asked names call = None

-- What a call on a table locks: what it touches, if the table is there. Other calls lock nothing.
abbrev pub locks : List (List ℕ) → Call → ℕ → Touch
locks names (Table call) stripe mode = has_table names call && touches names call stripe mode
locks names call stripe mode = false

-- what a pass has of a stripe once it has what a call locks
abbrev pub raised_for : Touch → Hold → Hold
raised_for touch has = if touch mode.Exclusive then raised mode.Exclusive has else if touch mode.Shared then raised mode.Shared has else has

-- the call ends its caller's transaction, or is a purge, which comes where there is none: its caller has none after it
abbrev pub is_end : Call → Bool
is_end (Control Offer) = false
is_end (Control ends) = true
is_end call = false

-- its caller has no transaction that takes calls after it
abbrev pub is_last : Call → Bool
is_last (Control control) = true
is_last call = false

-- whether a caller has a live transaction that takes calls, after a call
abbrev pub takes_after : Bool → Call → Reply → Bool
takes_after takes call reply = if is_media reply then takes && not (is_commit call) else (if is_refusal reply then takes else not (is_last call))

-- how often a call tries for the turn, by what it answers: not at all where a stripe is held, and else once
abbrev pub tries_for : {A : Type 0} → Result Reply A → ℕ
tries_for (Ok reply) = if is_busy reply then 0 else 1
tries_for (Err again) = 1

-- the replies that came of a turn; a `Busy` comes of the word of a stripe
abbrev pub steps_of : Heard → Heard
steps_of told = filter (λ (entry : Call × Reply). not (is_busy entry.1)) told

-- another pass has its mark in the word
abbrev pub HasOther : ℕ → ℕ → Type 0
HasOther n w = (h : ℕ) × (h < 32) × (h ≢ n) × (bit_at w h ≡ 1)

-- what a pass that has nothing of a stripe finds
pub record Finds (n found : ℕ) : Type 0 where
  pub word : IsWord found
  pub not_mine : bit_at found (32 + n) ≡ 0
  pub other : found / 2 ^ 32 ≢ 0 → HasOther n found

-- what a pass finds that is refused an exclusive lock
pub record FindsOther (n found : ℕ) : Type 0 where
  pub word : IsWord found
  pub other : HasOther n found

module _ {C : Type 0} where
  -- how the live transaction of its caller has touched a stripe
  abbrev pub touched_by : Known C → ℕ → Touch
  touched_by known = touched (names_of known) (unwrap_or (live_of known) [])

  abbrev pub hold_of : ℕ → Known C → Hold
  hold_of t known = slice_index_or known.holds t Free

  abbrev pub with_holds : List Hold → Known C → Known C
  with_holds holds known = record known { holds = holds }

  abbrev pub with_hold : ℕ → Hold → Known C → Known C
  with_hold t x known = with_holds (slice_set known.holds t x) known

  abbrev pub with_locks : List Hold → List Met → Known C → Known C
  with_locks holds met known = record known { holds = holds; met = met }

  -- a step found a word
  abbrev pub noted : ℕ → Mode → ℕ → Known C → Known C
  noted t asked found known = record known { met = known.met ++ met t asked found ∷ [] }

  abbrev pub marked_by : ℕ → ℕ → Known C → Known C
  marked_by t found known = noted t mode.Shared found (with_hold t (gained (found / 2 ^ 32 == 0)) known)

  abbrev pub excluded_by : ℕ → ℕ → Known C → Known C
  excluded_by t found known = noted t mode.Exclusive found (with_hold t Exclusive known)

  abbrev pub IsUnwritten : ℕ → Known C → Type 0
  IsUnwritten t known = IsTrue (touched_by known t mode.Exclusive) → ⊥

  abbrev pub IsUntouched : ℕ → Known C → Type 0
  IsUntouched t known = (IsTrue (touched_by known t mode.Shared) → ⊥) × IsUnwritten t known

  -- between two calls a pass tries nothing
  abbrev pub IsSettled : Known C → Type 0
  IsSettled known = (t : ℕ) → hold_of t known ≢ Trying

  -- what is so of each pass at hand
  pub record IsPass (known : Known C) : Type 0 where
    pub long : length known.holds ≡ 64
    pub covered : IsCovered (touched_by known) known.holds
    pub settled : IsSettled known

  -- a stripe was locked, or was before
  pub record HasLocked (asked : Mode) (t : ℕ) (was now : Known C) : Type 0 where
    pub more : List Met
    pub is : now ≡ with_locks (slice_set was.holds t (raised asked (hold_of t was))) (was.met ++ more) was

  -- A pass has what it had. The last word that it found is why, and h the lowest pass that this word has in its way
  pub record IsRefused (asked : Mode) (t h : ℕ) (was now : Known C) : Type 0 where
    pub step : Mode
    pub found : ℕ
    pub before : List Met
    pub is : now ≡ with_locks was.holds (was.met ++ (before ++ met t step found ∷ [])) was
    pub why : Refuses asked found was.number h

  -- the stripes below n were locked for reading, or were before
  pub record HasReadable (n : ℕ) (was now : Known C) : Type 0 where
    pub more : List Met
    pub same : now ≡ with_locks now.holds (was.met ++ more) was
    pub long : length now.holds ≡ length was.holds
    pub each : (t : ℕ) → t < n → hold_of t now ≡ raised mode.Shared (hold_of t was)
    pub others : (t : ℕ) → n ≤ t → hold_of t now ≡ hold_of t was

  -- what a call locks was locked, or was before
  pub record HasLockedFor (call : Call) (was now : Known C) : Type 0 where
    pub more : List Met
    pub same : now ≡ with_locks now.holds (was.met ++ more) was
    pub each : (t : ℕ) → hold_of t now ≡ raised_for (locks (names_of was) call t) (hold_of t was)

  -- A pass whose transaction takes calls has what a call locks. Another has what it had, and has looked at no word of a stripe.
  pub record HasReadied (call : Call) (was now : Known C) : Type 0 where
    pub more : List Met
    pub same : now ≡ with_locks now.holds (was.met ++ more) was
    pub below : (t : ℕ) → IsBelow (hold_of t was) (hold_of t now)
    pub covered : IsTrue (takes_of was) → IsCovered (locks (names_of was) call) now.holds
    pub each : IsTrue (takes_of was) → (t : ℕ) → hold_of t now ≡ raised_for (locks (names_of was) call t) (hold_of t was)
    pub idle : IsFalse (takes_of was) → now.holds ≡ was.holds
    pub quiet : IsFalse (takes_of was) → now.met ≡ was.met

  -- one of the stripes that a call locks was refused
  pub record IsRefusedFor (call : Call) (h : ℕ) (was now : Known C) : Type 0 where
    pub stripe : ℕ
    pub asked : Mode
    pub touches_it : IsTrue (locks (names_of was) call stripe asked)
    pub refused : IsRefused asked stripe h was now

  -- a `Busy` comes where the pass has a transaction that takes calls, of a word that was in the call's way at its own step
  abbrev pub IsBusyBy : Call → Reply → Known C → Known C → Type 0
  IsBusyBy call (says.Busy h) was now = IsTrue (takes_of was) × IsRefusedFor call h was now
  IsBusyBy call reply was now = Unit {0}

  -- another pass had the turn, at so many tries: but for what the pass found it knows and has what it did before
  pub record IsAgain (n : ℕ) (was now : Known C) : Type 0 where
    pub more : List Met
    pub tries : ℕ
    pub is : now ≡ tried (was.tries + tries) (finds n (with_locks was.holds (was.met ++ more) was))

  -- What a pass has after a call: what it had if the call was refused, nothing if its caller then has no transaction, and else also what it locks.
  abbrev pub HasAfter : Call → Reply → Known C → Known C → Type 0
  HasAfter call reply was now = MatchBool (is_refusal reply) (now.holds ≡ was.holds) (MatchBool (is_end call) (now.holds ≡ replicate 64 Free) ((t : ℕ) → hold_of t now ≡ raised_for (locks (names_of was) call t) (hold_of t was)))

  -- what a try to lock a stripe comes to, by the transaction of the pass and the word that it found
  abbrev pub Locks : Mode → ℕ → Known C → Lock → Known C → Type 0
  Locks asked t was Held now = IsTrue (takes_of was) × HasLocked asked t was now
  Locks asked t was (Busy h) now = IsTrue (takes_of was) × IsRefused asked t h was now
  Locks asked t was NoTransaction now = IsFalse (takes_of was) × (now ≡ was)
