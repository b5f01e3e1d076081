-- What a call from C does to an array, open or closed.
use Rattle.std.specs.Prelude.{ℕ, ℤ, ◌≡◌, Option, None}
use Rattle.history.specs.declared.call.Call.{Call}
use Rattle.history.specs.declared.call.Reply.{Reply}
use Rattle.taped_calls.specs.Asked.{Changes}
use Rattle.taped_records.specs.declared.records.TapedRecords.{TapedRecords}
use Rattle.taped_records.specs.Calls as taped
use Rattle.taped_records.specs.Status.{is_closed}

-- the core makes this call of the caller's, and this is said of its reply; or, for a reason that holds, nothing is done, and nothing is said
abbrev pub Calls : taped.Keeps → (ℤ → Type 0) → (Option Reply → Type 0) → ℕ → Call → Option TapedRecords → Option TapedRecords → ℤ → Type 0
Calls keeps Unfit Says caller call old new status = Changes (λ (was now : TapedRecords). taped.Calls keeps Unfit Says caller call was now status) ((status ≡ is_closed) × Says None) old new
