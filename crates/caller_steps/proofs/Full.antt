-- What a full array answers is told by the state.
use Rattle.std.proofs.Common.{◌≡◌, ◌-◌, ◌≤◌, ℕ, refl, inl, inr, List, [], ◌∷◌, Option, Some, None, sym, ap, ◌∙◌, arith}
use Rattle.std.proofs.lemmas.Bool.{cases_order}
use Rattle.mars_base.specs.Check.{IsSingle}
use Rattle.mars_base.proofs.Checks.{pass_single, test_single, both_single, unless_single, each_single, excludes, one_bad}
use Rattle.mars_base.proofs.Rooms.{rooms_single}
use Rattle.history.specs.Key.{of_table}
use Rattle.history.specs.declared.key.Key.{Key}
use Rattle.history.specs.Log.{log_of, is_rewritten}
use Rattle.history.specs.declared.call.TableCall.{TableCall}
use Rattle.history.specs.declared.call.TableCall.TheVariants.{Put, Del}
use Rattle.history.specs.declared.call.Reply.{Reply}
use Rattle.history.specs.declared.call.Reply.TheVariants.{PagesFull, LogFull}
use Rattle.caller_steps.specs.State.{State, calls_of}
use Rattle.caller_steps.specs.Room.{Action, Limits, actions_fit, entry_fits, write_fits, room_for}

actions_single : (limits : Limits) (held : ℕ → ℕ) (left : ℕ) (actions : List Action) → IsSingle (actions_fit limits held left actions)
actions_single limits held left [] = pass_single
actions_single limits held left (action ∷ later) = both_single _ _ (test_single (action.takes ≤ left) (PagesFull (limits.index_pages - 1)))
    (both_single _ _ (rooms_single limits.loggers limits.entries held action.needs LogFull) (actions_single limits held (left - action.takes) later))

module _ (limits : Limits) (old : State) (caller : ℕ) where
  entry_single : (key : Key) (slot : ℕ) → IsSingle (entry_fits limits old caller key slot)
  entry_single key slot = unless_single (is_rewritten (log_of (calls_of old caller)) key) _ (test_single _ _)

  write_single : (key : Key) (slot : Option ℕ) → IsSingle (write_fits limits old caller key slot)
  write_single key None = both_single _ _ (test_single _ _) (both_single _ _ (actions_single limits _ _ (limits.actions old.index.bytes key)) (entry_single key old.index.keys.due))
  write_single key (Some slot) = entry_single key slot

  room_single : (call : TableCall) → IsSingle (room_for limits old caller call)
  room_single (Put name key value) = write_single (of_table name key) (old.index.keys.slot_of (of_table name key))
  room_single (Del name key) = unless_single _ _ (each_single (entry_fits limits old caller (of_table name key)) _ (entry_single (of_table name key)))
  room_single _ = pass_single

  -- what fits lacks nothing
  pub fits_none : (call : TableCall) (reply : Reply) → room_for limits old caller call None → room_for limits old caller call (Some reply) → ⊥
  fits_none call reply fits lacks = excludes (room_for limits old caller call) (room_single call) reply lacks fits

  pub lacks_one : (call : TableCall) (one other : Reply) → room_for limits old caller call (Some one) → room_for limits old caller call (Some other) → one ≡ other
  lacks_one call one other a b = one_bad (room_for limits old caller call) (room_single call) one other a b
