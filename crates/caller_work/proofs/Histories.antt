-- A caller's transactions in a history, from the turns that its plans ask for.
use Rattle.std.proofs.Common.{◌≡◌, ◌⊎◌, inl, inr, ℕ, zero, suc, ◌+◌, Bool, true, false, List, [], ◌∷◌, ◌++◌, append_assoc, length, length-append, ⊎_elim, map, Option, Some, None, unwrap_or, Result, Ok, Err, drop, refl, sym, ap, ◌∙◌, subst, arith}
use Rattle.std.specs.Prelude.{IsFalse, not, if◌then◌else◌, MatchBool, Contains}
use Rattle.std.specs.List.{fold}
use Rattle.std.specs.Option.{option_to_list}
use Rattle.std.proofs.lemmas.Bool.{true≢false}
use Rattle.std.proofs.lemmas.List.{append-nil, map-append}
use Rattle.std.proofs.lemmas.List.Sums.{fold-append}
use Rattle.std.proofs.lemmas.List.Elements.{Contains-append_left, Contains-append_right, Contains-append_cases, Contains-push_cases}
use Rattle.history.specs.Table.{Granted}
use Rattle.history.specs.declared.call.Call.{Call}
use Rattle.history.specs.declared.call.Call.TheVariants.{Begin, Table, Control}
use Rattle.history.specs.declared.call.TableCall.{TableCall}
use Rattle.history.specs.declared.call.Control.TheVariants.{Commit, Abort, Offer, Settle}
use Rattle.history.specs.declared.call.Reply.{Reply}
use Rattle.history.specs.declared.call.Reply.TheVariants as says
use Rattle.history.specs.declared.transaction.Done.{Done}
use Rattle.caller_steps.specs.State as state
use Rattle.caller_steps.specs.State.{State, unoffered, offered, unsettled, commits_of}
use Rattle.caller_steps.specs.Offers.{is_offered}
use Rattle.caller_steps.specs.Room.{Limits}
use Rattle.caller_steps.specs.Step.{Runs}
use Rattle.caller_steps.specs.Fate.{is_refusal, is_media, is_busy, is_committed, live_with, offer_with}
use Rattle.caller_steps.specs.Run.{Turn, Heard, turns_of}
use Rattle.caller_steps.specs.Own.{is_commit, Own, nothing_own, own_after, number_of, as_told, told_of, calls_among, mine_in, doubt_in, KnowsLive}
use Rattle.caller_steps.proofs.Running.{turns_of_runs}
use Rattle.caller_steps.proofs.Owning.{turns_mine, turns_doubt, fresh_live, fresh_mine, fresh_doubt}
use Rattle.mars_manager.specs.Locks.{steps_of}
use Rattle.mars_manager.proofs.Asking.{one_here, none_here}
use Rattle.caller_plans.specs.declared.plan.Plan.{Plan}
use Rattle.caller_plans.specs.declared.plan.PlanEnd.{PlanEnd}
use Rattle.caller_plans.specs.declared.plan.PlanEnd.TheVariants as end
use Rattle.caller_plans.specs.declared.fate.Fate.{Fate}
use Rattle.caller_plans.specs.declared.fate.Fate.TheVariants.{Committed, Aborted, Refused}
use Rattle.caller_work.specs.declared.tries.Tries.{Tries}
use Rattle.caller_work.specs.declared.tries.Tries.TheVariants.{NoLimit}
use Rattle.caller_work.specs.Tries.{is_last, end_outcome, refusal_outcome, IsOne, Ends, GivesUp, Takes, IsTry, AreHeldUp, IsMade, Works, IsWork, IsWorkOf}
use Rattle.caller_work.specs.Fated.{commits, IsRefusedAs, IsDoneAs, AreFated}
use Rattle.caller_work.specs.Asked.{AreOnTables}
use Rattle.caller_work.proofs.Lawful.{pick_false, IsKind, IsSaid, AreLawful, AreSaid, both_parts, lawful_run, steps_said}

-- what a reply leaves of something: a fault of the medium, a refusal, and else
refused_if : {X : Type 0} (media commit refusal : Bool) (lost was done : X) → commit ≡ false → refusal ≡ true → (if media then (if commit then lost else was) else (if refusal then was else done)) ≡ was
refused_if true true refusal lost was done c r = absurd (true≢false c)
refused_if true false refusal lost was done c r = refl
refused_if false commit true lost was done c r = refl
refused_if false commit false lost was done c r = absurd (true≢false (sym r))

done_if : {X : Type 0} (media commit refusal : Bool) (lost was done : X) → media ≡ false → refusal ≡ false → (if media then (if commit then lost else was) else (if refusal then was else done)) ≡ done
done_if true commit refusal lost was done m r = absurd (true≢false m)
done_if false commit true lost was done m r = absurd (true≢false r)
done_if false commit false lost was done m r = refl

all_if : {X : Type 0} (media commit refusal : Bool) (lost was done x : X) → lost ≡ x → was ≡ x → done ≡ x → (if media then (if commit then lost else was) else (if refusal then was else done)) ≡ x
all_if true true refusal lost was done x l w d = l
all_if true false refusal lost was done x l w d = w
all_if false commit true lost was done x l w d = w
all_if false commit false lost was done x l w d = d

kept_if : {X : Type 0} (media commit : Bool) (lost was : X) → commit ≡ false → (if media then (if commit then lost else was) else was) ≡ was
kept_if true true lost was c = absurd (true≢false c)
kept_if true false lost was c = refl
kept_if false commit lost was c = refl

granted_sure : (reply : Reply) → is_refusal reply ≡ false → is_media reply ≡ false
granted_sure says.Media e = absurd (true≢false e)
granted_sure reply e = refl

last_apart : (reply : Reply) → is_last reply ≡ true → is_busy reply ≡ true → ⊥
last_apart (says.Busy holder) last busy = true≢false (sym last)
last_apart reply last busy = true≢false (sym busy)

-- a call that is no commit is not answered as one
uncommitted : (call : Call) (reply : Reply) → (call ≡ Control Commit → ⊥) → (call ≡ Control Settle → ⊥) → (is_committed reply ≡ true → (call ≡ Control Commit) ⊎ (call ≡ Control Settle)) → is_committed reply ≡ false
uncommitted call reply other another sure = go (is_committed reply) refl
  where
    either : (call ≡ Control Commit) ⊎ (call ≡ Control Settle) → is_committed reply ≡ false
    either (inl c) = absurd (other c)
    either (inr c) = absurd (another c)

    go : (b : Bool) → is_committed reply ≡ b → is_committed reply ≡ false
    go true e = either (sure e)
    go false e = e

abbrev first_of : TableCall × Reply → TableCall
first_of entry = entry.0

-- the worker goes on: its try came to a fate, or a locked key stopped it
abbrev goes_on : Result Fate Reply → Bool
goes_on (Ok fate) = true
goes_on (Err reply) = is_busy reply

-- and so it is of all its plans
abbrev is_open : Option Reply → Bool
is_open None = true
is_open (Some reply) = is_busy reply

-- nothing waits and nothing is in doubt,
record IsIdle (own : Own) : Type 0 where
  waits : own.waits ≡ false
  doubt : own.doubt ≡ None

-- and there is no transaction
record IsFree (own : Own) : Type 0 where
  live : own.live ≡ None
  idle : IsIdle own

-- what waits for its settle is this plan, which was offered with all its calls
record IsWaiting (plan : Plan) (own : Own) : Type 0 where
  waits : own.waits ≡ true
  doubt : own.doubt ≡ None
  offers : plan.end ≡ end.Offer
  all : Granted
  live : own.live ≡ Some all
  calls : map first_of all ≡ plan.calls

-- what is in doubt is this plan
record IsDoubted (plan : Plan) (own : Own) : Type 0 where
  waits : own.waits ≡ false
  all : Granted
  doubt : own.doubt ≡ Some all
  ends : commits plan.end ≡ true
  calls : map first_of all ≡ plan.calls

-- what a try of a plan may leave
abbrev Leaves : Plan → Own → Type 0
Leaves plan own = IsIdle own ⊎ (IsWaiting plan own ⊎ IsDoubted plan own)

-- the same for the first of the plans that are left
abbrev LeavesFor : List Plan → Own → Type 0
LeavesFor [] own = IsIdle own
LeavesFor (plan ∷ plans) own = Leaves plan own

for_idle : (plans : List Plan) (own : Own) → IsIdle own → LeavesFor plans own
for_idle [] own idle = idle
for_idle (plan ∷ plans) own idle = inl idle

module _ (caller : ℕ) (said : Heard) where
  abbrev after : Own → Heard → Own
  after own told = fold (own_after caller) own told

  after_both : (own : Own) (xs ys : Heard) → after own (xs ++ ys) ≡ after (after own xs) ys
  after_both own xs ys = fold-append (own_after caller) own xs ys

  -- all of this but each `Busy` is among what came of turns
  abbrev Within : Heard → Type 0
  Within told = (entry : Call × Reply) → is_busy entry.1 ≡ false → Contains told entry → Contains said entry

  within_parts : (told front back : Heard) → told ≡ front ++ back → Within told → Within front × Within back
  within_parts told front back is within = (
    (λ entry free there. within entry free (subst (λ (l : Heard). Contains l entry) (sym is) (Contains-append_left front back entry there))),
    (λ entry free there. within entry free (subst (λ (l : Heard). Contains l entry) (sym is) (Contains-append_right front back entry there))),
  )

  module _ (own : Own) (call : Call) (reply : Reply) where
    abbrev next : Own
    next = own_after caller own (call, reply)

    -- one call that is not answered as a commit
    mine_same : is_committed reply ≡ false → next.mine ≡ own.mine
    mine_same e = pick_false (is_committed reply) (own.mine ++ record { caller = caller; calls = unwrap_or own.live []; at = number_of reply; last = number_of reply } ∷ []) own.mine e

    -- a call that was done
    done_live : is_refusal reply ≡ false → next.live ≡ live_with (unwrap_or own.live []) call reply
    done_live done = done_if (is_media reply) (is_commit call) (is_refusal reply) None own.live (live_with (unwrap_or own.live []) call reply) (granted_sure reply done) done

    done_waits : is_refusal reply ≡ false → next.waits ≡ is_offered (offer_with call)
    done_waits done = done_if (is_media reply) (is_commit call) (is_refusal reply) false own.waits (is_offered (offer_with call)) (granted_sure reply done) done

    -- without a fault nothing more is in doubt, and only a commit can leave something in doubt
    sure_doubt : is_media reply ≡ false → next.doubt ≡ own.doubt
    sure_doubt sure = pick_false (is_media reply) (if is_commit call then Some (unwrap_or own.live []) else own.doubt) own.doubt sure

    plain_doubt : is_commit call ≡ false → next.doubt ≡ own.doubt
    plain_doubt plain = kept_if (is_media reply) (is_commit call) (Some (unwrap_or own.live [])) own.doubt plain

    -- where nothing waits, only an offer lets something wait
    idle_waits : own.waits ≡ false → is_offered (offer_with call) ≡ false → next.waits ≡ false
    idle_waits idle none = all_if (is_media reply) (is_commit call) (is_refusal reply) false own.waits (is_offered (offer_with call)) false refl idle none

    idle_plain : IsIdle own → is_offered (offer_with call) ≡ false → is_commit call ≡ false → IsIdle next
    idle_plain idle none plain = record { waits = idle_waits idle.waits none; doubt = plain_doubt plain ∙ idle.doubt }

    idle_sure : IsIdle own → is_offered (offer_with call) ≡ false → is_media reply ≡ false → IsIdle next
    idle_sure idle none sure = record { waits = idle_waits idle.waits none; doubt = sure_doubt sure ∙ idle.doubt }

    -- a refused offer lets nothing wait
    refused_idle : IsIdle own → is_refusal reply ≡ true → is_commit call ≡ false → IsIdle next
    refused_idle idle refusal plain = record {
      waits = refused_if (is_media reply) (is_commit call) (is_refusal reply) false own.waits (is_offered (offer_with call)) plain refusal ∙ idle.waits;
      doubt = plain_doubt plain ∙ idle.doubt;
    }

  -- no call but one on a table is told a `Busy`
  never_busy : (own : Own) (call : Call) (reply : Reply) → IsSaid own (call, reply) → ((asked : TableCall) → call ≡ Table asked → ⊥) → is_busy reply ≡ true → ⊥
  never_busy own call reply one apart busy = let on = one.busy busy in apart on.0 on.1

  -- what a try adds to a caller's transactions
  abbrev Gains : Plan → Result Fate Reply → List Done → List Done → Type 0
  Gains plan (Ok (Committed at)) old new = (done : Done) × (done.at ≡ at) × IsDoneAs plan done × (new ≡ old ++ done ∷ [])
  Gains plan (Ok Aborted) old new = IsFalse (commits plan.end) × (new ≡ old)
  Gains plan (Ok (Refused reply)) old new = IsRefusedAs said plan reply × (new ≡ old)
  Gains plan (Err reply) old new = new ≡ old

  refusal_gains : (plan : Plan) (refusal : Reply) (old new : List Done) → (is_busy refusal ≡ false → IsRefusedAs said plan refusal) → new ≡ old → Gains plan (refusal_outcome refusal) old new
  refusal_gains plan (says.Busy holder) old new why same = same
  refusal_gains plan refusal old new why same = (why refl, same)

  -- What comes of a try, in a transaction of its own. If the worker goes on then nothing is left of it.
  record Came (plan : Plan) (made : Result Fate Reply) (old new : Own) : Type 0 where
    gains : Gains plan made old.mine new.mine
    leaves : Leaves plan new
    free : goes_on made ≡ true → IsFree new

  onto : (plan : Plan) (made : Result Fate Reply) (old mid new : Own) → mid.mine ≡ old.mine → Came plan made mid new → Came plan made old new
  onto plan made old mid new same came = record { gains = subst (λ (l : List Done). Gains plan made l new.mine) same came.gains; leaves = came.leaves; free = came.free }

  -- the worker stops at a reply that is no `Busy`
  came_stopped : (plan : Plan) (reply : Reply) (old new : Own) → new.mine ≡ old.mine → Leaves plan new → (is_busy reply ≡ true → ⊥) → Came plan (Err reply) old new
  came_stopped plan reply old new same leaves never = record { gains = same; leaves = leaves; free = λ busy. absurd (never busy) }

  came_free : (plan : Plan) (made : Result Fate Reply) (old new : Own) → Gains plan made old.mine new.mine → IsFree new → Came plan made old new
  came_free plan made old new gains free = record { gains = gains; leaves = inl free.idle; free = λ _. free }

  came_as : (plan : Plan) (made given : Result Fate Reply) (old new : Own) → made ≡ given → Came plan given old new → Came plan made old new
  came_as plan made given old new is came = subst (λ (r : Result Fate Reply). Came plan r old new) (sym is) came

  -- a refusal, and the abort that may follow it, add nothing
  given_up : (plan : Plan) (refusal : Reply) (made : Result Fate Reply) (told : Heard) (own : Own) → GivesUp refusal told made → AreSaid caller own told → IsIdle own
      → (is_last refusal ≡ false → is_busy refusal ≡ false → IsRefusedAs said plan refusal) → Came plan made own (after own told)
  given_up plan refusal made told own gives all idle why = go (is_last refusal) refl gives
    where
      go : (b : Bool) → is_last refusal ≡ b → MatchBool b ((told ≡ []) × (made ≡ Err refusal)) (IsOne (Control Abort) (λ answer. if is_refusal answer then Err answer else refusal_outcome refusal) told made) → Came plan made own (after own told)
      go true last (none, is) = subst (λ (l : Heard). Came plan made own (after own l)) (sym none)
          (came_as plan made (Err refusal) own own is (came_stopped plan refusal own own refl (inl idle) (last_apart refusal last)))
      go false not_last (answer, is, came) = subst (λ (l : Heard). Came plan made own (after own l)) (sym is) (by (is_refusal answer) refl)
        where
          one : IsSaid own (Control Abort, answer)
          one = (subst (AreSaid caller own) is all).0

          same : (next own (Control Abort) answer).mine ≡ own.mine
          same = mine_same own (Control Abort) answer (uncommitted (Control Abort) answer (λ same. cc) (λ same. cc) one.lawful.commits)

          resting : IsIdle (next own (Control Abort) answer)
          resting = idle_plain own (Control Abort) answer idle refl refl

          by : (b : Bool) → is_refusal answer ≡ b → Came plan made own (next own (Control Abort) answer)
          by true e = came_as plan made (Err answer) own (next own (Control Abort) answer) (came ∙ ap (λ (b : Bool). if b then Err answer else refusal_outcome refusal) e)
              (came_stopped plan answer own (next own (Control Abort) answer) same (inl resting) (never_busy own (Control Abort) answer one (λ asked on. cc)))
          by false e = came_as plan made (refusal_outcome refusal) own (next own (Control Abort) answer) (came ∙ ap (λ (b : Bool). if b then Err answer else refusal_outcome refusal) e)
              (came_free plan (refusal_outcome refusal) own (next own (Control Abort) answer) (refusal_gains plan refusal own.mine (next own (Control Abort) answer).mine (λ free. why not_last free) same)
              (record { live = done_live own (Control Abort) answer e; idle = resting }))

  -- A commit adds the live transaction, and so does a settle; an abort adds nothing.
  module _ (plan : Plan) (own : Own) (all : Granted) (live : own.live ≡ Some all) (calls : map first_of all ≡ plan.calls) where
    abbrev done_as : ℕ → Done
    done_as at = record { caller = caller; calls = unwrap_or own.live []; at = at; last = at }

    live_calls : map first_of (unwrap_or own.live []) ≡ plan.calls
    live_calls = ap (λ (l : Option Granted). map first_of (unwrap_or l [])) live ∙ calls

    committed_as : (at : ℕ) → commits plan.end ≡ true → IsDoneAs plan (done_as at)
    committed_as at is_end = (is_end, live_calls)

    at_commit : (reply : Reply) → IsIdle own → commits plan.end ≡ true → (is_busy reply ≡ true → ⊥) → Came plan (end_outcome end.Commit reply) own (own_after caller own (Control Commit, reply))
    at_commit (says.Committed at) idle is_end never = came_free plan (Ok (Committed at)) own (own_after caller own (Control Commit, says.Committed at))
        (done_as at, refl, committed_as at is_end, refl) (record { live = refl; idle = record { waits = refl; doubt = idle.doubt } })
    at_commit says.Media idle is_end never = came_stopped plan says.Media own (own_after caller own (Control Commit, says.Media)) refl
        (inr (inr (record { waits = refl; all = unwrap_or own.live []; doubt = refl; ends = is_end; calls = live_calls }))) never
    at_commit reply idle is_end never = came_stopped plan reply own (own_after caller own (Control Commit, reply)) refl (inl (idle_sure own (Control Commit) reply idle refl refl)) never

    -- the reply to a settle
    module _ (waits : own.waits ≡ true) (doubt : own.doubt ≡ None) (is_end : plan.end ≡ end.Offer) where
      settled_free : (new : Own) → new.live ≡ None → new.waits ≡ false → new.doubt ≡ own.doubt → IsFree new
      settled_free new none idle same = record { live = none; idle = record { waits = idle; doubt = same ∙ doubt } }

      at_settle : (reply : Reply) → (is_busy reply ≡ true → ⊥) → Came plan (end_outcome end.Offer reply) own (own_after caller own (Control Settle, reply))
      at_settle (says.Committed at) never = came_free plan (Ok (Committed at)) own (own_after caller own (Control Settle, says.Committed at))
          (done_as at, refl, committed_as at (ap commits is_end), refl) (settled_free (own_after caller own (Control Settle, says.Committed at)) refl refl refl)
      at_settle says.Media never = came_stopped plan says.Media own (own_after caller own (Control Settle, says.Media)) refl
          (inr (inr (record { waits = refl; all = unwrap_or own.live []; doubt = refl; ends = ap commits is_end; calls = live_calls }))) never
      at_settle says.Fine never = came_stopped plan says.Fine own (own_after caller own (Control Settle, says.Fine)) refl (inl (record { waits = refl; doubt = doubt })) never
      at_settle (says.Found v) never = came_stopped plan (says.Found v) own (own_after caller own (Control Settle, says.Found v)) refl (inl (record { waits = refl; doubt = doubt })) never
      at_settle says.Absent never = came_stopped plan says.Absent own (own_after caller own (Control Settle, says.Absent)) refl (inl (record { waits = refl; doubt = doubt })) never
      at_settle (says.Listed v) never = came_stopped plan (says.Listed v) own (own_after caller own (Control Settle, says.Listed v)) refl (inl (record { waits = refl; doubt = doubt })) never
      at_settle (says.Saved v) never = came_stopped plan (says.Saved v) own (own_after caller own (Control Settle, says.Saved v)) refl (inl (record { waits = refl; doubt = doubt })) never
      at_settle (says.Purged v) never = came_stopped plan (says.Purged v) own (own_after caller own (Control Settle, says.Purged v)) refl (inl (record { waits = refl; doubt = doubt })) never
      at_settle reply never = came_stopped plan reply own own refl (inr (inl (record { waits = waits; doubt = doubt; offers = is_end; all = all; live = live; calls = calls }))) never

    -- the reply to an abort
    module _ (reply : Reply) (idle : IsIdle own) (one : IsSaid own (Control Abort, reply)) where
      abbrev ended_so : Own
      ended_so = own_after caller own (Control Abort, reply)

      unchanged : ended_so.mine ≡ own.mine
      unchanged = mine_same own (Control Abort) reply (uncommitted (Control Abort) reply (λ same. cc) (λ same. cc) one.lawful.commits)

      not_busy : is_busy reply ≡ true → ⊥
      not_busy busy = never_busy own (Control Abort) reply one (λ asked on. cc) busy

      resting : IsIdle ended_so
      resting = idle_plain own (Control Abort) reply idle refl refl

    at_abort : (reply : Reply) (idle : IsIdle own) → IsSaid own (Control Abort, reply) → commits plan.end ≡ false → Came plan (end_outcome end.Abort reply) own (own_after caller own (Control Abort, reply))
    at_abort says.Fine idle one never = came_free plan (Ok Aborted) own (own_after caller own (Control Abort, says.Fine)) (never, unchanged says.Fine idle one) (record { live = refl; idle = resting says.Fine idle one })
    at_abort reply idle one never = came_stopped plan reply own (own_after caller own (Control Abort, reply)) (unchanged reply idle one) (inl (resting reply idle one)) (not_busy reply idle one)

    at_unended : (reply : Reply) (idle : IsIdle own) → IsSaid own (Control Abort, reply) → commits plan.end ≡ false → Came plan (end_outcome end.Unended reply) own (own_after caller own (Control Abort, reply))
    at_unended says.Fine idle one never = came_free plan (Ok Aborted) own (own_after caller own (Control Abort, says.Fine)) (never, unchanged says.Fine idle one) (record { live = refl; idle = resting says.Fine idle one })
    at_unended reply idle one never = came_stopped plan reply own (own_after caller own (Control Abort, reply)) (unchanged reply idle one) (inl (resting reply idle one)) (not_busy reply idle one)

  -- one call ends a plan
  one_ends : (plan : Plan) (made : Result Fate Reply) (told : Heard) (own : Own) (call : Call) (outcome : Reply → Result Fate Reply) → IsOne call outcome told made → AreSaid caller own told
      → ((reply : Reply) → IsSaid own (call, reply) → Came plan (outcome reply) own (own_after caller own (call, reply))) → Came plan made own (after own told)
  one_ends plan made told own call outcome (reply, is, came) all by =
      subst (λ (l : Heard). Came plan made own (after own l)) (sym is)
      (came_as plan made (outcome reply) own (own_after caller own (call, reply)) came (by reply (subst (AreSaid caller own) is all).0))

  ended : (plan : Plan) (ends : PlanEnd) (made : Result Fate Reply) (told : Heard) (own : Own) (all : Granted) → plan.end ≡ ends → own.live ≡ Some all → IsIdle own → map first_of all ≡ plan.calls
      → Ends ends told made → AreSaid caller own told → Came plan made own (after own told)
  ended plan end.Commit made told own all is_end live idle calls last so = one_ends plan made told own (Control Commit) (end_outcome end.Commit) last so
      (λ reply one. at_commit plan own all live calls reply idle (ap commits is_end) (never_busy own (Control Commit) reply one (λ asked on. cc)))
  ended plan end.Abort made told own all is_end live idle calls last so = one_ends plan made told own (Control Abort) (end_outcome end.Abort) last so
      (λ reply one. at_abort plan own all live calls reply idle one (ap commits is_end))
  ended plan end.Unended made told own all is_end live idle calls last so = one_ends plan made told own (Control Abort) (end_outcome end.Unended) last so
      (λ reply one. at_unended plan own all live calls reply idle one (ap commits is_end))
  ended plan end.Offer made told own all is_end live idle calls (reply, rest, is, follows) so =
      subst (λ (l : Heard). Came plan made own (after own l)) (sym is) (go (is_refusal reply) refl follows)
    where
      both : AreSaid caller own ((Control Offer, reply) ∷ rest)
      both = subst (AreSaid caller own) is so

      same : (next own (Control Offer) reply).mine ≡ own.mine
      same = mine_same own (Control Offer) reply (uncommitted (Control Offer) reply (λ same. cc) (λ same. cc) both.0.lawful.commits)

      go : (b : Bool) → is_refusal reply ≡ b → MatchBool b ((rest ≡ []) × (made ≡ Err reply)) (IsOne (Control Settle) (end_outcome end.Offer) rest made) → Came plan made own (after (next own (Control Offer) reply) rest)
      go true e (none, came) = subst (λ (l : Heard). Came plan made own (after (next own (Control Offer) reply) l)) (sym none)
          (came_as plan made (Err reply) own (next own (Control Offer) reply) came (came_stopped plan reply own (next own (Control Offer) reply) same (inl (refused_idle own (Control Offer) reply idle e refl)) (never_busy own (Control Offer) reply both.0 (λ asked on. cc))))
      go false e one =
          let now : (next own (Control Offer) reply).live ≡ Some all = done_live own (Control Offer) reply e ∙ ap (λ (l : Option Granted). Some (unwrap_or l [])) live in
          onto plan made own (next own (Control Offer) reply) (after (next own (Control Offer) reply) rest) same
          (one_ends plan made rest (next own (Control Offer) reply) (Control Settle) (end_outcome end.Offer) one both.1 (λ answer one.
          at_settle plan (next own (Control Offer) reply) all now calls (done_waits own (Control Offer) reply e) (plain_doubt own (Control Offer) reply refl ∙ idle.doubt) is_end answer (never_busy (next own (Control Offer) reply) (Control Settle) answer one (λ asked on. cc))))

  -- calls of a table, granted one after another, and then the end
  takes_gain : (plan : Plan) (calls : List TableCall) (told : Heard) (made : Result Fate Reply) → Takes calls plan.end told made
      → (before : Granted) (own : Own) → AreSaid caller own told → Within told → own.live ≡ Some before → IsIdle own → map first_of before ++ calls ≡ plan.calls → Came plan made own (after own told)
  takes_gain plan [] told made last before own so within live idle are = ended plan plan.end made told own before refl live idle (sym (append-nil (map first_of before)) ∙ are) last so
  takes_gain plan (call ∷ calls) told made (reply, rest, is, follows) before own so within live idle are =
      subst (λ (l : Heard). Came plan made own (after own l)) (sym is)
      (go (λ takes before' own' so' within' live' idle' are'. takes_gain plan calls rest made takes before' own' so' within' live' idle' are') (is_refusal reply) refl follows)
    where
      both : AreSaid caller own ((Table call, reply) ∷ rest)
      both = subst (AreSaid caller own) is so

      parts : Within ((Table call, reply) ∷ []) × Within rest
      parts = within_parts told ((Table call, reply) ∷ []) rest is within

      mine : (next own (Table call) reply).mine ≡ own.mine
      mine = mine_same own (Table call) reply (uncommitted (Table call) reply (λ same. cc) (λ same. cc) both.0.lawful.commits)

      still : IsIdle (next own (Table call) reply)
      still = idle_plain own (Table call) reply idle refl refl

      planned : Contains plan.calls call
      planned = subst (λ (l : List TableCall). Contains l call) are (Contains-append_right (map first_of before) (call ∷ calls) call (Contains-append_left (call ∷ []) calls call (one_here call)))

      why : IsKind reply → is_last reply ≡ false → is_busy reply ≡ false → IsRefusedAs said plan reply
      why (inl last) not_last free = absurd (true≢false (sym last ∙ not_last))
      why (inr (inl busy)) not_last free = absurd (true≢false (sym busy ∙ free))
      why (inr (inr final)) not_last free = (call, planned, parts.0 (Table call, reply) free (one_here (Table call, reply)), final)

      go : (Takes calls plan.end rest made → (before : Granted) (own : Own) → AreSaid caller own rest → Within rest → own.live ≡ Some before → IsIdle own → map first_of before ++ calls ≡ plan.calls → Came plan made own (after own rest))
          → (b : Bool) → is_refusal reply ≡ b → MatchBool b (GivesUp reply rest made) (Takes calls plan.end rest made) → Came plan made own (after (next own (Table call) reply) rest)
      go more true e gives = onto plan made own (next own (Table call) reply) (after (next own (Table call) reply) rest) mine
          (given_up plan reply made rest (next own (Table call) reply) gives both.1 still (why (both.0.lawful.asks call before refl live idle.waits e)))
      go more false e takes =
          let now : (next own (Table call) reply).live ≡ Some (before ++ (call, reply) ∷ []) = done_live own (Table call) reply e ∙ ap (λ (l : Option Granted). live_with (unwrap_or l []) (Table call) reply) live in
          let are_next : map first_of (before ++ (call, reply) ∷ []) ++ calls ≡ plan.calls =
          ap (λ (l : List TableCall). l ++ calls) (map-append first_of before ((call, reply) ∷ [])) ∙ append_assoc (map first_of before) (call ∷ []) calls ∙ are in
          onto plan made own (next own (Table call) reply) (after (next own (Table call) reply) rest) mine (more takes (before ++ (call, reply) ∷ []) (next own (Table call) reply) both.1 parts.1 now still are_next)

  try_gains : (plan : Plan) (told : Heard) (made : Result Fate Reply) → IsTry plan told made → (own : Own) → AreSaid caller own told → Within told → IsFree own → Came plan made own (after own told)
  try_gains plan told made (reply, rest, is, follows) own so within free =
      subst (λ (l : Heard). Came plan made own (after own l)) (sym is) (go (is_refusal reply) refl follows)
    where
      both : AreSaid caller own ((Begin, reply) ∷ rest)
      both = subst (AreSaid caller own) is so

      mine : (next own Begin reply).mine ≡ own.mine
      mine = mine_same own Begin reply (uncommitted Begin reply (λ same. cc) (λ same. cc) both.0.lawful.commits)

      still : IsIdle (next own Begin reply)
      still = idle_plain own Begin reply free.idle refl refl

      go : (b : Bool) → is_refusal reply ≡ b → MatchBool b (GivesUp reply rest made) (Takes plan.calls plan.end rest made) → Came plan made own (after (next own Begin reply) rest)
      go true e gives = onto plan made own (next own Begin reply) (after (next own Begin reply) rest) mine
          (given_up plan reply made rest (next own Begin reply) gives both.1 still (λ not_last _. absurd (true≢false (sym (both.0.lawful.begins refl free.live free.idle.waits e) ∙ not_last))))
      go false e takes = onto plan made own (next own Begin reply) (after (next own Begin reply) rest) mine
          (takes_gain plan plan.calls rest made takes [] (next own Begin reply) both.1 (within_parts told ((Begin, reply) ∷ []) rest is within).1 (done_live own Begin reply e) still refl)

  -- tries that a locked key stopped add nothing
  held_up : (plan : Plan) (n : ℕ) (told : Heard) → AreHeldUp plan n told → (own : Own) → AreSaid caller own told → Within told → IsFree own → ((after own told).mine ≡ own.mine) × IsFree (after own told)
  held_up plan zero told none own so within free = (ap (λ (l : Heard). (after own l).mine) none, subst (λ (l : Heard). IsFree (after own l)) (sym none) free)
  held_up plan (suc n) told (front, last, holder, is, before, one) own so within free =
      let parts = both_parts caller own front last (subst (AreSaid caller own) is so) in
      let inside = within_parts told front last is within in
      let first = held_up plan n front before own parts.0 inside.0 free in
      let came = try_gains plan last (Err (says.Busy holder)) one (after own front) parts.1 inside.1 first.1 in
      let here : after own told ≡ after (after own front) last = ap (after own) is ∙ after_both own front last in
      (ap (λ (o : Own). o.mine) here ∙ came.gains ∙ first.0, subst (λ (o : Own). IsFree o) (sym here) (came.free refl))

  made_gains : (tries : Tries) (plan : Plan) (told : Heard) (made : Result Fate Reply) → IsMade tries plan told made → (own : Own) → AreSaid caller own told → Within told → IsFree own → Came plan made own (after own told)
  made_gains tries plan told made (held, front, last, is, before, ends, count) own so within free =
      let parts = both_parts caller own front last (subst (AreSaid caller own) is so) in
      let inside = within_parts told front last is within in
      let first = held_up plan held front before own parts.0 inside.0 free in
      subst (λ (o : Own). Came plan made own o) (sym (ap (after own) is ∙ after_both own front last))
      (onto plan made own (after own front) (after (after own front) last) first.0 (try_gains plan last made ends (after own front) parts.1 inside.1 first.1))

  -- what the fates say of the transactions that the caller was told of
  abbrev AreTold : List Plan → List Fate → List Done → Type 0
  AreTold plans [] mine = mine ≡ []
  AreTold [] (fate ∷ fates) mine = ⊥
  AreTold (plan ∷ plans) (Committed at ∷ fates) mine = (done : Done) × (behind : List Done) × (mine ≡ done ∷ behind) × (done.at ≡ at) × IsDoneAs plan done × AreTold plans fates behind
  AreTold (plan ∷ plans) (Aborted ∷ fates) mine = IsFalse (commits plan.end) × AreTold plans fates mine
  AreTold (plan ∷ plans) (Refused reply ∷ fates) mine = IsRefusedAs said plan reply × AreTold plans fates mine

  -- what all of a worker's turns add
  record Adds (plans : List Plan) (fates : List Fate) (stopped : Option Reply) (old new : Own) : Type 0 where
    mine : List Done
    is : new.mine ≡ old.mine ++ mine
    told : AreTold plans fates mine
    leaves : LeavesFor (drop (length fates) plans) new
    free : is_open stopped ≡ true → IsFree new

  fate_first : (plan : Plan) (plans : List Plan) (fate : Fate) (fates : List Fate) (stopped : Option Reply) (old mid new : Own) → Gains plan (Ok fate) old.mine mid.mine → Adds plans fates stopped mid new
      → Adds (plan ∷ plans) (fate ∷ fates) stopped old new
  fate_first plan plans (Committed at) fates stopped old mid new (done, under, fits, is) adds = record {
    mine = done ∷ adds.mine;
    is = adds.is ∙ ap (λ (l : List Done). l ++ adds.mine) is ∙ append_assoc old.mine (done ∷ []) adds.mine;
    told = (done, adds.mine, refl, under, fits, adds.told);
    leaves = adds.leaves;
    free = adds.free;
  }
  fate_first plan plans Aborted fates stopped old mid new (never, is) adds =
      record { mine = adds.mine; is = adds.is ∙ ap (λ (l : List Done). l ++ adds.mine) is; told = (never, adds.told); leaves = adds.leaves; free = adds.free }
  fate_first plan plans (Refused reply) fates stopped old mid new (why, is) adds =
      record { mine = adds.mine; is = adds.is ∙ ap (λ (l : List Done). l ++ adds.mine) is; told = (why, adds.told); leaves = adds.leaves; free = adds.free }

  works_add : (tries : Tries) (plans : List Plan) (told : Heard) (fates : List Fate) (stopped : Option Reply) → Works tries plans told fates stopped → (own : Own) → AreSaid caller own told → Within told → IsFree own
      → Adds plans fates stopped own (after own told)
  works_add tries [] told [] stopped (none, is) own so within free = subst (λ (l : Heard). Adds [] [] stopped own (after own l)) (sym none)
      (record { mine = []; is = sym (append-nil own.mine); told = refl; leaves = free.idle; free = λ _. free })
  works_add tries [] told (fate ∷ fates) stopped works own so within free = absurd works
  works_add tries (plan ∷ plans) told [] stopped (reply, is, made) own so within free =
      let came = made_gains tries plan told (Err reply) made own so within free in
      record { mine = []; is = came.gains ∙ sym (append-nil own.mine); told = refl; leaves = came.leaves; free = λ goes. came.free (sym (ap is_open is) ∙ goes) }
  works_add tries (plan ∷ plans) told (fate ∷ fates) stopped (front, back, is, made, works) own so within free =
      let parts = both_parts caller own front back (subst (AreSaid caller own) is so) in
      let inside = within_parts told front back is within in
      let one = made_gains tries plan front (Ok fate) made own parts.0 inside.0 free in
      let others = works_add tries plans back fates stopped works (after own front) parts.1 inside.1 (one.free refl) in
      subst (λ (o : Own). Adds (plan ∷ plans) (fate ∷ fates) stopped own o) (sym (after_both own front back) ∙ ap (after own) (sym is))
      (fate_first plan plans fate fates stopped own (after own front) (after (after own front) back) one.gains others)

  -- fates of some plans and of the ones behind them
  told_both : (plans : List Plan) (early late : List Fate) (xs ys : List Done) → AreTold plans early xs → AreTold (drop (length early) plans) late ys → AreTold plans (early ++ late) (xs ++ ys)
  told_both plans [] late xs ys none so = subst (λ (l : List Done). AreTold plans late (l ++ ys)) (sym none) so
  told_both [] (fate ∷ early) late xs ys one so = absurd one
  told_both (plan ∷ plans) (Committed at ∷ early) late xs ys (done, behind, is, under, fits, one) so =
      (done, behind ++ ys, ap (λ (l : List Done). l ++ ys) is, under, fits, told_both plans early late behind ys one so)
  told_both (plan ∷ plans) (Aborted ∷ early) late xs ys (never, one) so = (never, told_both plans early late xs ys one so)
  told_both (plan ∷ plans) (Refused reply ∷ early) late xs ys (why, one) so = (why, told_both plans early late xs ys one so)

  abbrev no_plan : List Plan
  no_plan = []

  none_left : (fates : List Fate) → drop (length fates) no_plan ≡ no_plan
  none_left [] = refl
  none_left (fate ∷ fates) = refl

  left_both : (plans : List Plan) (early late : List Fate) → drop (length (early ++ late)) plans ≡ drop (length late) (drop (length early) plans)
  left_both plans [] late = refl
  left_both [] (fate ∷ early) late = sym (none_left late)
  left_both (plan ∷ plans) (fate ∷ early) late = left_both plans early late

  work_adds : (tries : Tries) (plans : List Plan) (told : Heard) (fates : List Fate) (stopped : Option Reply) → IsWork tries plans told fates stopped → (own : Own) → AreSaid caller own told → Within told → IsFree own
      → Adds plans fates stopped own (after own told)
  work_adds tries plans told fates stopped (inl works) own so within free = works_add tries plans told fates stopped works own so within free
  work_adds tries plans told fates stopped (inr (front, back, early, late, holder, is, are, first, last)) own so within free =
      let parts = both_parts caller own front back (subst (AreSaid caller own) is so) in
      let inside = within_parts told front back is within in
      let one = works_add tries plans front early (Some (says.Busy holder)) first own parts.0 inside.0 free in
      let other = works_add NoLimit (drop (length early) plans) back late stopped last (after own front) parts.1 inside.1 (one.free refl) in
      subst (λ (x : List Fate × Own). Adds plans x.0 stopped own x.1) (λ k. (sym are k, (sym (after_both own front back) ∙ ap (after own) (sym is)) k)) (record {
        mine = one.mine ++ other.mine;
        is = other.is ∙ ap (λ (l : List Done). l ++ other.mine) one.is ∙ append_assoc own.mine one.mine other.mine;
        told = told_both plans early late one.mine other.mine one.told other.told;
        leaves = subst (λ (l : List Plan). LeavesFor l (after (after own front) back)) (sym (left_both plans early late)) other.leaves;
        free = other.free;
      })

  -- what the history and the doubt have beyond what the caller was told, of the plans that are left
  abbrev IsRest : List Plan → List Done → List Done → Type 0
  IsRest [] more doubt = more ++ doubt ≡ []
  IsRest (plan ∷ plans) more doubt = (more ++ doubt ≡ []) ⊎ ((done : Done) × (more ++ doubt ≡ done ∷ []) × IsDoneAs plan done × (plan.end ≡ end.Commit → more ≡ []))

  fated_more : (plans : List Plan) (fates : List Fate) (mine more doubt : List Done) → AreTold plans fates mine → IsRest (drop (length fates) plans) more doubt → AreFated said plans fates (mine ++ more) doubt
  fated_more [] [] mine more doubt none rest = subst (λ (l : List Done). (l ++ more) ++ doubt ≡ []) (sym none) rest
  fated_more (plan ∷ plans) [] mine more doubt none rest = subst (λ (l : List Done). IsRest (plan ∷ plans) (l ++ more) doubt) (sym none) rest
  fated_more [] (fate ∷ fates) mine more doubt so rest = absurd so
  fated_more (plan ∷ plans) (Committed at ∷ fates) mine more doubt (done, behind, is, under, fits, so) rest = (done, behind ++ more, ap (λ (l : List Done). l ++ more) is, under, fits, fated_more plans fates behind more doubt so rest)
  fated_more (plan ∷ plans) (Aborted ∷ fates) mine more doubt (never, so) rest = (never, fated_more plans fates mine more doubt so rest)
  fated_more (plan ∷ plans) (Refused reply ∷ fates) mine more doubt (why, so) rest = (why, fated_more plans fates mine more doubt so rest)

  -- where a group ends, no fate says
  none_told : (dones doubt : List Done) → map as_told dones ++ doubt ≡ [] → dones ++ doubt ≡ []
  none_told [] doubt e = e
  none_told (done ∷ dones) doubt e = absurd (cc)

  one_told : (dones : List Done) (done : Done) (behind : List Done) → map as_told dones ≡ done ∷ behind → (first : Done) × (rest : List Done) × (dones ≡ first ∷ rest) × (as_told first ≡ done) × (map as_told rest ≡ behind)
  one_told [] done behind e = absurd (cc)
  one_told (first ∷ rest) done behind e = (first, rest, refl, (let same : as_told first ≡ done = cc in same), (let same : map as_told rest ≡ behind = cc in same))

  done_told : (plan : Plan) (first done : Done) → as_told first ≡ done → IsDoneAs plan done → IsDoneAs plan first
  done_told plan first done is fits = (fits.0, ap (λ (d : Done). map first_of d.calls) is ∙ fits.1)

  rest_told : (plan : Plan) (plans : List Plan) (dones doubt : List Done) → IsRest (plan ∷ plans) (map as_told dones) doubt → IsRest (plan ∷ plans) dones doubt
  rest_told plan plans dones doubt (inl none) = inl (none_told dones doubt none)
  rest_told plan plans [] doubt (inr one) = inr one
  rest_told plan plans (first ∷ rest) doubt (inr (done, only, fits, alone)) =
      let same : as_told first ≡ done = cc in
      let none : map as_told rest ++ doubt ≡ [] = cc in
      inr (first, ap (λ (l : List Done). first ∷ l) (none_told rest doubt none), done_told plan first done same fits, (λ ends. absurd (let e : as_told first ∷ map as_told rest ≡ [] = alone ends in cc)))

  fated_as : (plans : List Plan) (fates : List Fate) (dones doubt : List Done) → AreFated said plans fates (map as_told dones) doubt → AreFated said plans fates dones doubt
  fated_as [] [] dones doubt none = none_told dones doubt none
  fated_as [] (fate ∷ fates) dones doubt never = never
  fated_as (plan ∷ plans) [] dones doubt rest = rest_told plan plans dones doubt rest
  fated_as (plan ∷ plans) (Committed at ∷ fates) dones doubt (done, behind, is, under, fits, so) =
      let one = one_told dones done behind is in (
        one.0,
        one.1,
        one.2,
        ap (λ (d : Done). d.at) one.3 ∙ under,
        done_told plan one.0 done one.3 fits,
        fated_as plans fates one.1 doubt (subst (λ (l : List Done). AreFated said plans fates l doubt) (sym one.4) so),
      )
  fated_as (plan ∷ plans) (Aborted ∷ fates) dones doubt (never, so) = (never, fated_as plans fates dones doubt so)
  fated_as (plan ∷ plans) (Refused reply ∷ fates) dones doubt (why, so) = (why, fated_as plans fates dones doubt so)

  -- What is in doubt, by its calls.
  no_calls : (dones : List Done) → map (λ (done : Done). done.calls) dones ≡ [] → dones ≡ []
  no_calls [] e = refl
  no_calls (done ∷ dones) e = absurd (cc)

  one_call : (dones : List Done) (calls : Granted) → map (λ (done : Done). done.calls) dones ≡ calls ∷ [] → (done : Done) × (dones ≡ done ∷ []) × (done.calls ≡ calls)
  one_call [] calls e = absurd (cc)
  one_call (done ∷ dones) calls e = (done, ap (λ (l : List Done). done ∷ l) (no_calls dones (let none : map (λ (done : Done). done.calls) dones ≡ [] = cc in none)), (let same : done.calls ≡ calls = cc in same))

  -- What of a plan is committed or in doubt and not told: another's settle may have ended the one that waits.
  module _ (own : Own) (now : State) (knows : KnowsLive caller own now) (doubted : calls_among caller now.doubt ≡ doubt_in own (now.offers caller)) where
    abbrev doubt : List Done
    doubt = commits_of caller now.doubt

    rest_idle : (plans : List Plan) → IsIdle own → (more : List Done) × IsRest plans more doubt × (mine_in caller own (now.offers caller) ≡ own.mine ++ more)
    rest_idle plans idle = ([], none plans, ap (mine_in caller own) open_is ∙ sym (append-nil own.mine))
      where
        open_is : now.offers caller ≡ unoffered
        open_is = knows.none idle.waits

        nothing : doubt ≡ []
        nothing = no_calls doubt (doubted ∙ ap (doubt_in own) open_is ∙ pick_false own.waits (unwrap_or own.live [] ∷ []) (option_to_list own.doubt) idle.waits ∙ ap option_to_list idle.doubt)

        none : (plans : List Plan) → IsRest plans [] doubt
        none [] = nothing
        none (plan ∷ plans) = inl nothing

    rest_doubted : (plan : Plan) (plans : List Plan) → IsDoubted plan own → (more : List Done) × IsRest (plan ∷ plans) more doubt × (mine_in caller own (now.offers caller) ≡ own.mine ++ more)
    rest_doubted plan plans left =
        let open_is : now.offers caller ≡ unoffered = knows.none left.waits in
        let one = one_call doubt left.all (doubted ∙ ap (doubt_in own) open_is ∙ pick_false own.waits (unwrap_or own.live [] ∷ []) (option_to_list own.doubt) left.waits ∙ ap option_to_list left.doubt) in
        ([], inr (one.0, one.1, (left.ends, ap (map first_of) one.2 ∙ left.calls), (λ ends. refl)), ap (mine_in caller own) open_is ∙ sym (append-nil own.mine))

    rest_waiting : (plan : Plan) (plans : List Plan) → IsWaiting plan own → (more : List Done) × IsRest (plan ∷ plans) more doubt × (mine_in caller own (now.offers caller) ≡ own.mine ++ more)
    rest_waiting plan plans left = go (now.offers caller) refl
      where
        sure : option_to_list own.doubt ≡ []
        sure = ap option_to_list left.doubt

        its : map first_of (unwrap_or own.live []) ≡ plan.calls
        its = ap (λ (l : Option Granted). map first_of (unwrap_or l [])) left.live ∙ left.calls

        go : (offer : state.Offer) → now.offers caller ≡ offer → (more : List Done) × IsRest (plan ∷ plans) more doubt × (mine_in caller own offer ≡ own.mine ++ more)
        go unoffered is =
            let one = one_call doubt (unwrap_or own.live []) (doubted ∙ ap (doubt_in own) is ∙ ap (λ (b : Bool). if b then unwrap_or own.live [] ∷ [] else option_to_list own.doubt) left.waits) in
            ([], inr (one.0, one.1, (ap commits left.offers, ap (map first_of) one.2 ∙ its), (λ ends. refl)), sym (append-nil own.mine))
        go offered is = ([], inl (no_calls doubt (doubted ∙ ap (doubt_in own) is ∙ sure)), sym (append-nil own.mine))
        go (unsettled n) is =
            let done : Done = record { caller = caller; calls = unwrap_or own.live []; at = n; last = n } in
            let nothing : doubt ≡ [] = no_calls doubt (doubted ∙ ap (doubt_in own) is ∙ sure) in (
              done ∷ [],
              inr (done, ap (λ (l : List Done). done ∷ l) nothing, (ap commits left.offers, its), (λ ends. absurd (let no : end.Offer ≡ end.Commit = sym left.offers ∙ ends in cc))),
              refl,
            )

    rest_of : (plans : List Plan) → LeavesFor plans own → (more : List Done) × IsRest plans more doubt × (mine_in caller own (now.offers caller) ≡ own.mine ++ more)
    rest_of [] idle = rest_idle [] idle
    rest_of (plan ∷ plans) (inl idle) = rest_idle (plan ∷ plans) idle
    rest_of (plan ∷ plans) (inr (inl waiting)) = rest_waiting plan plans waiting
    rest_of (plan ∷ plans) (inr (inr doubted)) = rest_doubted plan plans doubted

-- a `Busy` changes nothing of a caller's transactions
own_at : (caller : ℕ) (own : Own) (call : Call) (reply : Reply) (told : Heard) → ((own : Own) → fold (own_after caller) own (steps_of told) ≡ fold (own_after caller) own told)
    → fold (own_after caller) own (steps_of ((call, reply) ∷ told)) ≡ fold (own_after caller) own ((call, reply) ∷ told)
own_at caller own call says.Fine told rest = rest (own_after caller own (call, says.Fine))
own_at caller own call (says.Found v) told rest = rest (own_after caller own (call, says.Found v))
own_at caller own call says.Absent told rest = rest (own_after caller own (call, says.Absent))
own_at caller own call (says.Listed v) told rest = rest (own_after caller own (call, says.Listed v))
own_at caller own call (says.Saved v) told rest = rest (own_after caller own (call, says.Saved v))
own_at caller own call (says.Committed v) told rest = rest (own_after caller own (call, says.Committed v))
own_at caller own call (says.Purged v) told rest = rest (own_after caller own (call, says.Purged v))
own_at caller own call says.NoTransaction told rest = rest (own_after caller own (call, says.NoTransaction))
own_at caller own call says.NoTable told rest = rest (own_after caller own (call, says.NoTable))
own_at caller own call says.Already told rest = rest (own_after caller own (call, says.Already))
own_at caller own call (says.NoSave v) told rest = rest (own_after caller own (call, says.NoSave v))
own_at caller own call says.SavesFull told rest = rest (own_after caller own (call, says.SavesFull))
own_at caller own call (says.Busy v) told rest = rest (own_after caller own (call, says.Busy v))
own_at caller own call (says.LogFull l h n) told rest = rest (own_after caller own (call, says.LogFull l h n))
own_at caller own call (says.SlotsFull v) told rest = rest (own_after caller own (call, says.SlotsFull v))
own_at caller own call (says.PagesFull v) told rest = rest (own_after caller own (call, says.PagesFull v))
own_at caller own call says.Media told rest = rest (own_after caller own (call, says.Media))
own_at caller own call says.Dead told rest = rest (own_after caller own (call, says.Dead))
own_at caller own call (says.Damaged v) told rest = rest (own_after caller own (call, says.Damaged v))
own_at caller own call says.NoMemory told rest = rest (own_after caller own (call, says.NoMemory))

steps_own : (caller : ℕ) (told : Heard) (own : Own) → fold (own_after caller) own (steps_of told) ≡ fold (own_after caller) own told
steps_own caller [] own = refl
steps_own caller ((call, reply) ∷ told) own = own_at caller own call reply told (steps_own caller told)

-- what is told and is no `Busy` came of a turn
step_at : (call : Call) (reply : Reply) (told : Heard) (entry : Call × Reply) → is_busy entry.1 ≡ false → (b : Bool) → is_busy reply ≡ b → (Contains told entry → Contains (steps_of told) entry)
    → Contains ((call, reply) ∷ told) entry → Contains (if not b then (call, reply) ∷ steps_of told else steps_of told) entry
step_at call reply told entry free b is later there = ⊎_elim
    (λ (here : Contains ((call, reply) ∷ []) entry). ⊎_elim
    (λ (none : Contains [] entry). none_here entry none)
    (λ (same : (call, reply) ≡ entry). first b is same)
    (Contains-push_cases [] (call, reply) entry here))
    (λ (behind : Contains told entry). more b (later behind))
    (Contains-append_cases ((call, reply) ∷ []) told entry there)
  where
    more : (b : Bool) → Contains (steps_of told) entry → Contains (if not b then (call, reply) ∷ steps_of told else steps_of told) entry
    more true there = there
    more false there = Contains-append_right ((call, reply) ∷ []) (steps_of told) entry there

    first : (b : Bool) → is_busy reply ≡ b → (call, reply) ≡ entry → Contains (if not b then (call, reply) ∷ steps_of told else steps_of told) entry
    first true busy same = absurd (true≢false (sym busy ∙ ap (λ (e : Call × Reply). is_busy e.1) same ∙ free))
    first false busy same = Contains-append_left ((call, reply) ∷ []) (steps_of told) entry (subst (λ (e : Call × Reply). Contains ((call, reply) ∷ []) e) same (one_here (call, reply)))

steps_there : (told : Heard) (entry : Call × Reply) → is_busy entry.1 ≡ false → Contains told entry → Contains (steps_of told) entry
steps_there [] entry free there = there
steps_there ((call, reply) ∷ told) entry free there = step_at call reply told entry free (is_busy reply) refl (steps_there told entry free) there

pub fated : (limits : Limits) (caller : ℕ) (first now : State) (turns : List Turn) → Runs limits first turns now → first.live caller ≡ None → first.offers caller ≡ unoffered → commits_of caller first.history ≡ [] → first.doubt ≡ [] → (tries : Tries) (plans : List Plan)
    (fates : List Fate) (stopped : Option Reply) → (work : IsWorkOf tries plans (turns_of caller turns) fates stopped) → AreOnTables work.0 → AreFated (turns_of caller turns) plans fates (commits_of caller now.history) (commits_of caller now.doubt)
fated limits caller first now turns run none free nothing certain tries plans fates stopped work tables =
    let said = turns_of caller turns in
    let goes = turns_of_runs limits first now turns run in
    let lawful = lawful_run caller limits turns first now nothing_own run (fresh_live caller first none free) in
    let all = steps_said caller work.0 nothing_own tables (subst (λ (l : Heard). AreLawful caller nothing_own l) work.1 lawful) in
    let within : (entry : Call × Reply) → is_busy entry.1 ≡ false → Contains work.0 entry → Contains said entry = λ entry free there. subst (λ (l : Heard). Contains l entry) (sym work.1) (steps_there work.0 entry free there) in
    let its = work_adds caller said tries plans work.0 fates stopped work.2 nothing_own all within (record { live = refl; idle = record { waits = refl; doubt = refl } }) in
    let own : Own = fold (own_after caller) nothing_own work.0 in
    let same : fold (own_after caller) nothing_own said ≡ own = ap (λ (l : Heard). fold (own_after caller) nothing_own l) work.1 ∙ steps_own caller work.0 nothing_own in
    let known = turns_mine limits caller first now turns nothing_own goes (fresh_mine caller first none free nothing) in
    let doubted = turns_doubt limits caller first now turns nothing_own goes (fresh_doubt caller first none free certain) in
    let rest = rest_of caller said own now (subst (λ (o : Own). KnowsLive caller o now) same known.live) (doubted.doubt ∙ ap (λ (o : Own). doubt_in o (now.offers caller)) same) (drop (length fates) plans) its.leaves in
    let mine : told_of caller now.history ≡ its.mine ++ rest.0 = known.mine ∙ ap (λ (o : Own). mine_in caller o (now.offers caller)) same ∙ rest.2 ∙ ap (λ (l : List Done). l ++ rest.0) its.is in
    fated_as caller said plans fates (commits_of caller now.history) (commits_of caller now.doubt)
    (subst (λ (l : List Done). AreFated said plans fates l (commits_of caller now.doubt)) (sym mine) (fated_more caller said plans fates its.mine rest.0 (commits_of caller now.doubt) its.told rest.1))

-- Whoever was not stopped has a fate for each plan.
all_works : (tries : Tries) (plans : List Plan) (told : Heard) (fates : List Fate) → Works tries plans told fates None → length fates ≡ length plans
all_works tries [] told [] works = refl
all_works tries [] told (fate ∷ fates) works = absurd works
all_works tries (plan ∷ plans) told [] (reply, is, made) = absurd (cc)
all_works tries (plan ∷ plans) told (fate ∷ fates) (front, back, is, made, works) = ap suc (all_works tries plans back fates works)

few_works : (tries : Tries) (plans : List Plan) (told : Heard) (fates : List Fate) (stopped : Option Reply) → Works tries plans told fates stopped → length (drop (length fates) plans) + length fates ≡ length plans
few_works tries plans told [] stopped works = omega arith
few_works tries [] told (fate ∷ fates) stopped works = absurd works
few_works tries (plan ∷ plans) told (fate ∷ fates) stopped (front, back, is, made, works) = let rest = few_works tries plans back fates stopped works in omega (arith, rest)

pub whole : (tries : Tries) (plans : List Plan) (told : Heard) (fates : List Fate) → IsWork tries plans told fates None → length fates ≡ length plans
whole tries plans told fates (inl works) = all_works tries plans told fates works
whole tries plans told fates (inr (front, back, early, late, holder, is, are, first, last)) =
    omega (arith, ap (λ (l : List Fate). length l) are, length-append early late, few_works tries plans front early (Some (says.Busy holder)) first, all_works NoLimit (drop (length early) plans) back late last)
