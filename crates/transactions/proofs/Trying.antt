-- Calls within a transaction, and how many begins there are among the calls of tries.
use Rattle.std.proofs.Common.{◌≡◌, ℕ, ◌+◌, ◌≤◌, Bool, false, cond, [], ◌∷◌, ◌++◌, refl, ◌∙◌, ap, arith}
use Rattle.std.specs.Prelude.{IsTrue, IsFalse, All}
use Rattle.std.specs.List.{count_by}
use Rattle.std.proofs.lemmas.Bool.{false≢true}
use Rattle.std.proofs.lemmas.List.Elements.{All-nil, All-cons, All-head, All-tail, All-append}
use Rattle.std.proofs.lemmas.List.Sums.{sum_by-append, sum_by-cons}
use Rattle.history.specs.declared.call.Call.{Call}
use Rattle.history.specs.declared.call.Call.TheVariants.{Begin}
use Rattle.history.specs.declared.call.Reply.{Reply}
use Rattle.caller_steps.specs.Run.{Heard}
use Rattle.caller_steps.specs.Step.{Step}
use Rattle.caller_steps.specs.Core.{CoreView}
use Rattle.transactions.specs.Went.{is_within, WentWithin}
use Rattle.transactions.specs.Tries.{is_begin, WentTries}
use Rattle.transactions.proofs.Going.{joined}

abbrev IsWithin : Call × Reply → Type 0
IsWithin entry = IsTrue (is_within entry.0)

pub within_one : (caller : ℕ) (old new : CoreView) (call : Call) (reply : Reply) → IsTrue (is_within call) → new.limits ≡ old.limits → Step old.limits old.state caller call reply new.state → WentWithin caller old new
within_one caller old new call reply within limits step =
    record { limits = limits; told = (call, reply) ∷ []; run = (new.state, step, refl); within = All-cons IsWithin (call, reply) [] within (All-nil IsWithin) }

pub within_on : (caller : ℕ) (old mid new : CoreView) → WentWithin caller old mid → WentWithin caller mid new → WentWithin caller old new
within_on caller old mid new a b = record {
  limits = b.limits ∙ a.limits;
  told = a.told ++ b.told;
  run = joined caller old mid new a.told b.told a.limits a.run b.run;
  within = All-append IsWithin a.told b.told a.within b.within;
}

abbrev begins : Heard → ℕ
begins told = count_by (λ (entry : Call × Reply). is_begin entry.0) told

begins_no : (call : Call) → IsTrue (is_within call) → is_begin call ≡ false
begins_no Begin within = absurd (false≢true within)
begins_no call within = refl

begins_append : (one other : Heard) → begins (one ++ other) ≡ begins one + begins other
begins_append one other = sum_by-append _ one other

begins_cons : (call : Call) (reply : Reply) (told : Heard) → is_begin call ≡ false → begins ((call, reply) ∷ told) ≡ begins told
begins_cons call reply told still =
    let once : Bool → ℕ = λ b. cond b 1 0 in
    let none : once (is_begin call) ≡ 0 = ap once still in
    omega (arith, sum_by-cons (λ (entry : Call × Reply). cond (is_begin entry.0) 1 0) (call, reply) told, none)

begins_none : (told : Heard) → All IsWithin told → begins told ≡ 0
begins_none [] within = refl
begins_none (entry ∷ told) within = begins_cons entry.0 entry.1 told (begins_no entry.0 (All-head IsWithin entry told within)) ∙ begins_none told (All-tail IsWithin entry told within)

-- calls within a transaction are no try,
pub tries_none : (caller : ℕ) (old new : CoreView) → WentWithin caller old new → WentTries 0 caller old new
tries_none caller old new w = record { told = w.told; run = w.run; few = let none = begins_none w.told w.within in omega (arith, none) }

-- nor is a call that begins nothing,
pub tries_still : (caller : ℕ) (old new : CoreView) (call : Call) (reply : Reply) → IsFalse (is_begin call) → Step old.limits old.state caller call reply new.state → WentTries 0 caller old new
tries_still caller old new call reply still step =
    let none : begins ((call, reply) ∷ []) ≡ 0 = begins_cons call reply [] still in
    record { told = (call, reply) ∷ []; run = (new.state, step, refl); few = omega (arith, none) }

-- a begin is one,
pub tries_one : (caller : ℕ) (old new : CoreView) (reply : Reply) → Step old.limits old.state caller Begin reply new.state → WentTries 1 caller old new
tries_one caller old new reply step =
    let single : begins ((Begin, reply) ∷ []) ≡ 1 = refl in
    record { told = (Begin, reply) ∷ []; run = (new.state, step, refl); few = omega (arith, single) }

-- and tries after others add up
pub tries_on : (n m caller : ℕ) (old mid new : CoreView) → mid.limits ≡ old.limits → WentTries n caller old mid → WentTries m caller mid new → WentTries (n + m) caller old new
tries_on n m caller old mid new limits a b = record {
  told = a.told ++ b.told;
  run = joined caller old mid new a.told b.told limits a.run b.run;
  few = let x = a.few in let y = b.few in omega (arith, x, y, begins_append a.told b.told);
}

pub tries_few : (n m caller : ℕ) (old new : CoreView) → WentTries n caller old new → n ≤ m → WentTries m caller old new
tries_few n m caller old new w le = record { told = w.told; run = w.run; few = let x = w.few in omega (arith, x, le) }
