-- What calls of a file count.
use Rattle.std.specs.Prelude.{if◌then◌else◌, nat_le}
use Rattle.std.proofs.Common.{◌≡◌, ◌≢◌, ℕ, ◌+◌, ◌≤◌, Bool, ◌&&◌, inl, inr, Result, Ok, Err, ◌∙◌, ap, arith, ne_eqb}
use Rattle.mars_base.specs.Causes.{Rose, HasCause}
use Rattle.media_file.specs.declared.calls.CallFault.{CallFault}
use Rattle.media_file.specs.declared.calls.CallFault.TheVariants.{Interrupted, Failed}
use Rattle.media_file.specs.declared.call_faults.CallFaults.{CallFaults}
use Rattle.media_file.specs.Counted.{raised, after_answer, part_of, Tried}

-- a part that took some bytes counts nothing
pub part_taken : (len count : ℕ) (old new : CallFaults) → count ≢ 0 → new ≡ after_answer (part_of len (Ok count)) old → new ≡ old
part_taken len count old new some counted =
    let answer : Bool → Result ℕ CallFault = λ b. if b && nat_le 1 len then Err Failed else Ok count in
    counted ∙ ap (λ (b : Bool). after_answer (answer b) old) (ne_eqb count 0 some)

-- an interrupted part is counted as such
pub part_interrupted : (fault : CallFault) (old new : CallFaults) → fault ≡ Interrupted → (let answer : Result ℕ CallFault = Err fault in new ≡ after_answer answer old) → new ≡ record old { interrupted = raised old.interrupted }
part_interrupted fault old new is counted =
    let answer : CallFault → Result ℕ CallFault = λ f. Err f in
    counted ∙ ap (λ (f : CallFault). after_answer (answer f) old) is

-- a call of the medium that failed, by its own count and that of its file, to which nothing happened before the call of the file or after it
pub cause_failed : {T E : Type 0} (parts own more : ℕ) (old ticked asked new : CallFaults) (e : E) → ticked ≡ old → new ≡ asked → (let r : Result T E = Err e in Tried parts ticked asked r)
    → own ≤ more → Rose own more → (let r : Result T E = Err e in HasCause (own + old.failed) (more + new.failed) r)
cause_failed parts own more old ticked asked new e before after tried later rose =
    let first : ticked.failed ≡ old.failed = ap (λ (t : CallFaults). t.failed) before in
    let last : new.failed ≡ asked.failed = ap (λ (t : CallFaults). t.failed) after in
    elim tried [
      | inl one ↦ record { later = omega (arith, one, later, first, last); failed = omega (arith, one, later, rose, first, last); kept = tt }
      | inr none ↦ record { later = omega (arith, none.0, later, first, last); failed = omega (arith, none.0, later, rose, first, last); kept = tt }
    ]
