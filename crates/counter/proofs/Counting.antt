-- A number that is written into the log of a free number and committed.
use Rattle.std.proofs.Common.{◌≡◌, ℕ, ◌+◌, ◌^◌, ◌<◌, ◌≤◌, Bool, true, false, cond, inl, inr, ⊎_elim, List, [], ◌∷◌, ◌++◌, length, take, drop, Result, Ok, Err, refl, sym, ◌∙◌, ap, subst, arith, append_assoc}
use Rattle.std.specs.Prelude.{IsTrue, OnOk, Option, Some, None}
use Rattle.std.specs.Option.{option_map}
use Rattle.std.proofs.lemmas.Bool.{false≢true}
use Rattle.std.proofs.lemmas.List.{take_at, drop_at, length-append, length-take-le}
use Rattle.std.proofs.Math.Nat.{mul-le-mul_right}
use Rattle.mars_base.proofs.Going.{weaker, then}
use Rattle.byteorder.specs.Endian.{little_number, little_bytes}
use Rattle.byteorder.specs.Numbers.{little_number-reads_back, little_from-take}
use Rattle.array_shape.specs.declared.shape.Shape.{Shape}
use Rattle.array_shape.specs.Places.{IsShape, data_len}
use Rattle.array_shape.specs.Parts.{parts_of_write}
use Rattle.array_shape.specs.Logged.{applied, ranges_of}
use Rattle.array_shape.proofs.WriteParts.{one_write_part}
use Rattle.eaw_face.specs.State.{State, listed, count_on, is_range_on}
use Rattle.eaw_face.specs.StoreView.{StoreView, LeavesOnly}
use Rattle.eaw_face.specs.Command.{log_write, commit, after}
use Rattle.eaw_face.specs.Causes.{Cause}
use Rattle.eaw_face.proofs.Rooms.{first_unfit}
use Rattle.eaw_face.specs.Does.{IsEither, Becomes, Does}
use Rattle.eaw_face.specs.declared.fault.EawFault.{EawFault}
use Rattle.eaw_face.specs.declared.fault.EawFault.TheVariants.{UnknownTid, LogFull, Media, Dead}
use Rattle.counter.specs.Counts.{number_in, with_number, Counts, CountsEither, LeavesCount, IsIdle, IsBroken}

-- each array has room for the counter
pub roomy : (shape : Shape) → IsShape shape → 1032 ≤ data_len shape
roomy shape is = omega (arith, is.some_pages, mul-le-mul_right shape.pages is.some_loggers)

module _ (bytes : List ℕ) (n : ℕ) (long : 1032 ≤ length bytes) where
  front_is : length (take 1024 bytes) ≡ 1024
  front_is = length-take-le 1024 bytes (omega arith)

  apart : with_number bytes n ≡ take 1024 bytes ++ (little_bytes 8 n ++ drop 1032 bytes)
  apart = append_assoc (take 1024 bytes) (little_bytes 8 n) (drop 1032 bytes)

  -- the data is at the number, and the rest is as it was
  pub number_with : n < 2 ^ 64 → number_in (with_number bytes n) ≡ n
  number_with fits =
      little_from-take 0 8 8 (drop 1024 (with_number bytes n)) (omega arith)
      ∙ ap (λ (l : List ℕ). little_number 8 l) (ap (λ (l : List ℕ). drop 1024 l) apart ∙ drop_at (take 1024 bytes) (little_bytes 8 n ++ drop 1032 bytes) 1024 front_is)
      ∙ little_number-reads_back 8 n (drop 1032 bytes) fits

  pub front_with : take 1024 (with_number bytes n) ≡ take 1024 bytes
  front_with = ap (λ (l : List ℕ). take 1024 l) apart ∙ take_at (take 1024 bytes) (little_bytes 8 n ++ drop 1032 bytes) 1024 front_is

  pub rest_with : drop 1032 (with_number bytes n) ≡ drop 1032 bytes
  rest_with = drop_at (take 1024 bytes ++ little_bytes 8 n) (drop 1032 bytes) 1032 (length-append (take 1024 bytes) (little_bytes 8 n) ∙ ap (λ (k : ℕ). k + 8) front_is)

-- an image that opens with this data is at its number
pub counts_now : (Opens : List ℕ → List ℕ → Type 0) (bytes image : List ℕ) → Opens image bytes → Counts Opens bytes (number_in bytes) image
counts_now Opens bytes image opens = record { now = bytes; opens = opens; says = refl; front = refl; rest = refl }

pub counts_with : (Opens : List ℕ → List ℕ → Type 0) (bytes image : List ℕ) (n : ℕ) → 1032 ≤ length bytes → n < 2 ^ 64 → Opens image (with_number bytes n) → Counts Opens bytes n image
counts_with Opens bytes image n long fits opens =
    record { now = with_number bytes n; opens = opens; says = number_with bytes n long fits; front = front_with bytes n long; rest = rest_with bytes n long }

-- writing the counter takes one part
one_part : (n : ℕ) → parts_of_write 1024 (little_bytes 8 n) ≡ (1024, little_bytes 8 n) ∷ []
one_part n = one_write_part 1024 (little_bytes 8 n) (omega arith) (omega arith)

few : (shape : Shape) (g : ℕ) → count_on shape g ((1024, 8) ∷ []) ≤ 1
few shape g = by (is_range_on shape g (1024, 8))
  where
    by : (b : Bool) → length {A = ℕ × ℕ} (cond b ((1024, 8) ∷ []) []) ≤ 1
    by true = omega arith
    by false = omega arith

-- nothing is logged if there are no ranges
none_logged : {A B : Type 0} (f : List A → List B) (o : Option (List A)) → None ≡ option_map f o → o ≡ None
none_logged f None is = refl
none_logged f (Some l) is = cc

-- writing the counter is refused only if the medium has failed
pub write_broken : (old new : StoreView) (n : ℕ) (fault : EawFault) → IsShape old.shape → IsIdle old → (let r : Result ℕ EawFault = Err fault in Cause old (log_write 0 1024 (little_bytes 8 n)) new.faults r) → IsBroken old new fault
write_broken old new n (UnknownTid u) shaped idle cause = absurd (cause.1.0 (omega (arith, shaped.some_numbers)))
write_broken old new n (LogFull g h k) shaped idle cause =
    let full = first_unfit old.shape (listed (old.ranges 0)) (ranges_of (parts_of_write 1024 (little_bytes 8 n))) g h k cause.2 in
    let none : h ≡ 0 = full.held_is ∙ ap (λ (o : Option (List (ℕ × ℕ))). count_on old.shape g (listed o)) (idle cause.0) in
    let one : k ≡ count_on old.shape g ((1024, 8) ∷ []) = full.needed_is ∙ ap (λ (ps : List (ℕ × List ℕ)). count_on old.shape g (ranges_of ps)) (one_part n) in
    absurd (omega (arith, full.full, none, one, few old.shape g, shaped.some_entries))
write_broken old new n Media shaped idle cause = cause.3
write_broken old new n Dead shaped idle cause = cause

-- from the write to the log up to its commit
module _ (tells : Bool) (Opens : Shape → List ℕ → List ℕ → Type 0) (old mid new : StoreView) (n : ℕ) (idle : IsIdle old)
    (outlines : IsTrue tells → old.is_dead ≡ false → old.ranges 0 ≡ option_map ranges_of (old.state.logs 0))
    (k : ℕ) (first : let r : Result ℕ EawFault = Ok k in Does tells (Opens old.shape) (log_write 0 1024 (little_bytes 8 n)) old mid r)
    (r : Result (Unit {0}) EawFault) (second : Does tells (Opens mid.shape) (commit 0) mid new r) where
  mid_bytes : IsTrue tells → mid.state.bytes ≡ old.state.bytes
  mid_bytes told = ap (λ (s : State). s.bytes) (first.done.state told)

  mid_log : IsTrue tells → mid.state.logs 0 ≡ Some ((1024, little_bytes 8 n) ∷ [])
  mid_log told =
      let free : old.state.logs 0 ≡ None = none_logged ranges_of (old.state.logs 0) (sym (idle first.cause.0) ∙ outlines told first.cause.0) in
      ap (λ (s : State). s.logs 0) (first.done.state told)
      ∙ ap (λ (log : Option (List (ℕ × List ℕ))). Some (listed log ++ parts_of_write 1024 (little_bytes 8 n))) free ∙ ap (λ (ps : List (ℕ × List ℕ)). Some ps) (one_part n)

  committed : IsTrue tells → (after (commit 0) mid.state).bytes ≡ with_number old.state.bytes n
  committed told = λ i. applied (listed (mid_log told i)) (mid_bytes told i)

  written_by : (r : Result (Unit {0}) EawFault) → IsTrue tells → OnOk r (Becomes tells (commit 0) mid new) → OnOk r (new.state.bytes ≡ with_number old.state.bytes n)
  written_by (Ok x) told done = ap (λ (s : State). s.bytes) (done.state told) ∙ committed told
  written_by (Err e) told done = tt

  pub written : IsTrue tells → OnOk r (new.state.bytes ≡ with_number old.state.bytes n)
  written told = written_by r told second.done

  pub moments : IsTrue tells → LeavesOnly (IsEither (Opens old.shape) old.state.bytes (with_number old.state.bytes n)) old new
  moments told = then
      (weaker (λ image either. ⊎_elim (λ is. inl is) (λ is. inl is) either) (first.time told first.cause.0))
      (subst (λ (p : Shape × List ℕ × List ℕ). LeavesOnly (IsEither (Opens p.0) p.1 p.2) mid new) (λ i. (first.shape i, mid_bytes told i, committed told i)) (second.time told first.done.alive))

-- from the read up to the new number
pub raised : (Opens : Shape → List ℕ → List ℕ → Type 0) (old mid new : StoreView) (next : ℕ) → 1032 ≤ length old.state.bytes → next ≡ number_in old.state.bytes + 1 → next < 2 ^ 64
    → mid.shape ≡ old.shape → mid.state.bytes ≡ old.state.bytes → LeavesOnly (λ image. Opens old.shape image old.state.bytes) old mid
    → LeavesOnly (IsEither (Opens mid.shape) mid.state.bytes (with_number mid.state.bytes next)) mid new
    → LeavesOnly (CountsEither (Opens old.shape) old.state.bytes (number_in old.state.bytes)) old new
raised Opens old mid new next long is fits shape bytes first second =
    let there : LeavesOnly (IsEither (Opens old.shape) old.state.bytes (with_number old.state.bytes next)) mid new =
    subst (λ (p : Shape × List ℕ). LeavesOnly (IsEither (Opens p.0) p.1 (with_number p.1 next)) mid new) (λ i. (shape i, bytes i)) second in
    then
    (weaker (λ image opens. inl (counts_now (Opens old.shape) old.state.bytes image opens)) first)
    (weaker (λ image either. ⊎_elim
    (λ opens. inl (counts_now (Opens old.shape) old.state.bytes image opens))
    (λ opens. inr (subst (λ (n : ℕ). Counts (Opens old.shape) old.state.bytes n image) is (counts_with (Opens old.shape) old.state.bytes image next long fits opens)))
    either) there)

-- what may now be left of the data with the new number
pub left_now : (Opens : Shape → List ℕ → List ℕ → Type 0) (old mid new : StoreView) (next : ℕ) → 1032 ≤ length old.state.bytes → next < 2 ^ 64
    → mid.shape ≡ old.shape → mid.state.bytes ≡ old.state.bytes → new.shape ≡ mid.shape → new.state.bytes ≡ with_number mid.state.bytes next
    → ((image : List ℕ) → new.left_since new.moment image → Opens new.shape image new.state.bytes) → LeavesCount (Opens old.shape) old.state.bytes next new
left_now Opens old mid new next long fits shape bytes shape' bytes' only image left =
    counts_with (Opens old.shape) old.state.bytes image next long fits
    (subst (λ (p : Shape × List ℕ). Opens p.0 image p.1) (λ i. let shapes : new.shape ≡ old.shape = shape' ∙ shape in let same : new.state.bytes ≡ with_number old.state.bytes next = bytes' ∙ ap (λ (b : List ℕ). with_number b next) bytes in (shapes i, same i)) (only image left))

-- a fault after the read is a fault after its start
pub broken_on : (old mid new : StoreView) (fault : EawFault) → mid.is_dead ≡ false → mid.faults ≡ old.faults → IsBroken mid new fault → IsBroken old new fault
broken_on old mid new Media alive kept broken = omega arith
broken_on old mid new Dead alive kept broken = absurd (false≢true (sym alive ∙ broken))
broken_on old mid new (UnknownTid u) alive kept broken = absurd broken
broken_on old mid new (LogFull g h n) alive kept broken = absurd broken
