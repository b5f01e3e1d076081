-- What a read as a number costs, and what a command does as pages tell it.
use Rattle.std.proofs.Common.{◌≡◌, ℕ, zero, suc, ◌+◌, ◌<◌, ◌≤◌, Bool, true, false, List, [], ◌∷◌, length, take, Result, Ok, Err, refl, ◌∙◌, ap, subst, arith}
use Rattle.std.specs.Prelude.{min, max, if◌then◌else◌, Option, Some, None, is_some}
use Rattle.std.specs.Option.{option_map}
use Rattle.mars_base.specs.Costs.{Costs}
use Rattle.std.proofs.lemmas.Bool.Decides.{nat_tests}
use Rattle.std.proofs.Math.Seq.{take-length}
use Rattle.eaw_face.specs.Command.{Command, log_read}
use Rattle.eaw_face.specs.State.{range_at}
use Rattle.eaw_face.specs.declared.fault.EawFault.{EawFault}
use Rattle.page_store.specs.Device.{device_cost}
use Rattle.page_store.specs.Told.{TellsAs}
use Rattle.page_store.specs.declared.fault.PageFault.{PageFault}
use Rattle.page_store.specs.Reads.{overlap, lay_cost, laid_cost}

-- a part that does not meet the range costs nothing, and one that does a read of the log
module _ (calls : Command → ℕ) (t addr len start count first last : ℕ) (first_is : first ≡ max start addr) (last_is : last ≡ min (start + count) (addr + len)) where
  pub missed_cost : last ≤ first → lay_cost calls t (addr, len) (start, count) ≡ 0
  missed_cost le = let b : overlap (addr, len) (start, count) ≡ false = grind (arith, nat_tests, first_is, last_is, le) in (rw b refl)

  pub met_cost : first < last → lay_cost calls t (addr, len) (start, count) ≡ calls (log_read t)
  met_cost lt = let b : overlap (addr, len) (start, count) ≡ true = grind (arith, nat_tests, first_is, last_is, lt) in (rw b refl)

module _ (calls : Command → ℕ) (t : ℕ) (r : ℕ × ℕ) where
  -- one part more
  pub laid_more : (parts : List (ℕ × ℕ)) (n : ℕ) → n < length parts → laid_cost calls t r (take (n + 1) parts) ≡ laid_cost calls t r (take n parts) + lay_cost calls t r (range_at parts n)
  laid_more parts n lt = subst (λ (m : ℕ). laid_cost calls t r (take m parts) ≡ laid_cost calls t r (take n parts) + lay_cost calls t r (range_at parts n)) (let e : suc n ≡ n + 1 = omega arith in e) (more parts n lt)
    where
      more : (parts : List (ℕ × ℕ)) (n : ℕ) → n < length parts → laid_cost calls t r (take (suc n) parts) ≡ laid_cost calls t r (take n parts) + lay_cost calls t r (range_at parts n)
      more [] n lt = absurd (omega (arith, lt))
      more (p ∷ ps) zero lt = omega arith
      more (p ∷ ps) (suc n) lt = omega (arith, more ps n (omega (arith, lt)))

  -- some of them cost no more than all
  pub laid_most : (parts : List (ℕ × ℕ)) (n : ℕ) → laid_cost calls t r (take n parts) ≤ laid_cost calls t r parts
  laid_most [] zero = omega arith
  laid_most [] (suc n) = omega arith
  laid_most (p ∷ ps) zero = omega arith
  laid_most (p ∷ ps) (suc n) = omega (arith, laid_most ps n)

  pub laid_all : (parts : List (ℕ × ℕ)) (n : ℕ) → n ≡ length parts → laid_cost calls t r (take n parts) ≡ laid_cost calls t r parts
  laid_all parts n is = ap (λ (m : ℕ). laid_cost calls t r (take m parts)) is ∙ ap (laid_cost calls t r) (take-length parts)

  pub lay_same : (other : Command → ℕ) (part : ℕ × ℕ) → ((command : Command) → other command ≡ calls command) → lay_cost other t r part ≡ lay_cost calls t r part
  lay_same other part same = ap (λ (n : ℕ). if overlap r part then n else 0) (same (log_read t))

-- the same calls, with the answer as pages tell it
pub costs_told : {T U : Type 0} (exact : Bool) (calls before now : ℕ) (r : Result T EawFault) (s : Result U PageFault) → TellsAs r s → Costs exact calls before now r → Costs exact calls before now s
costs_told exact calls before now (Ok x) (Ok y) tells costs = record { done = λ e. costs.done e; most = costs.most }
costs_told exact calls before now (Err f) (Err p) tells costs = record { done = λ e. tt; most = costs.most }
costs_told exact calls before now (Ok x) (Err p) tells costs = absurd tells
costs_told exact calls before now (Err f) (Ok y) tells costs = absurd tells

-- a command that is made if the number is live
pub live_cost : {A : Type 0} (calls : Command → ℕ) (command : Command) (o : Option A) → true ≡ is_some o → device_cost calls (option_map (λ x. command) o) ≡ calls command
live_cost calls command None is = absurd (cc)
live_cost calls command (Some x) is = refl

pub free_cost : {A : Type 0} (calls : Command → ℕ) (command : Command) (o : Option A) → false ≡ is_some o → device_cost calls (option_map (λ x. command) o) ≡ 0
free_cost calls command None is = refl
free_cost calls command (Some x) is = absurd (cc)
