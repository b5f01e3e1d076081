-- What the steps of a command cost.
use Rattle.std.proofs.Common.{◌≡◌, ℕ, zero, suc, ◌+◌, ◌-◌, ◌<◌, Bool, false, Result, Ok, Err, List, length, take, drop, sym, ◌∙◌, ap, arith}
use Rattle.std.specs.Prelude.{slice_index, is_err}
use Rattle.std.proofs.lemmas.Bool.{false≢true}
use Rattle.mars_base.specs.Costs.{Costs}
use Rattle.std.proofs.lemmas.List.FromFn.{length-range_with_len, sum_by-map-range_with_len_more}
use Rattle.array_shape.specs.declared.shape.Shape.{Shape}
use Rattle.eaw_face.specs.State.{count_on}
use Rattle.eaw_device.specs.declared.log.Log.{Log}
use Rattle.eaw_device.specs.Logs.{IsKept}
use Rattle.write_back.specs.Entries.{ranges_in, cells_on}
use Rattle.coordinator.specs.Costs.{total}
use Rattle.array_shape.specs.Places.{IsShape, logger_of}
use Rattle.eaw_device.proofs.Dealt.{below, below_none, below_more, below_all}
use Rattle.eaw_device.proofs.Entries.{count_on-ranges_in, logger_small}
use Rattle.eaw_device.proofs.Keeping.{last_cells}
use Rattle.eaw_device.proofs.LogParts.{ranges_in-drop}

-- what a logger has of the parts from a position on
module _ (shape : Shape) (log : Log) (kept : IsKept shape log) (offset : ℕ) where
  pub behind : (g : ℕ) → g < shape.loggers → count_on shape g (drop offset (ranges_in log.entries.items)) ≡ slice_index log.held g - length (cells_on shape g (take offset log.entries.items))
  behind g lt =
      ap (count_on shape g) (sym (ranges_in-drop offset log.entries.items)) ∙ count_on-ranges_in shape g (drop offset log.entries.items)
      ∙ ap length (last_cells shape offset log.entries.items log.held kept.cells g lt) ∙ length-range_with_len _ _

-- each range has a logger
pub ranges_counted : (shape : Shape) (shaped : IsShape shape) (rs : List (ℕ × ℕ)) → total (λ g. count_on shape g rs) shape.loggers ≡ length rs
ranges_counted shape shaped rs = counted shape.loggers ∙ below_all (λ (r : ℕ × ℕ). logger_of shape r.0) rs shape.loggers (λ r. logger_small shape r.0 shaped)
  where
    counted : (n : ℕ) → total (λ g. count_on shape g rs) n ≡ below (λ (r : ℕ × ℕ). logger_of shape r.0) n rs
    counted zero = sym (below_none (λ (r : ℕ × ℕ). logger_of shape r.0) rs)
    counted (suc n) = let one : suc n ≡ n + 1 = omega arith in
        omega (arith, ap (total (λ g. count_on shape g rs)) one, sum_by-map-range_with_len_more (λ (k : ℕ). k) (λ g. count_on shape g rs) 0 n n (omega arith), counted n, below_more (λ (r : ℕ × ℕ). logger_of shape r.0) n rs, ap (λ (k : ℕ). below (λ (r : ℕ × ℕ). logger_of shape r.0) k rs) one)

-- from an answer that was Ok
pub costs_done : {T E U F : Type 0} (exact : Bool) (n calls before now : ℕ) (r : Result T E) (x : U) → is_err r ≡ false → n ≡ calls → Costs exact n before now r → (let s : Result U F = Ok x in Costs exact calls before now s)
costs_done exact n calls before now (Ok y) x fine is costs = record { done = λ told. let one = costs.done told in omega (arith, is, one); most = omega (arith, is, costs.most) }
costs_done exact n calls before now (Err e) x fine is costs = absurd (false≢true (sym fine))
