use Rattle.std.proofs.Common.{◌≡◌, ◌≤◌, ◌+◌, ◌-◌, ◌*◌, ◌%◌, ℕ, zero, suc, Bool, true, false, cond, inl, inr, List, [], ◌∷◌, length, nat_eq, refl, ap, ◌∙◌, arith}
use Rattle.std.proofs.lemmas.Bool.{cases_lt, leb-true}
use Rattle.std.proofs.lemmas.Grind.{div_ceil_times}
use Rattle.array_shape.specs.declared.shape.Shape.{Shape}
use Rattle.array_shape.specs.Places.{logger_of}
use Rattle.array_shape.specs.Parts.{page_left, first_parts, parts_of, is_part_on}
use Rattle.array_shape.proofs.Cutting.{filter_few}
use Rattle.write_back.specs.Entries.{cells_on}
use Rattle.write_back.specs.declared.entry.Entry.{Entry}
use Rattle.eaw_device.proofs.Keeping.{length-cells_on_kept}
use Rattle.eaw_device.proofs.staging.has_room.Goals as goal

-- a logger has no more cells than there are entries
cells_few : (shape : Shape) (g : ℕ) (es : List Entry) → length (cells_on shape g es) ≤ length es
cells_few shape g [] = omega arith
cells_few shape g (e ∷ es) = few (nat_eq (logger_of shape e.addr) g) (cells_few shape g es)
  where
    few : (on : Bool) → length (cells_on shape g es) ≤ length es → length (cond on (e.cell ∷ cells_on shape g es) (cells_on shape g es)) ≤ suc (length es)
    few true le = omega arith
    few false le = omega arith

module _ (shape : Shape) where
  -- the parts of a range fill their pages but for the first and the last
  first_parts_few : (n addr len : ℕ) → 512 * length (first_parts shape n addr len) ≤ addr % 512 + len + 511
  first_parts_few zero addr len = omega arith
  first_parts_few (suc n) addr zero = omega arith
  first_parts_few (suc n) addr (suc len) = elim (cases_lt (page_left addr) (suc len)) [
    | inl lt ↦ omega (arith, first_parts_few n (addr + page_left addr) (suc len - page_left addr))
    | inr le ↦ (let none : suc len - page_left addr ≡ 0 = omega arith in omega (arith, ap (λ (k : ℕ). length (first_parts shape n (addr + page_left addr) k)) none ∙ ap length (no_parts n (addr + page_left addr))))
  ]
    where
      no_parts : (n addr : ℕ) → first_parts shape n addr 0 ≡ []
      no_parts zero addr = refl
      no_parts (suc n) addr = refl

  parts_of_few : (addr len : ℕ) → 512 * length (parts_of shape addr len) ≤ addr % 512 + len + 511
  unfolding parts_of
  parts_of_few addr len = first_parts_few len addr len

pub returns : goal.returns
returns c = λ fits g lt.
    let log = c.args.log.now in
    let all : length log.entries.items + c.div_ceil-parts.result ≤ c.args.shape.now.entries = omega (arith, leb-true (c.len.result + c.div_ceil-parts.result) c.from.result fits) in
    let enough = (div_ceil_times (c.args.addr % 512 + c.args.len) 512 (omega arith)).0 in
    omega (
      arith,
      all,
      length-cells_on_kept c.args.shape.now log g c.requires.kept lt,
      cells_few c.args.shape.now g log.entries.items,
      filter_few (is_part_on g) (parts_of c.args.shape.now c.args.addr c.args.len),
      parts_of_few c.args.shape.now c.args.addr c.args.len,
      enough,
    )
