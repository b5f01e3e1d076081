-- The group of one number: what its commit writes, and what it costs.
use Rattle.std.proofs.Common.{◌≡◌, ◌≢◌, ℕ, zero, suc, ◌+◌, ◌*◌, ◌-◌, ◌^◌, ◌%◌, ◌<◌, ◌≤◌, min, Bool, true, false, cond, ◌&&◌, nat_eq, inl, inr, ⊎_elim, List, [], length, take, drop, refl, sym, ◌∙◌, ap, subst, arith}
use Rattle.std.specs.Prelude.{nat_lt, slice_index}
use Rattle.std.specs.List.{range_with_len}
use Rattle.std.specs.Int.{bit_at}
use Rattle.std.proofs.lemmas.Bool.{cases_eq, cases_lt, eq-eqb, ne_eqb, eqb-true, lt-ltb, le-ltb, false≢true}
use Rattle.std.proofs.lemmas.Nat.Bits.{bit_at-pow_same, bit_at-pow_other}
use Rattle.std.proofs.lemmas.Nat.{one_shl}
use Rattle.std.proofs.Math.Pow.{pow-lt}
use Rattle.array_shape.specs.declared.shape.Shape.{Shape}
use Rattle.array_shape.specs.Places.{media_len, data_len}
use Rattle.array_shape.specs.Logged.{Part, applied, AllPlaced, parts_at}
use Rattle.array_shape.specs.NumberSet.{has}
use Rattle.array_image.specs.Joined.{joined}
use Rattle.array_image.specs.Image.{cell_of, parts_from, IsGoodCell}
use Rattle.array_image.proofs.Joined.{joined_one}
use Rattle.coordinator.specs.declared.cells.Cells.{Cells}
use Rattle.coordinator.specs.Commits.{cells_in, takes_part}
use Rattle.eaw_face.specs.State.{count_on}
use Rattle.write_back.specs.declared.entry.Entry.{Entry}
use Rattle.eaw_device.specs.declared.log.Log.{Log}
use Rattle.eaw_device.specs.Logs.{IsKept, IsHeld}
use Rattle.write_back.specs.Entries.{ranges_in, parts_in, cells_on}
use Rattle.eaw_device.specs.Costs.{loggers_with}
use Rattle.eaw_device.specs.Groups.{HaveCells, HaveEntries, HaveParts, group_count}
use Rattle.eaw_device.proofs.Costing.{behind, ranges_counted}
use Rattle.eaw_device.proofs.Grouping.{cell_parts, group_parts, group_rows, total_same, total_zero, total_one, any_none, any_some, lists_in_turn}
use Rattle.eaw_device.proofs.Keeping.{last_cells}
use Rattle.eaw_device.proofs.LogParts.{first_at, count_at, few, named_good, named_here, named_placed}

pub has_own : (t : ℕ) → has (2 ^ t) t ≡ true
has_own t = eq-eqb (bit_at (2 ^ t) t) 1 (bit_at-pow_same t)

pub has_other : (t u : ℕ) → u ≢ t → has (2 ^ t) u ≡ false
has_other t u ne = ne_eqb (bit_at (2 ^ t) u) 1 (λ one. omega (arith, one, bit_at-pow_other t u ne))

-- the bit of a number of the array, as it is computed
pub own_bit : (shape : Shape) (t : ℕ) → t < shape.numbers → 1 * 2 ^ t % 2 ^ 64 ≡ 2 ^ t
own_bit shape t lt = one_shl t 64 (omega (arith, shape.in_range.most_numbers))

pub own_small : (shape : Shape) (t : ℕ) → t < shape.numbers → 1 * 2 ^ t % 2 ^ 64 < 2 ^ shape.numbers
own_small shape t lt = subst (λ (k : ℕ). k < 2 ^ shape.numbers) (sym (own_bit shape t lt)) (pow-lt lt)

only_own : (t u : ℕ) → has (2 ^ t) u ≡ true → u ≡ t
only_own t u so = elim (cases_eq u t) [ inl is ↦ is | inr ne ↦ absurd (false≢true (sym (has_other t u ne) ∙ so)) ]

abbrev pub one_if : Bool → ℕ
one_if b = cond b 1 0

pub some_or_none : (n : ℕ) → cond (nat_lt 0 n) 1 0 ≡ min n 1
some_or_none zero = refl
some_or_none (suc n) = ap (λ (b : Bool). cond b 1 0) (lt-ltb 0 (suc n) (omega arith)) ∙ omega arith

-- The table has in the places of number t the cells that its log has from the offset on.
module _ (shape : Shape) (t : ℕ) (small : t < shape.numbers) (log : Log) (kept : IsKept shape log) (offset : ℕ) (cells : List Cells)
    (here : (g : ℕ) → g < shape.loggers → cells_in cells g t ≡ record { first = length (cells_on shape g (take offset log.entries.items)); count = slice_index log.held g - length (cells_on shape g (take offset log.entries.items)) }) where
  first_is : (g : ℕ) → g < shape.loggers → (cells_in cells g t).first ≡ first_at shape [] t log kept offset g
  first_is g lt = ap (λ (c : Cells). c.first) (here g lt)

  count_is : (g : ℕ) → g < shape.loggers → (cells_in cells g t).count ≡ count_at shape [] t log kept offset g
  count_is g lt = ap (λ (c : Cells). c.count) (here g lt)

  at : (P : ℕ → Type 0) → P t → (u : ℕ) → has (2 ^ t) u ≡ true → P u
  at P own u so = subst P (sym (only_own t u so)) own

  pub alone_fits : HaveCells shape (2 ^ t) cells
  alone_fits g u lt lt' so = at (λ v. (cells_in cells g v).first + (cells_in cells g v).count ≤ shape.entries) (omega (arith, first_is g lt, count_is g lt, few shape [] t log kept offset g lt, kept.fits g lt)) u so

  pub alone_good : (image : List ℕ) → IsHeld shape image t log → HaveParts shape image (2 ^ t) cells
  alone_good image held g u e lt lt' so from below =
      let is = only_own t u so in
      let from' : (cells_in cells g t).first ≤ e = subst (λ v. (cells_in cells g v).first ≤ e) is from in
      let below' : e < (cells_in cells g t).first + (cells_in cells g t).count = subst (λ v. e < (cells_in cells g v).first + (cells_in cells g v).count) is below in
      subst (λ v. IsGoodCell shape g (cell_of shape image g v e)) (sym is) (named_good shape image t log kept offset held g e lt (omega (arith, from', first_is g lt)) (omega (arith, below', first_is g lt, count_is g lt)))

  pub alone_entries : (entries : ℕ → List Entry) → entries t ≡ drop offset log.entries.items → HaveEntries shape (2 ^ t) cells entries
  alone_entries entries its g u lt lt' so = at (λ v. cells_on shape g (entries v) ≡ range_with_len (cells_in cells g v).first (cells_in cells g v).count) own u so
    where
      from_first : 0 + first_at shape [] t log kept offset g ≡ (cells_in cells g t).first
      from_first = omega (arith, first_is g lt)

      own : cells_on shape g (entries t) ≡ range_with_len (cells_in cells g t).first (cells_in cells g t).count
      own = ap (cells_on shape g) its ∙ last_cells shape offset log.entries.items log.held kept.cells g lt ∙ (λ i. range_with_len (from_first i) (sym (count_is g lt) i))

  -- its list, and none of another number
  lists : List ℕ → ℕ → List Part
  lists image u = cond (nat_eq u t) (drop offset (parts_in shape image t log.entries.items)) []

  joined_list : (image : List ℕ) → joined (lists image) 0 shape.numbers ≡ drop offset (parts_in shape image t log.entries.items)
  unfolding lists
  joined_list image =
      joined_one (lists image) t 0 shape.numbers (omega arith) (omega arith) (λ u from lt ne. ap (λ (b : Bool). cond b (drop offset (parts_in shape image t log.entries.items)) []) (ne_eqb u t ne))
      ∙ ap (λ (b : Bool). cond b (drop offset (parts_in shape image t log.entries.items)) []) (eq-eqb t t refl)

  pub alone_applied : (image d : List ℕ) → IsHeld shape image t log → length image ≡ media_len shape → length d ≡ data_len shape
      → applied (group_parts shape image (2 ^ t) cells) d ≡ applied (drop offset (parts_in shape image t log.entries.items)) d
  unfolding lists
  alone_applied image d held long d_long =
      lists_in_turn shape image (2 ^ t) cells (lists image) d long alone_fits (alone_good image held) d_long (λ u lt. placed u (nat_eq u t)) (λ g u lt lt'. same g u lt (nat_eq u t) refl)
      ∙ ap (λ (ps : List Part). applied ps d) (joined_list image)
    where
      placed : (u : ℕ) (b : Bool) → AllPlaced shape (cond b (drop offset (parts_in shape image t log.entries.items)) [])
      placed u true = named_placed shape image t log kept offset held
      placed u false = tt

      same : (g u : ℕ) → g < shape.loggers → (b : Bool) → nat_eq u t ≡ b → parts_at shape g (cond b (drop offset (parts_in shape image t log.entries.items)) []) ≡ cell_parts shape image (2 ^ t) cells u g
      same g u lt true is =
          let own : u ≡ t = eqb-true u t is in
          named_here shape image t log kept offset held g lt
          ∙ (λ i. parts_from shape image g t (sym (first_is g lt) i) (sym (count_is g lt) i))
          ∙ sym (ap (λ (b : Bool). cond b (parts_from shape image g t (cells_in cells g t).first (cells_in cells g t).count) []) (has_own t))
          ∙ ap (λ (v : ℕ). cell_parts shape image (2 ^ t) cells v g) (sym own)
      same g u lt false is =
          sym (ap (λ (b : Bool). cond b (parts_from shape image g u (cells_in cells g u).first (cells_in cells g u).count) []) (has_other t u (λ own. false≢true (sym is ∙ eq-eqb u t own))))

  -- what it costs
  ranges : List (ℕ × ℕ)
  ranges = drop offset (ranges_in log.entries.items)

  counted : (g : ℕ) → g < shape.loggers → (cells_in cells g t).count ≡ count_on shape g ranges
  unfolding ranges
  counted g lt = count_is g lt ∙ sym (behind shape log kept offset g lt)

  takes : (g : ℕ) → g < shape.loggers → takes_part shape cells (2 ^ t) g ≡ nat_lt 0 (count_on shape g ranges)
  takes g lt = ⊎_elim
      (λ some.
      any_some shape.numbers (λ u. has (2 ^ t) u && nat_lt 0 (cells_in cells g u).count) t small ((λ i. has_own t i && nat_lt 0 (counted g lt i)) ∙ lt-ltb 0 (count_on shape g ranges) some)
      ∙ sym (lt-ltb 0 (count_on shape g ranges) some))
      (λ none.
      any_none shape.numbers (λ u. has (2 ^ t) u && nat_lt 0 (cells_in cells g u).count) (λ u lt'. one u (has (2 ^ t) u) refl (omega arith))
      ∙ sym (le-ltb 0 (count_on shape g ranges) (omega arith)))
      (cases_lt 0 (count_on shape g ranges))
    where
      one : (u : ℕ) (b : Bool) → has (2 ^ t) u ≡ b → count_on shape g ranges ≡ 0 → (b && nat_lt 0 (cells_in cells g u).count) ≡ false
      one u true so none = ap (λ (v : ℕ). nat_lt 0 (cells_in cells g v).count) (only_own t u so) ∙ ap (nat_lt 0) (counted g lt ∙ none)
      one u false so none = refl

  count_whole : group_count shape (2 ^ t) cells ≡ length ranges
  unfolding ranges
  count_whole =
      total_one _ shape.numbers t small (λ u lt ne. total_zero _ shape.loggers (λ g lt'. ap (λ (b : Bool). cond b (cells_in cells g u).count 0) (has_other t u ne)))
      ∙ total_same _ (λ g. count_on shape g ranges) shape.loggers (λ g lt. ap (λ (b : Bool). cond b (cells_in cells g t).count 0) (has_own t) ∙ counted g lt)
      ∙ ranges_counted shape shape.in_range ranges

  rows_whole : group_rows shape (2 ^ t) cells ≡ loggers_with shape ranges
  rows_whole =
      total_one _ shape.numbers t small (λ u lt ne. total_zero _ shape.loggers (λ g lt'. (λ i. one_if (takes_part shape cells (2 ^ t) g && has_other t u ne i)) ∙ no_one (takes_part shape cells (2 ^ t) g)))
      ∙ total_same _ (λ g. min (count_on shape g ranges) 1) shape.loggers (λ g lt. (λ i. one_if (takes g lt i && has_own t i)) ∙ so_one (nat_lt 0 (count_on shape g ranges)) ∙ some_or_none (count_on shape g ranges))
    where
      no_one : (b : Bool) → one_if (b && false) ≡ 0
      no_one true = refl
      no_one false = refl

      so_one : (b : Bool) → one_if (b && true) ≡ one_if b
      so_one true = refl
      so_one false = refl

  pub alone_rows : group_rows shape (2 ^ t) cells ≡ 1 * loggers_with shape (drop offset (ranges_in log.entries.items))
  unfolding ranges
  alone_rows = rows_whole ∙ one
    where
      one : loggers_with shape ranges ≡ 1 * loggers_with shape ranges
      one = omega arith

  pub alone_count : group_count shape (2 ^ t) cells ≡ length (drop offset (ranges_in log.entries.items))
  unfolding ranges
  alone_count = count_whole
