-- The commit of several logs at once: what it writes, and what it costs.
use Rattle.std.proofs.Common.{◌≡◌, ℕ, zero, suc, ◌+◌, ◌*◌, ◌-◌, ◌<◌, ◌≤◌, min, Bool, true, false, cond, ◌&&◌, inl, inr, List, [], ◌∷◌, ◌++◌, length, refl, sym, ◌∙◌, ap, arith}
use Rattle.std.specs.Prelude.{nat_lt, flat_map, filter}
use Rattle.std.proofs.lemmas.Bool.{cases_Bool, cases_eq, cases_lt, lt-ltb, false≢true}
use Rattle.std.proofs.lemmas.List.{length-append, nil_from_length}
use Rattle.std.proofs.lemmas.List.Elements.{filter-append}
use Rattle.std.proofs.Math.Nat.{add-mul}
use Rattle.array_shape.specs.declared.shape.Shape.{Shape}
use Rattle.array_shape.specs.Places.{media_len, data_len}
use Rattle.array_shape.specs.Logged.{Part, applied, AllPlaced, parts_at}
use Rattle.array_shape.specs.NumberSet.{has, numbers_from, numbers_in}
use Rattle.array_image.specs.Joined.{joined}
use Rattle.array_image.specs.Image.{parts_from}
use Rattle.array_image.proofs.Joined.{joined_same, joined_past, joined_more}
use Rattle.coordinator.specs.declared.cells.Cells.{Cells}
use Rattle.coordinator.specs.Commits.{cells_in, takes_part}
use Rattle.coordinator.specs.Costs.{total}
use Rattle.eaw_face.specs.State.{is_range_on, count_on}
use Rattle.eaw_device.specs.Costs.{loggers_with}
use Rattle.eaw_device.specs.Groups.{HaveCells, HaveParts, group_count}
use Rattle.eaw_device.proofs.Alone.{one_if, some_or_none}
use Rattle.array_shape.proofs.Sets.{none_has}
use Rattle.eaw_device.proofs.Costing.{ranges_counted}
use Rattle.eaw_device.proofs.GroupBits.{same_bits}
use Rattle.eaw_device.proofs.Grouping.{group_parts, group_rows, total_more, total_same, total_zero, total_none, any_none, none_at, lists_in_turn}

-- lists of the numbers of a set, joined
picked : {A : Type 0} (bits : ℕ) (f : ℕ → List A) (k n : ℕ) → joined (λ u. cond (has bits u) (f u) []) k n ≡ flat_map f (numbers_from bits k n)
unfolding numbers_from
picked bits f k zero = refl
picked {A} bits f k (suc n) = ap (λ (rest : List A). cond (has bits k) (f k) [] ++ rest) (picked bits f (k + 1) n) ∙ one (has bits k)
  where
    one : (b : Bool) → cond b (f k) [] ++ flat_map f (numbers_from bits (k + 1) n) ≡ flat_map f (cond b (k ∷ numbers_from bits (k + 1) n) (numbers_from bits (k + 1) n))
    one true = refl
    one false = refl

-- as many as in all lists
total_joined : {A : Type 0} (f : ℕ → List A) (n : ℕ) → total (λ u. length (f u)) n ≡ length (joined f 0 n)
total_joined f zero = refl
total_joined f (suc n) =
    let same : 0 + n ≡ n = omega arith in
    total_more (λ u. length (f u)) n
    ∙ ap (λ (k : ℕ). k + length (f n)) (total_joined f n)
    ∙ sym (length-append (joined f 0 n) (f n))
    ∙ ap (λ (k : ℕ). length (joined f 0 n ++ f k)) (sym same)
    ∙ sym (ap length (joined_more f 0 n))

counted_joined : (shape : Shape) (g : ℕ) (f : ℕ → List (ℕ × ℕ)) (n : ℕ) → total (λ u. count_on shape g (f u)) n ≡ count_on shape g (joined f 0 n)
counted_joined shape g f zero = refl
counted_joined shape g f (suc n) =
    let same : 0 + n ≡ n = omega arith in
    total_more (λ u. count_on shape g (f u)) n
    ∙ ap (λ (k : ℕ). k + count_on shape g (f n)) (counted_joined shape g f n)
    ∙ sym (length-append (filter (is_range_on shape g) (joined f 0 n)) (filter (is_range_on shape g) (f n)))
    ∙ ap length (sym (filter-append (is_range_on shape g) (joined f 0 n) (f n)))
    ∙ ap (λ (k : ℕ). count_on shape g (joined f 0 n ++ f k)) (sym same)
    ∙ sym (ap (count_on shape g) (joined_more f 0 n))

total_times : (p : ℕ → Bool) (l n : ℕ) → total (λ u. cond (p u) l 0) n ≡ total (λ u. one_if (p u)) n * l
total_times p l zero = let none : 0 * l ≡ 0 = omega arith in sym none
total_times p l (suc n) =
    total_more (λ u. cond (p u) l 0) n
    ∙ ap (λ (k : ℕ). k + cond (p n) l 0) (total_times p l n)
    ∙ ap (λ (k : ℕ). total (λ u. one_if (p u)) n * l + k) (one (p n))
    ∙ sym (add-mul (total (λ u. one_if (p u)) n) (one_if (p n)) l)
    ∙ ap (λ (k : ℕ). k * l) (sym (total_more (λ u. one_if (p u)) n))
  where
    one : (b : Bool) → cond b l 0 ≡ one_if b * l
    one true = let same : 1 * l ≡ l = omega arith in sym same
    one false = let none : 0 * l ≡ 0 = omega arith in sym none

kept_one : (p : ℕ → Bool) (ts : List ℕ) → length (filter p ts) ≡ length (flat_map (λ t. cond (p t) (t ∷ []) []) ts)
kept_one p [] = refl
kept_one p (t ∷ ts) = one (p t) (kept_one p ts)
  where
    one : (b : Bool) → length (filter p ts) ≡ length (flat_map (λ t. cond (p t) (t ∷ []) []) ts) → length (cond b (t ∷ filter p ts) (filter p ts)) ≡ length (cond b (t ∷ []) [] ++ flat_map (λ t. cond (p t) (t ∷ []) []) ts)
    one true same = ap suc same
    one false same = same

-- The numbers of a set that have logged anything are a group.
module _ (shape : Shape) (bits group : ℕ) (ranges : ℕ → List (ℕ × ℕ)) (is : (u : ℕ) → u < shape.numbers → has group u ≡ (has bits u && nat_lt 0 (length (ranges u)))) (past : (u : ℕ) → shape.numbers ≤ u → ranges u ≡ []) where
  empty_at : (u : ℕ) → nat_lt 0 (length (ranges u)) ≡ false → ranges u ≡ []
  empty_at u none = nil_from_length (ranges u) (elim (cases_eq (length (ranges u)) 0) [ inl zero_len ↦ zero_len | inr some ↦ absurd (false≢true (sym none ∙ lt-ltb 0 (length (ranges u)) (omega arith))) ])

  -- lists that are empty for numbers that have logged nothing
  pub gathered : {A : Type 0} (f : ℕ → List A) → ((u : ℕ) → ranges u ≡ [] → f u ≡ []) → joined (λ u. cond (has group u) (f u) []) 0 shape.numbers ≡ flat_map f (numbers_in bits)
  gathered {A} f none =
      joined_same (λ u. cond (has group u) (f u) []) (λ u. cond (has bits u) (f u) []) 0 shape.numbers (λ u from lt. ap (λ (b : Bool). cond b (f u) []) (is u (omega arith)) ∙ one u (has bits u) (nat_lt 0 (length (ranges u))) refl)
      ∙ sym (joined_past (λ u. cond (has bits u) (f u) []) shape.numbers (64 - shape.numbers) (λ u from lt. ap (λ (l : List A). cond (has bits u) l []) (none u (past u from)) ∙ both (has bits u)))
      ∙ ap (joined (λ u. cond (has bits u) (f u) []) 0) whole
      ∙ picked bits f 0 64
    where
      whole : shape.numbers + (64 - shape.numbers) ≡ 64
      whole = omega (arith, shape.in_range.most_numbers)

      both : (b : Bool) → (let no : List A = [] in cond b no no ≡ no)
      both true = refl
      both false = refl

      one : (u : ℕ) (b some : Bool) → nat_lt 0 (length (ranges u)) ≡ some → cond (b && some) (f u) [] ≡ cond b (f u) []
      one u true true so = refl
      one u true false so = sym (none u (empty_at u so))
      one u false some so = refl

  -- if no number is in the group, there is nothing
  pub gathered_nothing : {A : Type 0} (f : ℕ → List A) → ((u : ℕ) → ranges u ≡ [] → f u ≡ []) → ((u : ℕ) → has group u ≡ false) → flat_map f (numbers_in bits) ≡ []
  gathered_nothing {A} f none no_one = sym (gathered f none) ∙ nothing 0 shape.numbers
    where
      nothing : (k n : ℕ) → joined (λ u. cond (has group u) (f u) []) k n ≡ []
      nothing k zero = refl
      nothing k (suc n) = λ i. cond (no_one k i) (f k) [] ++ nothing (k + 1) n i

  -- if nothing is logged, no number is in the group
  no_one : ((u : ℕ) → shape.numbers ≤ u → has group u ≡ false) → length (flat_map ranges (numbers_in bits)) ≡ 0 → (u : ℕ) → has group u ≡ false
  no_one beyond none u = elim (cases_lt u shape.numbers) [
    | inl lt ↦ elim (cases_Bool (has group u)) [
      | inl on ↦
          let its_len : length (ranges u) ≡ 0 = sym (ap (λ (b : Bool). length (cond b (ranges u) [])) on)
          ∙ total_none (λ v. length (cond (has group v) (ranges v) [])) shape.numbers (total_joined (λ v. cond (has group v) (ranges v) []) shape.numbers ∙ ap length (gathered ranges (λ v empty. empty)) ∙ none) u lt in
          absurd (false≢true (sym (is u lt ∙ ap (λ (k : ℕ). has bits u && nat_lt 0 k) its_len ∙ off (has bits u)) ∙ on))
      | inr out ↦ out
    ]
    | inr ge ↦ beyond u (omega (arith, ge))
  ]
    where
      off : (b : Bool) → (b && false) ≡ false
      off true = refl
      off false = refl

  pub some_gathered : ((u : ℕ) → shape.numbers ≤ u → has group u ≡ false) → (group ≡ 0 → ⊥) → 0 < length (flat_map ranges (numbers_in bits))
  some_gathered beyond ne = elim (cases_lt 0 (length (flat_map ranges (numbers_in bits)))) [
    | inl lt ↦ lt
    | inr ge ↦ absurd (ne (same_bits group 0 (λ u. no_one beyond (omega (arith, ge)) u ∙ sym (none_has u))))
  ]

  -- the parts
  module _ (image : List ℕ) (cells : List Cells) (parts : ℕ → List Part) (placed : (u : ℕ) → u < shape.numbers → AllPlaced shape (parts u)) (none : (u : ℕ) → ranges u ≡ [] → parts u ≡ [])
      (here : (g u : ℕ) → g < shape.loggers → u < shape.numbers → has group u ≡ true → parts_at shape g (parts u) ≡ parts_from shape image g u (cells_in cells g u).first (cells_in cells g u).count) where
    pub gathered_applied : (d : List ℕ) → length image ≡ media_len shape → HaveCells shape group cells → HaveParts shape image group cells → length d ≡ data_len shape
        → applied (group_parts shape image group cells) d ≡ applied (flat_map parts (numbers_in bits)) d
    gathered_applied d long fit good d_long =
        lists_in_turn shape image group cells (λ u. cond (has group u) (parts u) []) d long fit good d_long (λ u lt. its u lt (has group u)) (λ g u lt lt'. same g u lt lt' (has group u) refl)
        ∙ ap (λ (ps : List Part). applied ps d) (gathered parts none)
      where
        its : (u : ℕ) → u < shape.numbers → (b : Bool) → AllPlaced shape (cond b (parts u) [])
        its u lt true = placed u lt
        its u lt false = tt

        same : (g u : ℕ) → g < shape.loggers → u < shape.numbers → (b : Bool) → has group u ≡ b → parts_at shape g (cond b (parts u) []) ≡ cond b (parts_from shape image g u (cells_in cells g u).first (cells_in cells g u).count) []
        same g u lt lt' true so = here g u lt lt' so
        same g u lt lt' false so = refl

  -- the calls
  module _ (cells : List Cells) (count : (g u : ℕ) → g < shape.loggers → u < shape.numbers → has group u ≡ true → (cells_in cells g u).count ≡ count_on shape g (ranges u)) where
    lists : ℕ → List (ℕ × ℕ)
    lists u = cond (has group u) (ranges u) []

    all_ranges : List (ℕ × ℕ)
    all_ranges = flat_map ranges (numbers_in bits)

    lists_are : joined lists 0 shape.numbers ≡ all_ranges
    unfolding lists all_ranges
    lists_are = gathered ranges (λ u none. none)

    at_logger : (g u : ℕ) → g < shape.loggers → u < shape.numbers → (b : Bool) → has group u ≡ b → cond b (cells_in cells g u).count 0 ≡ count_on shape g (cond b (ranges u) [])
    at_logger g u lt lt' true so = count g u lt lt' so
    at_logger g u lt lt' false so = refl

    count_whole : group_count shape group cells ≡ length all_ranges
    unfolding lists all_ranges
    count_whole =
        total_same _ (λ u. length (lists u)) shape.numbers (λ u lt'.
        total_same _ (λ g. count_on shape g (lists u)) shape.loggers (λ g lt. at_logger g u lt lt' (has group u) refl) ∙ ranges_counted shape shape.in_range (lists u))
        ∙ total_joined lists shape.numbers ∙ ap length lists_are

    at_all : (g : ℕ) → g < shape.loggers → total (λ u. cond (has group u) (cells_in cells g u).count 0) shape.numbers ≡ count_on shape g all_ranges
    unfolding lists all_ranges
    at_all g lt = total_same _ (λ u. count_on shape g (lists u)) shape.numbers (λ u lt'. at_logger g u lt lt' (has group u) refl) ∙ counted_joined shape g lists shape.numbers ∙ ap (count_on shape g) lists_are

    none_here : (g u : ℕ) (b : Bool) → has group u ≡ b → cond b (cells_in cells g u).count 0 ≡ 0 → (b && nat_lt 0 (cells_in cells g u).count) ≡ false
    none_here g u true so none = ap (nat_lt 0) none
    none_here g u false so none = refl

    zero_here : (g u : ℕ) (b : Bool) → (b && nat_lt 0 (cells_in cells g u).count) ≡ false → cond b (cells_in cells g u).count 0 ≡ 0
    zero_here g u true none = elim (cases_eq (cells_in cells g u).count 0) [ inl is ↦ is | inr some ↦ absurd (false≢true (sym none ∙ lt-ltb 0 (cells_in cells g u).count (omega arith))) ]
    zero_here g u false none = refl

    takes : (g : ℕ) → g < shape.loggers → takes_part shape cells group g ≡ nat_lt 0 (count_on shape g all_ranges)
    takes g lt = elim (cases_eq (count_on shape g all_ranges) 0) [
      | inl none ↦
          any_none shape.numbers (λ u. has group u && nat_lt 0 (cells_in cells g u).count) (λ u lt'.
          none_here g u (has group u) refl (total_none (λ v. cond (has group v) (cells_in cells g v).count 0) shape.numbers (at_all g lt ∙ none) u lt'))
          ∙ sym (ap (nat_lt 0) none)
      | inr some ↦
          elim (cases_Bool (takes_part shape cells group g)) [
            | inl so ↦ so ∙ sym (lt-ltb 0 (count_on shape g all_ranges) (omega arith))
            | inr no_one ↦ absurd (some (sym (at_all g lt) ∙ total_zero (λ v. cond (has group v) (cells_in cells g v).count 0) shape.numbers (λ u lt'.
                zero_here g u (has group u) (none_at shape.numbers (λ v. has group v && nat_lt 0 (cells_in cells g v).count) no_one u lt'))))
          ]
    ]

    some_logged : ℕ → Bool
    some_logged u = nat_lt 0 (length (ranges u))

    members_are : total (λ u. one_if (has group u)) shape.numbers ≡ length (filter some_logged (numbers_in bits))
    unfolding some_logged
    members_are =
        total_same _ (λ u. length (cond (has group u) (cond (some_logged u) (u ∷ []) []) [])) shape.numbers (λ u lt. ap one_if (is u lt) ∙ one u (has bits u) (some_logged u) ∙ sym (ap (λ (b : Bool). length (cond b (cond (some_logged u) (u ∷ []) []) [])) (is u lt)))
        ∙ total_joined (λ u. cond (has group u) (cond (some_logged u) (u ∷ []) []) []) shape.numbers
        ∙ ap length (gathered (λ u. cond (some_logged u) (u ∷ []) []) (λ u none. ap (λ (l : List (ℕ × ℕ)). cond (nat_lt 0 (length l)) (u ∷ []) []) none))
        ∙ sym (kept_one some_logged (numbers_in bits))
      where
        one : (u : ℕ) (b some : Bool) → one_if (b && some) ≡ length (cond (b && some) (cond some (u ∷ []) []) [])
        one u true true = refl
        one u true false = refl
        one u false some = refl

    rows_whole : group_rows shape group cells ≡ length (filter some_logged (numbers_in bits)) * loggers_with shape all_ranges
    unfolding some_logged
    rows_whole =
        total_same _ (λ u. cond (has group u) (loggers_with shape all_ranges) 0) shape.numbers (λ u lt'. row u (has group u))
        ∙ total_times (λ u. has group u) (loggers_with shape all_ranges) shape.numbers
        ∙ ap (λ (n : ℕ). n * loggers_with shape all_ranges) members_are
      where
        with_true : (b : Bool) → one_if (b && true) ≡ one_if b
        with_true true = refl
        with_true false = refl

        with_false : (b : Bool) → one_if (b && false) ≡ 0
        with_false true = refl
        with_false false = refl

        row : (u : ℕ) (b : Bool) → total (λ g. one_if (takes_part shape cells group g && b)) shape.loggers ≡ cond b (loggers_with shape all_ranges) 0
        row u true = total_same _ (λ g. min (count_on shape g all_ranges) 1) shape.loggers (λ g lt. with_true (takes_part shape cells group g) ∙ ap one_if (takes g lt) ∙ some_or_none (count_on shape g all_ranges))
        row u false = total_zero _ shape.loggers (λ g lt. with_false (takes_part shape cells group g))

    pub gathered_rows : group_rows shape group cells ≡ length (filter (λ t. nat_lt 0 (length (ranges t))) (numbers_in bits)) * loggers_with shape (flat_map ranges (numbers_in bits))
    unfolding some_logged all_ranges
    gathered_rows = rows_whole

    pub gathered_count : group_count shape group cells ≡ length (flat_map ranges (numbers_in bits))
    unfolding all_ranges
    gathered_count = count_whole
