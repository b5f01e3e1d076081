-- The parts of a range and the parts of a write, one after another.
use Rattle.std.proofs.Common.{◌≡◌, ℕ, zero, suc, ◌+◌, ◌-◌, ◌*◌, ◌%◌, ◌^◌, ◌<◌, ◌≤◌, Bool, true, false, cond, nat_eq, inl, inr, min, List, [], ◌∷◌, ◌++◌, length, take, drop, map, refl, length-drop, sym, ◌∙◌, ap, subst, arith}
use Rattle.std.proofs.lemmas.Bool.{cases_lt}
use Rattle.std.proofs.lemmas.List.{take_min, drop-drop, length-take, take-append-drop}
use Rattle.std.specs.List.{flat_map}
use Rattle.std.proofs.lemmas.List.Elements.{All-nil, All-cons}
use Rattle.std.proofs.lemmas.Nat.{mul-le}
use Rattle.std.specs.Prelude.{All, filter}
use Rattle.array_shape.specs.declared.shape.Shape.{Shape}
use Rattle.array_shape.specs.declared.part.Part.{Part}
use Rattle.array_shape.specs.Places.{logger_of, data_len, IsPlaced}
use Rattle.array_shape.specs.Parts.{page_left, first_parts, parts_of, Tile, AreCutAtPages, IsPartOf, first_parts_of_write, parts_of_write, part_of_write, is_part_on, parts_on, is_write_part_on, write_parts_on}

-- the first part of a nonempty range
abbrev pub first_part : Shape → ℕ → ℕ → Part
first_part shape addr len = record { logger = logger_of shape addr; addr = addr; len = min (page_left addr) len }

abbrev BeginsPage : Part → Type 0
BeginsPage part = part.addr % 512 ≡ 0

module _ (shape : Shape) where
  -- a longer count of parts adds none
  first_parts-more : (n m addr len : ℕ) → len ≤ n → len ≤ m → first_parts shape n addr len ≡ first_parts shape m addr len
  first_parts-more zero zero addr len le le' = refl
  first_parts-more zero (suc m) addr zero le le' = refl
  first_parts-more zero (suc m) addr (suc len) le le' = absurd (omega arith)
  first_parts-more (suc n) zero addr zero le le' = refl
  first_parts-more (suc n) zero addr (suc len) le le' = absurd (omega arith)
  first_parts-more (suc n) (suc m) addr zero le le' = refl
  first_parts-more (suc n) (suc m) addr (suc len) le le' =
      ap (λ (ps : List Part). first_part shape addr (suc len) ∷ ps) (first_parts-more n m (addr + page_left addr) (suc len - page_left addr) (omega arith) (omega arith))

  first_parts-none : (n addr : ℕ) → first_parts shape n addr 0 ≡ []
  first_parts-none zero addr = refl
  first_parts-none (suc n) addr = refl

  pub parts_of-none : (addr : ℕ) → parts_of shape addr 0 ≡ []
  unfolding parts_of
  parts_of-none addr = refl

  pub parts_of-some : (addr len : ℕ) → 0 < len → parts_of shape addr len ≡ first_part shape addr len ∷ parts_of shape (addr + page_left addr) (len - page_left addr)
  unfolding parts_of
  parts_of-some addr zero lt = absurd (omega arith)
  parts_of-some addr (suc len) lt =
      ap (λ (ps : List Part). first_part shape addr (suc len) ∷ ps) (first_parts-more len (suc len - page_left addr) (addr + page_left addr) (suc len - page_left addr) (omega arith) (omega arith))

  parts_of-no_more : (addr addr' len len' : ℕ) → len ≡ 0 → len' ≡ 0 → parts_of shape addr len ≡ parts_of shape addr' len'
  parts_of-no_more addr addr' len len' none none' =
      ap (parts_of shape addr) none ∙ parts_of-none addr ∙ sym (ap (parts_of shape addr') none' ∙ parts_of-none addr')

  -- the same, with the address at which the first part ends
  pub parts_of-next : (addr len : ℕ) → 0 < len → parts_of shape addr len ≡ first_part shape addr len ∷ parts_of shape (addr + min (page_left addr) len) (len - min (page_left addr) len)
  parts_of-next addr len lt =
      parts_of-some addr len lt
      ∙ ap (λ (ps : List Part). first_part shape addr len ∷ ps) (elim (cases_lt len (page_left addr)) [
        | inl lt' ↦ parts_of-no_more (addr + page_left addr) (addr + min (page_left addr) len) (len - page_left addr) (len - min (page_left addr) len) (omega arith) (omega arith)
        | inr le ↦ (let whole : page_left addr ≡ min (page_left addr) len = omega arith in ap (λ (k : ℕ). parts_of shape (addr + k) (len - k)) whole)
      ])

  -- the step of an iterator
  pub parts_of-step : (addr left len logger : ℕ) → (left ≡ 0 → ⊥) → len ≡ min (page_left addr) left → logger ≡ logger_of shape addr
      → parts_of shape addr left ≡ record { logger = logger; addr = addr; len = len } ∷ parts_of shape (addr + len) (left - len)
  parts_of-step addr left len logger some len_is logger_is =
      parts_of-next addr left (omega arith)
      ∙ (λ i. record { logger = sym logger_is i; addr = addr; len = sym len_is i } ∷ parts_of shape (addr + sym len_is i) (left - sym len_is i))

  first_tile : (n addr len : ℕ) → len ≤ n → Tile addr len (first_parts shape n addr len)
  first_tile zero addr len le = omega arith
  first_tile (suc n) addr zero le = refl
  first_tile (suc n) addr (suc len) le = elim (cases_lt (suc len) (page_left addr)) [
    | inl lt ↦ (
      refl,
      omega arith,
      subst (Tile (addr + min (page_left addr) (suc len)) (suc len - min (page_left addr) (suc len)))
          (let none : 0 ≡ suc len - page_left addr = omega arith in sym (first_parts-none n (addr + page_left addr)) ∙ ap (first_parts shape n (addr + page_left addr)) none)
          (let done : suc len - min (page_left addr) (suc len) ≡ 0 = omega arith in done),
    )
    | inr le' ↦ (let whole : page_left addr ≡ min (page_left addr) (suc len) = omega arith in
        (refl, omega arith, subst (λ (k : ℕ). Tile (addr + k) (suc len - k) (first_parts shape n (addr + page_left addr) (suc len - page_left addr))) whole (first_tile n (addr + page_left addr) (suc len - page_left addr) (omega arith))))
  ]

  -- without a gap
  pub parts_tile : (addr len : ℕ) → Tile addr len (parts_of shape addr len)
  unfolding parts_of
  parts_tile addr len = first_tile len addr len (omega arith)

  -- from the start of a page on, all begin a page
  first_cut : (n addr len : ℕ) → addr % 512 ≡ 0 → All BeginsPage (first_parts shape n addr len)
  first_cut zero addr len at = All-nil BeginsPage
  first_cut (suc n) addr zero at = All-nil BeginsPage
  first_cut (suc n) addr (suc len) at = All-cons BeginsPage (first_part shape addr (suc len)) _ at (first_cut n (addr + page_left addr) (suc len - page_left addr) (omega arith))

  pub parts_cut : (addr len : ℕ) → AreCutAtPages (parts_of shape addr len)
  unfolding parts_of
  parts_cut addr zero = tt
  parts_cut addr (suc len) = first_cut len (addr + page_left addr) (suc len - page_left addr) (omega arith)

  first_placed : (n addr len : ℕ) → addr + len ≤ data_len shape → All (IsPartOf shape) (first_parts shape n addr len)
  first_placed zero addr len fits = All-nil (IsPartOf shape)
  first_placed (suc n) addr zero fits = All-nil (IsPartOf shape)
  first_placed (suc n) addr (suc len) fits =
      All-cons (IsPartOf shape) (first_part shape addr (suc len)) _
      (record { placed = record { some = omega arith; page = omega arith; inside = omega arith }; logger = refl })
      (elim (cases_lt (suc len) (page_left addr)) [
        | inl lt ↦ subst (All (IsPartOf shape)) (let none : 0 ≡ suc len - page_left addr = omega arith in sym (first_parts-none n (addr + page_left addr)) ∙ ap (first_parts shape n (addr + page_left addr)) none) (All-nil (IsPartOf shape))
        | inr le ↦ first_placed n (addr + page_left addr) (suc len - page_left addr) (omega arith)
      ])

  -- each within one page of the data
  pub parts_placed : (addr len : ℕ) → addr + len ≤ data_len shape → All (IsPartOf shape) (parts_of shape addr len)
  unfolding parts_of
  parts_placed addr len fits = first_placed len addr len fits

-- the parts of a write one after another
first_parts_of_write-more : (n m addr : ℕ) (bytes : List ℕ) → length bytes ≤ n → length bytes ≤ m → first_parts_of_write n addr bytes ≡ first_parts_of_write m addr bytes
first_parts_of_write-more zero zero addr bytes le le' = refl
first_parts_of_write-more zero (suc m) addr [] le le' = refl
first_parts_of_write-more zero (suc m) addr (b ∷ bytes) le le' = absurd (omega arith)
first_parts_of_write-more (suc n) zero addr [] le le' = refl
first_parts_of_write-more (suc n) zero addr (b ∷ bytes) le le' = absurd (omega arith)
first_parts_of_write-more (suc n) (suc m) addr [] le le' = refl
first_parts_of_write-more (suc n) (suc m) addr (b ∷ bytes) le le' =
    let long = length-drop (page_left addr) (b ∷ bytes) in
    ap (λ (ps : List (ℕ × List ℕ)). (addr, take (page_left addr) (b ∷ bytes)) ∷ ps)
    (first_parts_of_write-more n m (addr + page_left addr) (drop (page_left addr) (b ∷ bytes)) (omega arith) (omega arith))

pub parts_of_write-none : (addr : ℕ) → parts_of_write addr [] ≡ []
unfolding parts_of_write
parts_of_write-none addr = refl

pub parts_of_write-some : (addr : ℕ) (bytes : List ℕ) → 0 < length bytes → parts_of_write addr bytes ≡ (addr, take (page_left addr) bytes) ∷ parts_of_write (addr + page_left addr) (drop (page_left addr) bytes)
unfolding parts_of_write
parts_of_write-some addr [] lt = absurd (omega arith)
parts_of_write-some addr (b ∷ bytes) lt =
    let long = length-drop (page_left addr) (b ∷ bytes) in
    ap (λ (ps : List (ℕ × List ℕ)). (addr, take (page_left addr) (b ∷ bytes)) ∷ ps)
    (first_parts_of_write-more (length bytes) (length (drop (page_left addr) (b ∷ bytes))) (addr + page_left addr) (drop (page_left addr) (b ∷ bytes)) (omega arith) (omega arith))

module _ (shape : Shape) (base : ℕ) (bytes : List ℕ) where
  -- of the bytes from some address on
  first_parts_of_write-parts : (n addr : ℕ) (xs : List ℕ) (len : ℕ) → base ≤ addr → xs ≡ drop (addr - base) bytes → length xs ≡ len → first_parts_of_write n addr xs ≡ map (part_of_write base bytes) (first_parts shape n addr len)
  first_parts_of_write-parts zero addr xs len le is long = refl
  first_parts_of_write-parts (suc n) addr [] zero le is long = refl
  first_parts_of_write-parts (suc n) addr [] (suc len) le is long = absurd (omega arith)
  first_parts_of_write-parts (suc n) addr (x ∷ xs) zero le is long = absurd (omega arith)
  first_parts_of_write-parts (suc n) addr (x ∷ xs) (suc len) le is long =
      let here : take (page_left addr) (x ∷ xs) ≡ take (min (page_left addr) (suc len)) (drop (addr - base) bytes) =
      sym (take_min (page_left addr) (x ∷ xs)) ∙ (λ i. take (min (page_left addr) (long i)) (is i)) in
      let on : drop (page_left addr) (x ∷ xs) ≡ drop (addr + page_left addr - base) bytes =
      ap (drop (page_left addr)) is ∙ drop-drop (page_left addr) (addr - base) bytes ∙ (let place : addr - base + page_left addr ≡ addr + page_left addr - base = omega arith in ap (λ (k : ℕ). drop k bytes) place) in
      let fewer = length-drop (page_left addr) (x ∷ xs) in
      let rest = first_parts_of_write-parts n (addr + page_left addr) (drop (page_left addr) (x ∷ xs)) (suc len - page_left addr) (omega arith) on (omega arith) in
      λ i. (addr, here i) ∷ rest i

  -- The parts of a write are the bytes of the parts of its range.
  pub parts_of_write-parts : parts_of_write base bytes ≡ map (part_of_write base bytes) (parts_of shape base (length bytes))
  unfolding parts_of_write parts_of
  parts_of_write-parts = first_parts_of_write-parts (length bytes) base bytes (length bytes) (omega arith) (let none : 0 ≡ base - base = omega arith in ap (λ (k : ℕ). drop k bytes) none) refl

  -- a part's piece is on the part's logger
  first_on : (g n addr len : ℕ) → filter (is_write_part_on shape g) (map (part_of_write base bytes) (first_parts shape n addr len)) ≡ map (part_of_write base bytes) (filter (is_part_on g) (first_parts shape n addr len))
  first_on g zero addr len = refl
  first_on g (suc n) addr zero = refl
  first_on g (suc n) addr (suc len) =
      let rest = first_on g n (addr + page_left addr) (suc len - page_left addr) in
      let here = part_of_write base bytes (first_part shape addr (suc len)) in
      go (nat_eq (logger_of shape addr) g) (first_part shape addr (suc len)) (first_parts shape n (addr + page_left addr) (suc len - page_left addr)) rest
    where
      go : (on : Bool) (part : Part) (parts : List Part) → filter (is_write_part_on shape g) (map (part_of_write base bytes) parts) ≡ map (part_of_write base bytes) (filter (is_part_on g) parts)
          → cond on (part_of_write base bytes part ∷ filter (is_write_part_on shape g) (map (part_of_write base bytes) parts)) (filter (is_write_part_on shape g) (map (part_of_write base bytes) parts))
          ≡ map (part_of_write base bytes) (cond on (part ∷ filter (is_part_on g) parts) (filter (is_part_on g) parts))
      go true part parts same = ap (λ (l : List (ℕ × List ℕ)). part_of_write base bytes part ∷ l) same
      go false part parts same = same

  pub write_parts_on-parts : (g : ℕ) → write_parts_on shape g base bytes ≡ map (part_of_write base bytes) (parts_on shape g base (length bytes))
  unfolding parts_of
  write_parts_on-parts g = ap (filter (is_write_part_on shape g)) parts_of_write-parts ∙ first_on g (length bytes) base (length bytes)

-- how many parts there may be
module _ (shape : Shape) where
  first_few : (n addr len : ℕ) → 512 * length (first_parts shape n addr len) ≤ addr % 512 + len + 511
  first_few zero addr len = omega arith
  first_few (suc n) addr zero = omega arith
  first_few (suc n) addr (suc len) = elim (cases_lt (page_left addr) (suc len)) [
    | inl lt ↦ omega (arith, first_few n (addr + page_left addr) (suc len - page_left addr))
    | inr le ↦ (let none : suc len - page_left addr ≡ 0 = omega arith in omega (arith, ap (λ (k : ℕ). length (first_parts shape n (addr + page_left addr) k)) none ∙ ap length (first_parts-none shape n (addr + page_left addr))))
  ]

  pub parts_few : (addr len : ℕ) → addr + len ≤ data_len shape → length (parts_of shape addr len) < 2 ^ 16
  unfolding parts_of
  parts_few addr len fits =
      let pages : shape.loggers * shape.pages ≤ 8 * 4096 = mul-le shape.loggers shape.pages 8 4096 (omega arith) (omega arith) in
      omega (arith, first_few len addr len)

-- a filter keeps no more
pub filter_few : {X : Type 0} (p : X → Bool) (xs : List X) → length (filter p xs) ≤ length xs
filter_few p [] = omega arith
filter_few p (x ∷ xs) = few (p x) (filter_few p xs)
  where
    few : (b : Bool) → length (filter p xs) ≤ length xs → length (cond b (x ∷ filter p xs) (filter p xs)) ≤ suc (length xs)
    few true le = omega arith
    few false le = omega arith

-- the bytes of the pieces, one after another, are those of the write
first_joined : (n addr : ℕ) (bytes : List ℕ) → length bytes ≤ n → flat_map (λ (p : ℕ × List ℕ). p.1) (first_parts_of_write n addr bytes) ≡ bytes
first_joined zero addr [] le = refl
first_joined zero addr (b ∷ bytes) le = absurd (omega arith)
first_joined (suc n) addr [] le = refl
first_joined (suc n) addr (b ∷ bytes) le =
    let long = length-drop (page_left addr) (b ∷ bytes) in
    ap (λ (l : List ℕ). take (page_left addr) (b ∷ bytes) ++ l) (first_joined n (addr + page_left addr) (drop (page_left addr) (b ∷ bytes)) (omega arith))
    ∙ take-append-drop (page_left addr) (b ∷ bytes)

pub write_parts_joined : (addr : ℕ) (bytes : List ℕ) → flat_map (λ (p : ℕ × List ℕ). p.1) (parts_of_write addr bytes) ≡ bytes
unfolding parts_of_write
write_parts_joined addr bytes = first_joined (length bytes) addr bytes (omega arith)

-- each piece lies in one page of the data
abbrev pub IsWritePart : Shape → ℕ × List ℕ → Type 0
IsWritePart shape piece = IsPlaced shape piece.0 (length piece.1)

first_parts_of_write_placed : (shape : Shape) (n addr : ℕ) (bytes : List ℕ) → addr + length bytes ≤ data_len shape → All (IsWritePart shape) (first_parts_of_write n addr bytes)
first_parts_of_write_placed shape zero addr bytes fits = All-nil (IsWritePart shape)
first_parts_of_write_placed shape (suc n) addr [] fits = All-nil (IsWritePart shape)
first_parts_of_write_placed shape (suc n) addr (b ∷ bytes) fits =
    let long = length-take (page_left addr) (b ∷ bytes) in
    All-cons (IsWritePart shape) (addr, take (page_left addr) (b ∷ bytes)) _ (record { some = omega arith; page = omega arith; inside = omega arith })
    (elim (cases_lt (length (b ∷ bytes)) (page_left addr)) [
      | inl lt ↦ subst (All (IsWritePart shape)) (sym (first_parts_of_write_none n (addr + page_left addr) (drop (page_left addr) (b ∷ bytes)) (omega (arith, length-drop (page_left addr) (b ∷ bytes))))) (All-nil (IsWritePart shape))
      | inr le ↦ first_parts_of_write_placed shape n (addr + page_left addr) (drop (page_left addr) (b ∷ bytes)) (omega (arith, length-drop (page_left addr) (b ∷ bytes)))
    ])
  where
    first_parts_of_write_none : (n addr : ℕ) (bytes : List ℕ) → length bytes ≡ 0 → first_parts_of_write n addr bytes ≡ []
    first_parts_of_write_none zero addr bytes none = refl
    first_parts_of_write_none (suc n) addr [] none = refl
    first_parts_of_write_none (suc n) addr (b ∷ bytes) none = absurd (omega arith)

pub write_parts_placed : (shape : Shape) (addr : ℕ) (bytes : List ℕ) → addr + length bytes ≤ data_len shape → All (IsWritePart shape) (parts_of_write addr bytes)
unfolding parts_of_write
write_parts_placed shape addr bytes fits = first_parts_of_write_placed shape (length bytes) addr bytes fits
