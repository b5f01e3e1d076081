-- The entries of a log: their ranges, and their cells at each logger.
use Rattle.std.proofs.Common.{◌≡◌, ℕ, zero, suc, ◌+◌, ◌-◌, ◌*◌, ◌<◌, ◌≤◌, Bool, true, false, cond, nat_eq, List, [], ◌∷◌, ◌++◌, length, take, refl, ◌∙◌, ap, arith}
use Rattle.std.specs.Prelude.{filter}
use Rattle.std.specs.List.{range_with_len}
use Rattle.std.proofs.lemmas.Nat.{mod_below}
use Rattle.array_shape.specs.declared.shape.Shape.{Shape}
use Rattle.array_shape.specs.Places.{logger_of, IsShape}
use Rattle.eaw_face.specs.State.{is_range_on, count_on}
use Rattle.write_back.specs.declared.entry.Entry.{Entry}
use Rattle.write_back.specs.Entries.{ranges_in, cells_on}
use Rattle.eaw_device.proofs.Dealt.{below_few, below_all}

-- numbers one after another
pub numbers_split : (xs ys : List ℕ) (a n : ℕ) → xs ++ ys ≡ range_with_len a n
    → (xs ≡ range_with_len a (length xs)) × (ys ≡ range_with_len (a + length xs) (n - length xs)) × (length xs ≤ n)
numbers_split [] ys a n is = (refl, is ∙ (λ i. range_with_len (from i) (many i)), omega arith)
  where
    from : a ≡ a + 0
    from = omega arith

    many : n ≡ n - 0
    many = omega arith
numbers_split (x ∷ xs) ys a zero is = absurd (let long = ap length is in omega (arith, long))
numbers_split (x ∷ xs) ys a (suc n) is =
    let first : x ≡ a = cc in
    let later : xs ++ ys ≡ range_with_len (a + 1) n = cc in
    let rest = numbers_split xs ys (a + 1) n later in
    let from : a + 1 + length xs ≡ a + suc (length xs) = omega arith in
    let many : n - length xs ≡ suc n - suc (length xs) = omega arith in
    ((λ i. first i ∷ rest.0 i), rest.1 ∙ (λ i. range_with_len (from i) (many i)), omega (arith, rest.2))

pub numbers_more : (a n : ℕ) → range_with_len a n ++ (a + n) ∷ [] ≡ range_with_len a (n + 1)
numbers_more a zero = let here : a + zero ≡ a = omega arith in let one : suc zero ≡ zero + 1 = omega arith in ap (λ (k : ℕ). k ∷ []) here ∙ ap (range_with_len a) one
numbers_more a (suc n) =
    let on : a + suc n ≡ a + 1 + n = omega arith in
    let many : suc (n + 1) ≡ suc n + 1 = omega arith in
    ap (λ (k : ℕ). a ∷ (range_with_len (a + 1) n ++ k ∷ [])) on ∙ ap (λ (l : List ℕ). a ∷ l) (numbers_more (a + 1) n) ∙ ap (range_with_len a) many

pub ranges_in-append : (xs ys : List Entry) → ranges_in (xs ++ ys) ≡ ranges_in xs ++ ranges_in ys
ranges_in-append [] ys = refl
ranges_in-append (e ∷ es) ys = ap (λ (l : List (ℕ × ℕ)). (e.addr, e.len) ∷ l) (ranges_in-append es ys)

pub length-ranges_in : (es : List Entry) → length (ranges_in es) ≡ length es
length-ranges_in [] = refl
length-ranges_in (e ∷ es) = ap suc (length-ranges_in es)

pub ranges_in-take : (n : ℕ) (es : List Entry) → ranges_in (take n es) ≡ take n (ranges_in es)
ranges_in-take zero es = refl
ranges_in-take (suc n) [] = refl
ranges_in-take (suc n) (e ∷ es) = ap (λ (l : List (ℕ × ℕ)). (e.addr, e.len) ∷ l) (ranges_in-take n es)

pub logger_small : (shape : Shape) (addr : ℕ) → IsShape shape → logger_of shape addr < shape.loggers
logger_small shape addr shaped = mod_below _ shape.loggers (omega (arith, shaped.some_loggers))

module _ (shape : Shape) where
  pub cells_on-append : (g : ℕ) (xs ys : List Entry) → cells_on shape g (xs ++ ys) ≡ cells_on shape g xs ++ cells_on shape g ys
  cells_on-append g [] ys = refl
  cells_on-append g (e ∷ es) ys = one (nat_eq (logger_of shape e.addr) g) (cells_on-append g es ys)
    where
      one : (on : Bool) → cells_on shape g (es ++ ys) ≡ cells_on shape g es ++ cells_on shape g ys
          → cond on (e.cell ∷ cells_on shape g (es ++ ys)) (cells_on shape g (es ++ ys)) ≡ cond on (e.cell ∷ cells_on shape g es) (cells_on shape g es) ++ cells_on shape g ys
      one true same = ap (λ (l : List ℕ). e.cell ∷ l) same
      one false same = same

  pub count_on-ranges_in : (g : ℕ) (es : List Entry) → count_on shape g (ranges_in es) ≡ length (cells_on shape g es)
  count_on-ranges_in g [] = refl
  count_on-ranges_in g (e ∷ es) = one (nat_eq (logger_of shape e.addr) g) (count_on-ranges_in g es)
    where
      one : (on : Bool) → length (filter (is_range_on shape g) (ranges_in es)) ≡ length (cells_on shape g es)
          → length (cond on ((e.addr, e.len) ∷ filter (is_range_on shape g) (ranges_in es)) (filter (is_range_on shape g) (ranges_in es))) ≡ length (cond on (e.cell ∷ cells_on shape g es) (cells_on shape g es))
      one true same = ap suc same
      one false same = same

  -- if no logger has more cells than entries allow, a log has at most that many times the loggers
  pub few_entries : (es : List Entry) → IsShape shape → ((g : ℕ) → g < shape.loggers → length (cells_on shape g es) ≤ shape.entries) → length es ≤ shape.loggers * shape.entries
  few_entries es shaped few =
      let all = below_all (λ (r : ℕ × ℕ). logger_of shape r.0) (ranges_in es) shape.loggers (λ r. logger_small shape r.0 shaped) in
      let most = below_few (λ (r : ℕ × ℕ). logger_of shape r.0) (ranges_in es) shape.entries shape.loggers (λ g lt. omega (arith, count_on-ranges_in g es, few g lt)) in
      omega (arith, all, most, length-ranges_in es)
