-- How many parts of a group each logger holds.
use Rattle.std.proofs.Common.{inl, inr, eq-zero-or-pos, ◌≡◌, ◌≢◌, ℕ, zero, suc, ◌+◌, ◌*◌, ◌/◌, ◌<◌, ◌≤◌, Bool, true, false, cond, nat_eq, List, [], ◌∷◌, ◌++◌, length, refl, sym, ◌∙◌, ap, subst, arith}
use Rattle.std.specs.Prelude.{◌↔◌, ◌-◌, filter, slice_index, replicate, None}
use Rattle.std.proofs.Math.Nat.{mod-lt}
use Rattle.std.proofs.lemmas.Bool.{eq-eqb, eqb-true, ne_eqb}
use Rattle.std.proofs.lemmas.List.{get_or-set_same, get_or-set_other, get_or-replicate}
use Rattle.array_shape.specs.declared.shape.Shape.{Shape}
use Rattle.array_shape.specs.Places.{logger_of}
use Rattle.eaw_face.specs.State.{is_range_on, count_on}
use Rattle.eaw_face.specs.Causes.{fit}
use Rattle.array_shape.specs.Logged.{Part, ranges_of}
use Rattle.mirror.specs.Rest.{HasRoom, one_more, total}

-- one more at k
abbrev at_one : ℕ → ℕ → ℕ
at_one k g = cond (nat_eq k g) 1 0

total_none : (f : ℕ → ℕ) (k n : ℕ) → n ≤ k → total (λ g. at_one k g + f g) n ≡ total f n
total_none f k zero le = refl
total_none f k (suc n) le =
    let before = total_none f k n (omega arith) in
    let other : k ≢ n = λ same. omega (arith, same) in
    let here : at_one k n ≡ 0 = ap (λ (b : Bool). cond b 1 0) (ne_eqb k n other) in
    omega (arith, before, here)

total_one : (f : ℕ → ℕ) (k n : ℕ) → k < n → total (λ g. at_one k g + f g) n ≡ 1 + total f n
total_one f k zero lt = absurd (omega arith)
total_one f k (suc n) lt = go (nat_eq k n) refl (total_one f k n)
  where
    go : (b : Bool) → nat_eq k n ≡ b → (k < n → total (λ g. at_one k g + f g) n ≡ 1 + total f n) → total (λ g. at_one k g + f g) (suc n) ≡ 1 + total f (suc n)
    go true is later =
        let same = eqb-true k n is in
        let before = total_none f k n (omega (arith, same)) in
        let here : at_one k n ≡ 1 = ap (λ (b : Bool). cond b 1 0) is in
        omega (arith, before, here)
    go false is later =
        let other : k ≢ n = λ same. let e = eq-eqb k n same in absurd (subst (λ (b : Bool). cond b (Unit {0}) ⊥) (sym e ∙ is) tt) in
        let before = later (omega (arith, other)) in
        let here : at_one k n ≡ 0 = ap (λ (b : Bool). cond b 1 0) is in
        omega (arith, before, here)

total_most : (f : ℕ → ℕ) (most n : ℕ) → ((g : ℕ) → g < n → f g ≤ most) → total f n ≤ n * most
total_most f most zero each = omega arith
total_most f most (suc n) each =
    let before = total_most f most n (λ g lt. each g (omega arith)) in
    let here = each n (omega arith) in
    omega (arith, before, here)

module _ (shape : Shape) where
  -- a range more counts at its logger
  counted : (g : ℕ) (r : ℕ × ℕ) (rs : List (ℕ × ℕ)) → count_on shape g (r ∷ rs) ≡ at_one (logger_of shape r.0) g + count_on shape g rs
  counted g r rs = go (nat_eq (logger_of shape r.0) g)
    where
      go : (b : Bool) → length (cond b (r ∷ filter (is_range_on shape g) rs) (filter (is_range_on shape g) rs)) ≡ cond b 1 0 + count_on shape g rs
      go true = omega arith
      go false = omega arith

  -- all ranges are counted
  all_counted : 0 < shape.loggers → (rs : List (ℕ × ℕ)) → length rs ≤ total (λ g. count_on shape g rs) shape.loggers
  all_counted some [] = omega arith
  all_counted some (r ∷ rs) =
      let rest = all_counted some rs in
      let k = logger_of shape r.0 in
      let more : total (λ g. count_on shape g (r ∷ rs)) shape.loggers ≡ 1 + total (λ g. count_on shape g rs) shape.loggers =
      ap (λ (f : ℕ → ℕ). total f shape.loggers) (λ i g. counted g r rs i) ∙ total_one (λ g. count_on shape g rs) k shape.loggers (mod-lt (r.0 / 512) some) in
      omega (arith, more, rest)

  -- so many ranges have room at most
  pub room_most : 0 < shape.loggers → (held : List ℕ) (ps : List Part) → HasRoom shape held ps → length ps ≤ shape.loggers * shape.entries
  room_most some held ps room =
      let all = all_counted some (ranges_of ps) in
      let most = total_most (λ g. count_on shape g (ranges_of ps)) shape.entries shape.loggers (λ g lt. let fits = room g lt in omega (arith, fits)) in
      omega (arith, all, most, as_many ps)
    where
      as_many : (ps : List Part) → length ps ≡ length (ranges_of ps)
      as_many [] = refl
      as_many (p ∷ ps) = let rest = as_many ps in omega (arith, rest)

  -- an empty log has room for so many ranges at most
  pub fit_most : 0 < shape.loggers → (rs : List (ℕ × ℕ)) → fit shape [] rs None → length rs ≤ shape.loggers * shape.entries
  fit_most some rs fits =
      let all = all_counted some rs in
      let most = total_most (λ g. count_on shape g rs) shape.entries shape.loggers (λ g lt. let room = fits g lt in omega (arith, room)) in
      omega (arith, all, most)

  -- the first of some ranges has room where the rest has room beside it
  module _ (held : List ℕ) (r : ℕ × ℕ) (rs : List (ℕ × ℕ)) (within : logger_of shape r.0 < length held) where
    abbrev here : ℕ
    here = logger_of shape r.0

    pub more_held : slice_index (one_more held here) here ≡ slice_index held here + 1
    more_held = get_or-set_same held here (slice_index held here + 1) 0 within

    pub room_over : slice_index held here < shape.entries → (g : ℕ)
        → (count_on shape g (r ∷ rs) ≤ shape.entries - slice_index held g) ↔ (count_on shape g rs ≤ shape.entries - slice_index (one_more held here) g)
    room_over free g = go (nat_eq here g) refl
      where
        go : (b : Bool) → nat_eq here g ≡ b → (count_on shape g (r ∷ rs) ≤ shape.entries - slice_index held g) ↔ (count_on shape g rs ≤ shape.entries - slice_index (one_more held here) g)
        go true is =
            let same : here ≡ g = eqb-true here g is in
            let one : at_one here g ≡ 1 = ap (λ (b : Bool). cond b 1 0) is in
            let count = counted g r rs in
            let set : slice_index (one_more held here) g ≡ slice_index held here + 1 = ap (λ (m : ℕ). slice_index (one_more held here) m) (sym same) ∙ more_held in
            let there : slice_index held here ≡ slice_index held g = ap (λ (m : ℕ). slice_index held m) same in
            ((λ le. omega (arith, le, one, count, set, there, free)), (λ le. omega (arith, le, one, count, set, there, free)))
        go false is =
            let other : g ≢ here = λ same. absurd (subst (λ (b : Bool). cond b (Unit {0}) ⊥) (sym (eq-eqb here g (sym same)) ∙ is) tt) in
            let none : at_one here g ≡ 0 = ap (λ (b : Bool). cond b 1 0) is in
            let count = counted g r rs in
            let set : slice_index (one_more held here) g ≡ slice_index held g = get_or-set_other held here g (slice_index held here + 1) 0 other in
            ((λ le. omega (arith, le, none, count, set)), (λ le. omega (arith, le, none, count, set)))

    -- so many parts more have room
    pub total_more : slice_index held here < shape.entries → (n : ℕ) → here < n → total (λ g. shape.entries - slice_index held g) n ≡ 1 + total (λ g. shape.entries - slice_index (one_more held here) g) n
    total_more free n lt = ap (λ (f : ℕ → ℕ). total f n) (λ i g. each g (nat_eq here g) refl i) ∙ total_one (λ g. shape.entries - slice_index (one_more held here) g) here n lt
      where
        each : (g : ℕ) (b : Bool) → nat_eq here g ≡ b → shape.entries - slice_index held g ≡ at_one here g + (shape.entries - slice_index (one_more held here) g)
        each g true is =
            let same : here ≡ g = eqb-true here g is in
            let one : at_one here g ≡ 1 = ap (λ (b : Bool). cond b 1 0) is in
            let set : slice_index (one_more held here) g ≡ slice_index held here + 1 = ap (λ (m : ℕ). slice_index (one_more held here) m) (sym same) ∙ more_held in
            let there : slice_index held here ≡ slice_index held g = ap (λ (m : ℕ). slice_index held m) same in
            omega (arith, one, set, there, free)
        each g false is =
            let other : g ≢ here = λ same. absurd (subst (λ (b : Bool). cond b (Unit {0}) ⊥) (sym (eq-eqb here g (sym same)) ∙ is) tt) in
            let none : at_one here g ≡ 0 = ap (λ (b : Bool). cond b 1 0) is in
            let set : slice_index (one_more held here) g ≡ slice_index held g = get_or-set_other held here g (slice_index held here + 1) 0 other in
            omega (arith, none, set)

    -- it has room at its own logger
    pub free_here : count_on shape here (r ∷ rs) ≤ shape.entries - slice_index held here → slice_index held here < shape.entries
    free_here le =
        let one : at_one here here ≡ 1 = ap (λ (b : Bool). cond b 1 0) (eq-eqb here here refl) in
        let count = counted here r rs in
        omega (arith, le, one, count)

-- nothing is held at first
pub none_held : (g : ℕ) → g < 8 → slice_index (replicate 8 0) g ≡ 0
none_held g lt = get_or-replicate 8 g 0 0 lt

-- parts are counted one list after another
pub count_append : (shape : Shape) (g : ℕ) (rs more : List (ℕ × ℕ)) → count_on shape g (rs ++ more) ≡ count_on shape g rs + count_on shape g more
count_append shape g [] more = omega arith
count_append shape g (r ∷ rs) more = let rest = count_append shape g rs more in let here = counted shape g r (rs ++ more) in let there = counted shape g r rs in omega (arith, rest, here, there)

-- one range counts at one logger at most
pub counted_one : (shape : Shape) (g : ℕ) (r : ℕ × ℕ) → count_on shape g (r ∷ []) ≤ 1
counted_one shape g r = let count = counted shape g r [] in go (nat_eq (logger_of shape r.0) g) refl count
  where
    go : (b : Bool) → nat_eq (logger_of shape r.0) g ≡ b → count_on shape g (r ∷ []) ≡ at_one (logger_of shape r.0) g + count_on shape g [] → count_on shape g (r ∷ []) ≤ 1
    go true is count = let one : at_one (logger_of shape r.0) g ≡ 1 = ap (λ (b : Bool). cond b 1 0) is in omega (arith, count, one)
    go false is count = let none : at_one (logger_of shape r.0) g ≡ 0 = ap (λ (b : Bool). cond b 1 0) is in omega (arith, count, none)

-- a sum of equals
total_same : (f : ℕ → ℕ) (c n : ℕ) → ((g : ℕ) → g < n → f g ≡ c) → total f n ≡ n * c
total_same f c zero each = omega arith
total_same f c (suc n) each = let before = total_same f c n (λ g lt. each g (omega arith)) in let here = each n (omega arith) in omega (arith, before, here)

-- all entries are free at first
pub all_free : (shape : Shape) → shape.loggers ≤ 8 → total (λ g. shape.entries - slice_index (replicate 8 0) g) shape.loggers ≡ shape.loggers * shape.entries
all_free shape most = total_same (λ g. shape.entries - slice_index (replicate 8 0) g) shape.entries shape.loggers (λ g lt. let none = none_held g (omega (arith, lt, most)) in omega (arith, none))

-- where a sum is not zero, one is not
pub some_free : (f : ℕ → ℕ) (n : ℕ) → 0 < total f n → (g : ℕ) × (g < n) × (0 < f g)
some_free f zero some = absurd (omega arith)
some_free f (suc n) some = elim (eq-zero-or-pos (f n)) [
  | inl none ↦ let before = some_free f n (omega (arith, some, none)) in (before.0, omega (arith, before.1), before.2)
  | inr here ↦ (n, omega arith, here)
]
