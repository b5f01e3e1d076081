-- If each logger has room for its share, there is room for all.
use Rattle.std.proofs.Common.{◌≡◌, ℕ, zero, suc, ◌+◌, ◌*◌, ◌<◌, ◌≤◌, Bool, true, false, cond, nat_eq, inl, inr, List, [], ◌∷◌, length, refl, sym, ◌∙◌, ap, arith}
use Rattle.std.specs.Prelude.{filter}
use Rattle.std.proofs.lemmas.Bool.{cases_eq, eq-eqb, ne_eqb}
use Rattle.array_shape.specs.declared.shape.Shape.{Shape}
use Rattle.array_shape.specs.Places.{logger_of}
use Rattle.array_shape.proofs.Apart.{logger_below}
use Rattle.eaw_face.specs.State.{is_range_on, count_on}

module _ (shape : Shape) where
  -- how many ranges the first n loggers have
  count_all : ℕ → List (ℕ × ℕ) → ℕ
  count_all zero rs = 0
  count_all (suc n) rs = count_on shape n rs + count_all n rs

  count_all-nil : (n : ℕ) → count_all n [] ≡ 0
  unfolding count_all
  count_all-nil zero = refl
  count_all-nil (suc n) = omega (arith, count_all-nil n)

  count_here : (n : ℕ) (r : ℕ × ℕ) (rs : List (ℕ × ℕ)) (on : Bool) → nat_eq (logger_of shape r.0) n ≡ on → count_on shape n (r ∷ rs) ≡ count_on shape n rs + cond on 1 0
  count_here n r rs on is = ap (λ (b : Bool). length (cond b (r ∷ filter (is_range_on shape n) rs) (filter (is_range_on shape n) rs))) is ∙ go on
    where
      go : (b : Bool) → length (cond b (r ∷ filter (is_range_on shape n) rs) (filter (is_range_on shape n) rs)) ≡ count_on shape n rs + cond b 1 0
      go true = omega arith
      go false = omega arith

  count_all-away : (n : ℕ) (r : ℕ × ℕ) (rs : List (ℕ × ℕ)) → n ≤ logger_of shape r.0 → count_all n (r ∷ rs) ≡ count_all n rs
  unfolding count_all
  count_all-away zero r rs le = refl
  count_all-away (suc n) r rs le = omega (arith, count_here n r rs false (ne_eqb (logger_of shape r.0) n (λ is. omega arith)), count_all-away n r rs (omega arith))

  count_all-cons : (n : ℕ) (r : ℕ × ℕ) (rs : List (ℕ × ℕ)) → logger_of shape r.0 < n → count_all n (r ∷ rs) ≡ suc (count_all n rs)
  unfolding count_all
  count_all-cons zero r rs lt = absurd (omega arith)
  count_all-cons (suc n) r rs lt = elim (cases_eq (logger_of shape r.0) n) [
    | inl is ↦ omega (arith, count_here n r rs true (eq-eqb (logger_of shape r.0) n is), count_all-away n r rs (omega arith))
    | inr ne ↦ omega (arith, count_here n r rs false (ne_eqb (logger_of shape r.0) n ne), count_all-cons n r rs (omega arith))
  ]

  -- each range has a logger
  count_all-loggers : (rs : List (ℕ × ℕ)) → length rs ≡ count_all shape.loggers rs
  count_all-loggers [] = sym (count_all-nil shape.loggers)
  count_all-loggers (r ∷ rs) = omega (arith, count_all-loggers rs, count_all-cons shape.loggers r rs (logger_below shape r.0))

  all_fit : (n : ℕ) (rs ss : List (ℕ × ℕ)) → ((g : ℕ) → g < n → count_on shape g rs + count_on shape g ss ≤ shape.entries) → count_all n rs + count_all n ss ≤ n * shape.entries
  unfolding count_all
  all_fit zero rs ss fit = omega arith
  all_fit (suc n) rs ss fit = omega (arith, fit n (omega arith), all_fit n rs ss (λ g lt. fit g (omega arith)))

  pub fit_room : (rs ss : List (ℕ × ℕ)) → ((g : ℕ) → g < shape.loggers → count_on shape g rs + count_on shape g ss ≤ shape.entries) → length rs + length ss ≤ shape.loggers * shape.entries
  fit_room rs ss fit = omega (arith, count_all-loggers rs, count_all-loggers ss, all_fit shape.loggers rs ss fit)
