-- The order of parts on different loggers does not matter: their pages are apart.
use Rattle.std.proofs.Common.{◌≡◌, ℕ, zero, suc, ◌+◌, ◌/◌, ◌%◌, ◌<◌, ◌≤◌, Bool, cond, ◌⊎◌, inl, inr, ⊎_elim, List, [], ◌∷◌, ◌++◌, length, get_or, refl, sym, ◌∙◌, ap, subst, arith}
use Rattle.std.specs.Prelude.{nat_eq}
use Rattle.std.proofs.lemmas.Bool.{cases_Bool, cases_eq, cases_lt, eq-eqb, ne_eqb, false≢true}
use Rattle.std.proofs.lemmas.List.{ext_get_or, append-nil}
use Rattle.mars_base.specs.Bytes.{put}
use Rattle.mars_base.proofs.Puts.{length-put, get_or-put_inside}
use Rattle.pcm_media.proofs.Left.{get_or-put_outside}
use Rattle.array_shape.specs.declared.shape.Shape.{Shape}
use Rattle.array_shape.specs.Places.{data_len, logger_of}
use Rattle.array_image.specs.Joined.{joined}
use Rattle.array_shape.specs.Logged.{Part, applied, AllFit, AllPlaced, AllOwned, parts_at}
use Rattle.array_image.proofs.Places.{logger_below}
use Rattle.array_image.proofs.Applied.{length-applied}
use Rattle.array_image.proofs.Data.{all_fit}

module _ (shape : Shape) where
  fits : (ps : List Part) (d : List ℕ) → length d ≡ data_len shape → AllPlaced shape ps → length (applied ps d) ≡ data_len shape
  fits ps d long placed = length-applied ps d (subst (λ n. AllFit n ps) (sym long) (all_fit shape ps placed)) ∙ long

  -- the byte at an address comes from the parts of that address's logger alone
  byte_of_logger : (a g : ℕ) → logger_of shape a ≡ g → (ps : List Part) (d e : List ℕ) → length d ≡ data_len shape → length e ≡ data_len shape → AllPlaced shape ps → get_or d a 0 ≡ get_or e a 0
      → get_or (applied ps d) a 0 ≡ get_or (applied (parts_at shape g ps) e) a 0
  byte_of_logger a g of [] d e long long' placed same = same
  byte_of_logger a g of (p ∷ ps) d e long long' placed same = ⊎_elim
      (λ is.
      byte_of_logger a g of ps (put d p.0 p.1) (put e p.0 p.1) (length-put d p.0 p.1 fits-d ∙ long) (length-put e p.0 p.1 fits-e ∙ long') placed.1 (elim (cases_lt a p.0) [
        | inl before ↦ outside (λ le lt. omega arith)
        | inr from ↦ elim (cases_lt a (p.0 + length p.1)) [
          | inl below ↦ get_or-put_inside d p.0 p.1 fits-d a from below ∙ sym (get_or-put_inside e p.0 p.1 fits-e a from below)
          | inr past ↦ outside (λ le lt. omega arith)
        ]
      ])
      ∙ ap (λ (b : Bool). get_or (applied (cond b (p ∷ parts_at shape g ps) (parts_at shape g ps)) e) a 0) (sym is))
      (λ is_not.
      byte_of_logger a g of ps (put d p.0 p.1) e (length-put d p.0 p.1 fits-d ∙ long) long' placed.1
      (get_or-put_outside d p.0 p.1 fits-d a (λ from below. false≢true (sym is_not ∙ eq-eqb (logger_of shape p.0) g (page from below ∙ of))) ∙ same)
      ∙ ap (λ (b : Bool). get_or (applied (cond b (p ∷ parts_at shape g ps) (parts_at shape g ps)) e) a 0) (sym is_not))
      (cases_Bool (nat_eq (logger_of shape p.0) g))
    where
      fits-d : p.0 + length p.1 ≤ length d
      fits-d = omega (arith, placed.0.inside)

      fits-e : p.0 + length p.1 ≤ length e
      fits-e = omega (arith, placed.0.inside)

      outside : (p.0 ≤ a → a < p.0 + length p.1 → ⊥) → get_or (put d p.0 p.1) a 0 ≡ get_or (put e p.0 p.1) a 0
      outside out = get_or-put_outside d p.0 p.1 fits-d a out ∙ same ∙ sym (get_or-put_outside e p.0 p.1 fits-e a out)

      page : p.0 ≤ a → a < p.0 + length p.1 → logger_of shape p.0 ≡ logger_of shape a
      page from below = let is : p.0 / 512 ≡ a / 512 = omega (arith, placed.0.page) in ap (λ (n : ℕ). n % shape.loggers) is

  -- two lists with the same parts of each logger, in their order
  pub applied_any_order : (ps qs : List Part) (d : List ℕ) → length d ≡ data_len shape → AllPlaced shape ps → AllPlaced shape qs → ((g : ℕ) → g < shape.loggers → parts_at shape g ps ≡ parts_at shape g qs) → applied ps d ≡ applied qs d
  applied_any_order ps qs d long placed placed' same = ext_get_or 0 (applied ps d) (applied qs d) (fits ps d long placed ∙ sym (fits qs d long placed')) (λ a lt.
      let g = logger_of shape a in
      byte_of_logger a g refl ps d d long long placed refl
      ∙ ap (λ (l : List Part). get_or (applied l d) a 0) (same g (logger_below shape a (omega (arith, fits ps d long placed))))
      ∙ sym (byte_of_logger a g refl qs d d long long placed' refl))

  pub parts_at-append : (g : ℕ) (ps qs : List Part) → parts_at shape g (ps ++ qs) ≡ parts_at shape g ps ++ parts_at shape g qs
  parts_at-append g [] qs = refl
  parts_at-append g (p ∷ ps) qs = ⊎_elim
      (λ is. (λ i. cond (is i) (p ∷ parts_at-append g ps qs i) (parts_at-append g ps qs i)) ∙ ap (λ (b : Bool). cond b (p ∷ parts_at shape g ps) (parts_at shape g ps) ++ parts_at shape g qs) (sym is))
      (λ is. (λ i. cond (is i) (p ∷ parts_at-append g ps qs i) (parts_at-append g ps qs i)) ∙ ap (λ (b : Bool). cond b (p ∷ parts_at shape g ps) (parts_at shape g ps) ++ parts_at shape g qs) (sym is))
      (cases_Bool (nat_eq (logger_of shape p.0) g))

  pub parts_at_each : (g : ℕ) (f : ℕ → List Part) (k n : ℕ) → parts_at shape g (joined f k n) ≡ joined (λ i. parts_at shape g (f i)) k n
  parts_at_each g f k zero = refl
  parts_at_each g f k (suc n) = parts_at-append g (f k) (joined f (k + 1) n) ∙ ap (λ (l : List Part). parts_at shape g (f k) ++ l) (parts_at_each g f (k + 1) n)

  all_at : (g : ℕ) (ps : List Part) → AllOwned shape g ps → parts_at shape g ps ≡ ps
  all_at g [] owned = refl
  all_at g (p ∷ ps) owned = (λ i. cond (eq-eqb (logger_of shape p.0) g owned.0.logger i) (p ∷ all_at g ps owned.1 i) (all_at g ps owned.1 i))

  none_at : (g h : ℕ) → (h ≡ g → ⊥) → (ps : List Part) → AllOwned shape h ps → parts_at shape g ps ≡ []
  none_at g h ne [] owned = refl
  none_at g h ne (p ∷ ps) owned = (λ i. cond (ne_eqb (logger_of shape p.0) g (λ is. ne (sym owned.0.logger ∙ is)) i) (p ∷ parts_at shape g ps) (parts_at shape g ps)) ∙ none_at g h ne ps owned.1

  -- of lists that are indexed by the loggers that own their parts
  pub parts_at-joined : (lists : ℕ → List Part) (k n : ℕ) → ((h : ℕ) → k ≤ h → h < k + n → AllOwned shape h (lists h)) → (g : ℕ) → k ≤ g → g < k + n → parts_at shape g (joined lists k n) ≡ lists g
  parts_at-joined lists k zero owned g le lt = absurd (omega arith)
  parts_at-joined lists k (suc n) owned g le lt = parts_at-append g (lists k) (joined lists (k + 1) n) ∙ ⊎_elim
      (λ is.
      (λ i. all_at g (lists k) (subst (λ j. AllOwned shape j (lists k)) is (owned k (omega arith) (omega arith))) i ++ later (k + 1) n (λ h le' lt'. owned h (omega arith) (omega arith)) (omega arith) i)
      ∙ append-nil (lists k) ∙ ap lists is)
      (λ ne.
      (λ i. none_at g k ne (lists k) (owned k (omega arith) (omega arith)) i ++ parts_at shape g (joined lists (k + 1) n))
      ∙ parts_at-joined lists (k + 1) n (λ h le' lt'. owned h (omega arith) (omega arith)) g (omega arith) (omega arith))
      (cases_eq k g)
    where
      later : (j m : ℕ) → ((h : ℕ) → j ≤ h → h < j + m → AllOwned shape h (lists h)) → g < j → parts_at shape g (joined lists j m) ≡ []
      later j zero owned' lt' = refl
      later j (suc m) owned' lt' =
          parts_at-append g (lists j) (joined lists (j + 1) m)
          ∙ (λ i. none_at g j (λ is. omega arith) (lists j) (owned' j (omega arith) (omega arith)) i ++ later (j + 1) m (λ h le' below. owned' h (omega arith) (omega arith)) (omega arith) i)
