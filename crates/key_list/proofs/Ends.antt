-- Where the way of a look along a chain ends, and what it then answers.
use Rattle.std.proofs.Common.{◌≡◌, ◌≢◌, ℕ, Bool, true, false, nat_eq, nat_le, inl, inr, List, [], ◌∷◌, Option, Some, None, refl, sym, ◌∙◌, ap, arith}
use Rattle.std.specs.Prelude.{is_some, ◌||◌}
use Rattle.std.proofs.lemmas.Bool.Decides.{nat_tests, leb_tells}
use Rattle.page_store.specs.Course.{Reading}
use Rattle.page_store.specs.Pairs.{Pair, next}
use Rattle.index_pages.specs.Keys.{from_on}
use Rattle.index_pages.specs.Page.{link_said, pairs_said}
use Rattle.key_list.specs.Along.{along, answered, ends_at, led_to, Ended}

-- a page without a pair from the key on and with a link leads on
pub leads_on : (root from page : ℕ) (said : List ℕ) (link : ℕ) → next (pairs_said said) from ≡ None → link ≡ link_said said → link ≢ 0 → (read : List Reading) → along root from ((page, said) ∷ read) ≡ Some link
leads_on root from page said link none is some read =
    let b : nat_eq (link_said said) 0 ≡ false = grind (arith, nat_tests, is, some) in
    (rw (none, b) (ap Some (sym is)))

pub ends_last : (from : ℕ) (said : List ℕ) (link : ℕ) → next (pairs_said said) from ≡ None → link ≡ link_said said → link ≡ 0 → ends_at from said ≡ true
ends_last from said link none is last =
    let b : nat_eq (link_said said) 0 ≡ true = grind (arith, nat_tests, is, last) in
    (rw (none, b) refl)

pub ends_some : (from : ℕ) (said : List ℕ) → next (pairs_said said) from ≢ None → ends_at from said ≡ true
ends_some from said there = some_or (next (pairs_said said) from) (nat_eq (link_said said) 0) there
  where
    some_or : (o : Option Pair) (b : Bool) → o ≢ None → (is_some o || b) ≡ true
    some_or None b there = absurd (there refl)
    some_or (Some p) b there = refl

-- the answer is what the last page says
pub answer_is : {A : Type 0} (says : List Pair → A) (from : ℕ) (said : List ℕ) (read : List Reading) → Ended from said read → answered says from read ≡ Some (says (pairs_said said))
answer_is {A} says from said [] ended = absurd ended
answer_is {A} says from said (r ∷ rs) ended =
    let e : ends_at from r.1 ≡ true = ap (λ (b : List ℕ). ends_at from b) ended.0 ∙ ended.1 in
    let is : answered says from (r ∷ rs) ≡ Some (says (pairs_said r.1)) = (rw e refl) in
    is ∙ ap (λ (b : List ℕ). Some (says (pairs_said b))) ended.0

pub none_from : (ps : List Pair) (from : ℕ) → next ps from ≡ None → from_on ps from ≡ []
none_from [] from none = refl
none_from (p ∷ ps) from none = elim (leb_tells from p.0) [
  | inl le ↦ let b : nat_le from p.0 ≡ true = le.0 in let some : Some p ≡ None = (rw b at none) in absurd (cc)
  | inr lt ↦ let b : nat_le from p.0 ≡ false = lt.0 in let none' : next ps from ≡ None = (rw b at none) in (rw b (none_from ps from none'))
]

-- what the first pair from a key on leads the key to
pub led_here : (key : ℕ) (p : Pair) → p.0 ≡ key → led_to key (Some p) ≡ Some p.1
led_here key p is = let b : nat_eq p.0 key ≡ true = grind (arith, nat_tests, is) in (rw b refl)

pub led_past : (key : ℕ) (p : Pair) → p.0 ≢ key → led_to key (Some p) ≡ None
led_past key p is = let b : nat_eq p.0 key ≡ false = grind (arith, nat_tests, is) in (rw b refl)
