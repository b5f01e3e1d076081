-- Touches of stripes, and which of them clash.
use Rattle.std.proofs.Common.{◌≡◌, Bool, true, false, ◌&&◌, ◌||◌, inl, inr, refl, ◌∙◌}
use Rattle.std.proofs.Math.Bool.{and_comm, or_comm}
use Rattle.std.proofs.lemmas.Bool.{and_from, and_right, or_from, or_left, or_parts, or_cases, and_parts}
use Rattle.std.specs.Prelude.{◌⊎◌}
use Rattle.history.specs.declared.locks.Mode.TheVariants.{Shared, Exclusive}
use Rattle.history.specs.Locks.{Touch, is_touch, clash}

pub clash_turned : (a b : Touch) → clash a b ≡ clash b a
clash_turned a b =
    or_comm (a Exclusive && is_touch b) (is_touch a && b Exclusive) ∙ (λ i. and_comm (is_touch a) (b Exclusive) i || and_comm (a Exclusive) (is_touch b) i)

-- nothing clashes with a stripe that is not touched
pub clash_none : (a : Touch) → clash a (λ mode. false) ≡ false
clash_none a = or_from (a Exclusive && false) (is_touch a && false) (and_right (a Exclusive) false refl) (and_right (is_touch a) false refl)

or_and : (p q r : Bool) → (p && r) ≡ false → (q && r) ≡ false → ((p || q) && r) ≡ false
or_and true q r one other = one
or_and false q r one other = other

each_and : (p q r : Bool) → ((p || q) && r) ≡ false → ((p && r) ≡ false) × ((q && r) ≡ false)
each_and true q r none = (none, and_right q r none)
each_and false q r none = (refl, none)

-- two touches together clash with none with which neither does
pub clash_more : (a b c : Touch) → clash a c ≡ false → clash b c ≡ false → clash (λ mode. a mode || b mode) c ≡ false
clash_more a b c one other =
    let first = or_parts (a Exclusive && is_touch c) (is_touch a && c Exclusive) one in
    let second = or_parts (b Exclusive && is_touch c) (is_touch b && c Exclusive) other in
    let these = each_and (a Shared) (a Exclusive) (c Exclusive) first.1 in
    let those = each_and (b Shared) (b Exclusive) (c Exclusive) second.1 in
    or_from ((a Exclusive || b Exclusive) && is_touch c) (((a Shared || b Shared) || (a Exclusive || b Exclusive)) && c Exclusive)
    (or_and (a Exclusive) (b Exclusive) (is_touch c) first.0 second.0)
    (or_and (a Shared || b Shared) (a Exclusive || b Exclusive) (c Exclusive)
    (or_and (a Shared) (b Shared) (c Exclusive) these.0 those.0) (or_and (a Exclusive) (b Exclusive) (c Exclusive) these.1 those.1))

-- a touch for writing clashes with every touch
pub clash_written : (a b : Touch) → a Exclusive ≡ true → is_touch b ≡ true → clash a b ≡ true
clash_written a b writes touches = or_left (a Exclusive && is_touch b) (is_touch a && b Exclusive) (and_from (a Exclusive) (is_touch b) writes touches)

-- where two touches clash, one is for writing, and the other is a touch
pub clash_parts : (a b : Touch) → clash a b ≡ true → ((a Exclusive ≡ true) × (is_touch b ≡ true)) ⊎ ((is_touch a ≡ true) × (b Exclusive ≡ true))
clash_parts a b clashes = elim (or_cases (a Exclusive && is_touch b) (is_touch a && b Exclusive) clashes) [
  | inl one ↦ inl (and_parts (a Exclusive) (is_touch b) one)
  | inr other ↦ inr (and_parts (is_touch a) (b Exclusive) other)
]
