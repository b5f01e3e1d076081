-- How many writes satisfy p, after one more write and after a way back.
use Rattle.std.proofs.Common.{◌≡◌, ℕ, ◌+◌, ◌≤◌, Bool, true, false, cond, ◌&&◌, ◌||◌, List, [], ◌∷◌, ◌++◌, length, filter, take, drop, refl, sym, ap, ◌∙◌, arith, length-append, take-append-drop}
use Rattle.std.specs.Prelude.{not, if◌then◌else◌}
use Rattle.std.specs.List.{list_any}
use Rattle.std.proofs.lemmas.List.Elements.{filter-append}
use Rattle.history.specs.Writes.{Write, is_of, replaced, with_write}
use Rattle.history.proofs.Keys.{same_keys}

module _ (p : Write → Bool) where
  -- how many of the writes satisfy p
  counted : List Write → ℕ
  counted writes = length (filter p writes)

  one_if : Bool → ℕ
  one_if true = 1
  one_if false = 0

  counted-next : (write : Write) (writes : List Write) → counted (write ∷ writes) ≡ one_if (p write) + counted writes
  unfolding counted one_if
  counted-next write writes = go (p write)
    where
      go : (b : Bool) → length (cond b (write ∷ filter p writes) (filter p writes)) ≡ one_if b + length (filter p writes)
      go true = omega arith
      go false = omega arith

  counted-append : (writes more : List Write) → counted (writes ++ more) ≡ counted writes + counted more
  unfolding counted
  counted-append writes more = ap length (filter-append p writes more) ∙ length-append (filter p writes) (filter p more)

  module _ (alike : (one other : Write) → one.0 ≡ other.0 → p one ≡ p other) (write : Write) where
    -- a write is counted if there was none of its key
    new_if : Bool → ℕ
    new_if true = 0
    new_if false = one_if (p write)

    counted-replaced : (writes : List Write) → counted (replaced write writes) ≡ counted writes + new_if (list_any (is_of write.0) writes)
    unfolding new_if
    counted-replaced [] = counted-next write [] ∙ (let e : one_if (p write) + counted [] ≡ counted [] + one_if (p write) = omega arith in e)
    counted-replaced (other ∷ writes) = go (is_of write.0 other) (list_any (is_of write.0) writes) refl (counted-replaced writes)
      where
        go : (here later : Bool) → is_of write.0 other ≡ here → counted (replaced write writes) ≡ counted writes + new_if later
            → counted (if here && not later then write ∷ writes else other ∷ replaced write writes) ≡ counted (other ∷ writes) + new_if (here || later)
        go true true is rest = let e = counted-next other (replaced write writes) in let f = counted-next other writes in omega (arith, e, f, rest)
        go true false is rest =
            let e = counted-next write writes in let f = counted-next other writes in
            let same : one_if (p write) ≡ one_if (p other) = ap one_if (alike write other (sym (same_keys other.0 write.0 is))) in
            omega (arith, e, f, same)
        go false later is rest = let e = counted-next other (replaced write writes) in let f = counted-next other writes in omega (arith, e, f, rest)

    counted-with_write : (floor : ℕ) (writes : List Write) → counted (with_write floor write writes) ≡ counted writes + new_if (list_any (is_of write.0) (drop floor writes))
    counted-with_write floor writes =
        let e = counted-append (take floor writes) (replaced write (drop floor writes)) in
        let f = counted-replaced (drop floor writes) in
        let h = counted-append (take floor writes) (drop floor writes) in
        let same : counted (take floor writes ++ drop floor writes) ≡ counted writes = ap counted (take-append-drop floor writes) in
        omega (arith, e, f, h, same)

    -- A write whose key was written after the floor leaves the count as it is,
    pub length-filter-rewritten : (floor : ℕ) (writes : List Write) → list_any (is_of write.0) (drop floor writes) ≡ true
        → length (filter p (with_write floor write writes)) ≡ length (filter p writes)
    unfolding counted new_if
    length-filter-rewritten floor writes is = let e = counted-with_write floor writes ∙ ap (λ (b : Bool). counted writes + new_if b) is in omega (arith, e)

    -- and any other adds itself.
    pub length-filter-anew : (floor : ℕ) (writes : List Write) → list_any (is_of write.0) (drop floor writes) ≡ false
        → length (filter p (with_write floor write writes)) ≡ length (filter p writes) + cond (p write) 1 0
    unfolding counted new_if one_if
    length-filter-anew floor writes none =
        let e = counted-with_write floor writes ∙ ap (λ (b : Bool). counted writes + new_if b) none in
        let one : one_if (p write) ≡ cond (p write) 1 0 = go (p write) in
        omega (arith, e, one)
      where
        go : (b : Bool) → one_if b ≡ cond b 1 0
        go true = refl
        go false = refl

  -- a prefix has no more of them
  pub length-filter-front : (n : ℕ) (writes : List Write) → length (filter p (take n writes)) ≤ length (filter p writes)
  unfolding counted
  length-filter-front n writes =
      let h = counted-append (take n writes) (drop n writes) in
      let same : counted (take n writes ++ drop n writes) ≡ counted writes = ap counted (take-append-drop n writes) in
      omega (arith, h, same)
