-- A write edits the part that the definition names, exactly when there is one; and where parts lie depends on ranges alone.
use Rattle.std.proofs.Common.{◌≡◌, ℕ, zero, suc, ◌+◌, ◌<◌, ◌≤◌, Bool, true, false, cond, ◌&&◌, not, List, [], ◌∷◌, ◌++◌, length, refl, sym, ◌∙◌, ap, subst, arith}
use Rattle.std.specs.Prelude.{max, nat_eq, nat_lt, Option, Some, None, is_some}
use Rattle.std.specs.Option.{option_map}
use Rattle.std.proofs.lemmas.Bool.{and_parts, and_from, and_right, not-true, not_from_false, eqb-true, eq-eqb, lt-ltb, false≢true, false_from_ne_true, ltb-true}
use Rattle.array_shape.specs.Logged.{Part, ranges_of}
use Rattle.eaw_face.specs.State.{edited, range_at}
use Rattle.page_store.specs.Edit.{meet, meets_none, is_same, edit_pos, IsEdited, written_at, with_write, with_range}
use Rattle.page_store.proofs.Writes.{length-edited}
use Rattle.std.proofs.lemmas.List.{length-append}
use Rattle.mars_base.proofs.Puts.{length-put}

meets_none_at : (r : ℕ × ℕ) (qs : List (ℕ × ℕ)) (k : ℕ) → meets_none r qs ≡ true → k < length qs → meet r (range_at qs k) ≡ false
meets_none_at r [] k none lt = absurd (omega arith)
meets_none_at r (q ∷ qs) zero none lt = not-true (meet r q) (and_parts (not (meet r q)) (meets_none r qs) none).0
meets_none_at r (q ∷ qs) (suc k) none lt = meets_none_at r qs k (and_parts (not (meet r q)) (meets_none r qs) none).1 (omega arith)

meets_none_from : (r : ℕ × ℕ) (qs : List (ℕ × ℕ)) → ((k : ℕ) → k < length qs → meet r (range_at qs k) ≡ false) → meets_none r qs ≡ true
meets_none_from r [] each = refl
meets_none_from r (q ∷ qs) each = and_from (not (meet r q)) (meets_none r qs) (not_from_false (meet r q) (each 0 (omega arith))) (meets_none_from r qs (λ k lt. each (suc k) (omega arith)))

meets_itself : (r : ℕ × ℕ) → 0 < r.1 → meet r r ≡ true
meets_itself r some = and_from (nat_lt r.0 (r.0 + r.1)) (nat_lt r.0 (r.0 + r.1)) (lt-ltb r.0 (r.0 + r.1) (omega arith)) (lt-ltb r.0 (r.0 + r.1) (omega arith))

-- from the ranges after the first to all of them, and back
later : (floor : ℕ) (r q : ℕ × ℕ) (qs : List (ℕ × ℕ)) (k floor' : ℕ) → floor' ≤ suc floor → IsEdited floor r qs k → IsEdited floor' r (q ∷ qs) (suc k)
later floor r q qs k floor' le is = record {
  from = omega (arith, is.from);
  there = omega (arith, is.there);
  same = is.same;
  last = last;
}
  where
    last : (j : ℕ) → suc k < j → j < length (q ∷ qs) → meet r (range_at (q ∷ qs) j) ≡ false
    last zero above lt = absurd (omega arith)
    last (suc j) above lt = is.last j (omega arith) (omega arith)

sooner : (floor : ℕ) (r q : ℕ × ℕ) (qs : List (ℕ × ℕ)) (k floor' : ℕ) → floor ≤ k → IsEdited floor' r (q ∷ qs) (suc k) → IsEdited floor r qs k
sooner floor r q qs k floor' le is = record {
  from = le;
  there = omega (arith, is.there);
  same = is.same;
  last = λ j above lt. is.last (suc j) (omega arith) (omega arith);
}

module _ (r : ℕ × ℕ) where
  pub edit_found : (floor : ℕ) (ranges : List (ℕ × ℕ)) (pos : ℕ) → edit_pos floor r ranges ≡ Some pos → IsEdited floor r ranges pos
  edit_found floor [] pos found = cc
  edit_found (suc floor) (q ∷ qs) pos found = go (λ k is. edit_found floor qs k is) (edit_pos floor r qs) refl found
    where
      go : ((k : ℕ) → edit_pos floor r qs ≡ Some k → IsEdited floor r qs k) → (o : Option ℕ) → edit_pos floor r qs ≡ o → option_map suc o ≡ Some pos → IsEdited (suc floor) r (q ∷ qs) pos
      go rest None is found' = cc
      go rest (Some k) is found' = let e : suc k ≡ pos = cc in subst (IsEdited (suc floor) r (q ∷ qs)) e (later floor r q qs k (suc floor) (omega arith) (rest k is))
  edit_found zero (q ∷ qs) pos found = go (λ k is. edit_found zero qs k is) (is_same r q && meets_none r qs) refl (edit_pos zero r qs) refl found
    where
      go : ((k : ℕ) → edit_pos zero r qs ≡ Some k → IsEdited zero r qs k) → (b : Bool) → (is_same r q && meets_none r qs) ≡ b → (o : Option ℕ) → edit_pos zero r qs ≡ o → cond b (Some 0) (option_map suc o) ≡ Some pos → IsEdited zero r (q ∷ qs) pos
      go rest true is o is' found' =
          let both = and_parts (is_same r q) (meets_none r qs) is in
          let eqs = and_parts (nat_eq r.0 q.0) (nat_eq r.1 q.1) both.0 in
          let e : 0 ≡ pos = cc in
          let a : q.0 ≡ r.0 = sym (eqb-true r.0 q.0 eqs.0) in
          let b : q.1 ≡ r.1 = sym (eqb-true r.1 q.1 eqs.1) in
          subst (IsEdited zero r (q ∷ qs)) e (record { from = omega arith; there = omega arith; same = λ i. (a i, b i); last = last both.1 })
        where
          last : meets_none r qs ≡ true → (j : ℕ) → 0 < j → j < length (q ∷ qs) → meet r (range_at (q ∷ qs) j) ≡ false
          last none zero above lt = absurd (omega arith)
          last none (suc j) above lt = meets_none_at r qs j none (omega arith)
      go rest false is None is' found' = cc
      go rest false is (Some k) is' found' = let e : suc k ≡ pos = cc in subst (IsEdited zero r (q ∷ qs)) e (later zero r q qs k zero (omega arith) (rest k is'))

  pub edit_there : (floor : ℕ) (ranges : List (ℕ × ℕ)) (pos : ℕ) → 0 < r.1 → IsEdited floor r ranges pos → edit_pos floor r ranges ≡ Some pos
  edit_there floor [] pos some is = absurd (omega (arith, is.there))
  edit_there (suc floor) (q ∷ qs) zero some is = absurd (omega (arith, is.from))
  edit_there (suc floor) (q ∷ qs) (suc k) some is = ap (option_map suc) (edit_there floor qs k some (sooner floor r q qs k (suc floor) (omega (arith, is.from)) is))
  edit_there zero (q ∷ qs) zero some is =
      let none : meets_none r qs ≡ true = meets_none_from r qs (λ k lt. is.last (suc k) (omega arith) (omega arith)) in
      let same : is_same r q ≡ true = and_from (nat_eq r.0 q.0) (nat_eq r.1 q.1) (eq-eqb r.0 q.0 (λ i. (sym is.same i).0)) (eq-eqb r.1 q.1 (λ i. (sym is.same i).1)) in
      ap (λ (b : Bool). cond b (Some 0) (option_map suc (edit_pos zero r qs))) (and_from (is_same r q) (meets_none r qs) same none)
  edit_there zero (q ∷ qs) (suc k) some is =
      let not_none : meets_none r qs ≡ false = false_from_ne_true (meets_none r qs) (λ none. false≢true (sym (meets_none_at r qs k none (omega (arith, is.there))) ∙ ap (meet r) is.same ∙ meets_itself r some)) in
      ap (λ (b : Bool). cond b (Some 0) (option_map suc (edit_pos zero r qs))) (and_right (is_same r q) (meets_none r qs) not_none)
      ∙ ap (option_map suc) (edit_there zero qs k some (sooner zero r q qs k zero (omega arith) is))

-- an edit of a whole part leaves the ranges
edited_ranges : (pos : ℕ) (addr : ℕ) (bytes : List ℕ) (log : List Part) → range_at (ranges_of log) pos ≡ (addr, length bytes) → ranges_of (edited pos 0 bytes log) ≡ ranges_of log
edited_ranges pos addr bytes [] same = refl
edited_ranges zero addr bytes (p ∷ ps) same = ap (λ (n : ℕ). (p.0, n) ∷ ranges_of ps) (length-put p.1 0 bytes (omega (arith, ap (λ (r : ℕ × ℕ). r.1) same)))
edited_ranges (suc pos) addr bytes (p ∷ ps) same = ap (λ (rs : List (ℕ × ℕ)). (p.0, length p.1) ∷ rs) (edited_ranges pos addr bytes ps same)

ranges-append : (ps qs : List Part) → ranges_of (ps ++ qs) ≡ ranges_of ps ++ ranges_of qs
ranges-append [] qs = refl
ranges-append (p ∷ ps) qs = ap (λ (rs : List (ℕ × ℕ)). (p.0, length p.1) ∷ rs) (ranges-append ps qs)

-- where the parts lie after a write, by where they lay
pub write_ranges : (floor addr : ℕ) (bytes : List ℕ) (log : List Part) → ranges_of (with_write floor addr bytes log) ≡ with_range floor (addr, length bytes) (ranges_of log)
write_ranges floor addr bytes log = go (edit_pos floor (addr, length bytes) (ranges_of log)) refl
  where
    go : (o : Option ℕ) → edit_pos floor (addr, length bytes) (ranges_of log) ≡ o → ranges_of (written_at o addr bytes log) ≡ cond (is_some o) (ranges_of log) (ranges_of log ++ (addr, length bytes) ∷ [])
    go None is = ranges-append log ((addr, bytes) ∷ [])
    go (Some pos) is = edited_ranges pos addr bytes log (edit_found (addr, length bytes) floor (ranges_of log) pos is).same

-- one more part if none is edited, else as many
pub write_length : (floor addr : ℕ) (bytes : List ℕ) (log : List Part) → length (with_write floor addr bytes log) ≡ cond (is_some (edit_pos floor (addr, length bytes) (ranges_of log))) (length log) (length log + 1)
write_length floor addr bytes log = go (edit_pos floor (addr, length bytes) (ranges_of log))
  where
    go : (o : Option ℕ) → length (written_at o addr bytes log) ≡ cond (is_some o) (length log) (length log + 1)
    go None = length-append log ((addr, bytes) ∷ []) ∙ omega arith
    go (Some pos) = length-edited pos 0 bytes log

-- nonempty ranges meet exactly when a byte lies in both
pub met_by_bytes : (r q : ℕ × ℕ) → 0 < r.1 → 0 < q.1 → ((i : ℕ) → r.0 ≤ i → i < r.0 + r.1 → q.0 ≤ i → i < q.0 + q.1 → ⊥) → meet r q ≡ false
met_by_bytes r q some some' none = false_from_ne_true (meet r q) (λ met.
    let both = and_parts (nat_lt r.0 (q.0 + q.1)) (nat_lt q.0 (r.0 + r.1)) met in
    let a : r.0 < q.0 + q.1 = ltb-true r.0 (q.0 + q.1) both.0 in
    let b : q.0 < r.0 + r.1 = ltb-true q.0 (r.0 + r.1) both.1 in
    none (max r.0 q.0) (omega arith) (omega arith) (omega arith) (omega arith))
