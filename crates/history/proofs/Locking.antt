-- Strict locking: what a transaction replies and leaves depends only on what it touched, and it changes nothing else.
use Rattle.std.proofs.Common.{◌≡◌, ℕ, zero, suc, ◌+◌, ◌-◌, Bool, true, false, cond, ◌&&◌, nat_eq, nat_lt, nat_le, List, [], ◌∷◌, ◌++◌, length, take, get_or, Option, Some, None, refl, sym, ap, subst, ◌∙◌, arith, lt-ltb, eq-eqb}
use Rattle.std.proofs.lemmas.Bool.{or_left, or_right, false_from_ne_true, both_ways}
use Rattle.history.specs.Key.{Key, of_table}
use Rattle.history.specs.Writes.{Table, set_or_remove, rows_within}
use Rattle.history.specs.Table.{Granted, Work, begun, found, removed, has_save, Answers, after, worked, IsRightFrom, IsRight, left_by}
use Rattle.history.specs.declared.locks.Mode.TheVariants.{Shared, Exclusive}
use Rattle.history.specs.Locks.{key_stripe, touches, touched, has_touched, has_written, clash, AreApart, Agree, AgreeOff}
use Rattle.history.specs.declared.call.TableCall.{TableCall}
use Rattle.history.specs.declared.call.TableCall.TheVariants.{Get, Put, Del, Scan, Save, Back}
use Rattle.history.specs.declared.call.Reply.{Reply}
use Rattle.history.specs.declared.call.Reply.TheVariants.{Saved, Listed}
use Rattle.history.proofs.Modes.{clash_written}
use Rattle.history.proofs.Agreeing.{agree-set, off-set, agree_all}

-- two lists of tables are related pair by pair
abbrev Pairwise : (Table → Table → Type 0) → List Table → List Table → Type 0
Pairwise P [] [] = Unit {0}
Pairwise P [] (y ∷ ys) = ⊥
Pairwise P (x ∷ xs) [] = ⊥
Pairwise P (x ∷ xs) (y ∷ ys) = P x y × Pairwise P xs ys

module _ (P : Table → Table → Type 0) where
  pairs-length : (xs ys : List Table) → Pairwise P xs ys → length xs ≡ length ys
  pairs-length [] [] pairs = refl
  pairs-length [] (y ∷ ys) pairs = absurd pairs
  pairs-length (x ∷ xs) [] pairs = absurd pairs
  pairs-length (x ∷ xs) (y ∷ ys) pairs = ap suc (pairs-length xs ys pairs.1)

  pairs-push : (xs ys : List Table) (x y : Table) → Pairwise P xs ys → P x y → Pairwise P (xs ++ x ∷ []) (ys ++ y ∷ [])
  pairs-push [] [] a b pairs pair = (pair, tt)
  pairs-push [] (y ∷ ys) a b pairs pair = absurd pairs
  pairs-push (x ∷ xs) [] a b pairs pair = absurd pairs
  pairs-push (x ∷ xs) (y ∷ ys) a b pairs pair = (pairs.0, pairs-push xs ys a b pairs.1 pair)

  pairs-take : (n : ℕ) (xs ys : List Table) → Pairwise P xs ys → Pairwise P (take n xs) (take n ys)
  pairs-take zero xs ys pairs = tt
  pairs-take (suc n) [] [] pairs = tt
  pairs-take (suc n) [] (y ∷ ys) pairs = absurd pairs
  pairs-take (suc n) (x ∷ xs) [] pairs = absurd pairs
  pairs-take (suc n) (x ∷ xs) (y ∷ ys) pairs = (pairs.0, pairs-take n xs ys pairs.1)

  pairs-get : (n : ℕ) (xs ys : List Table) (a b : Table) → Pairwise P xs ys → P a b → P (get_or xs n a) (get_or ys n b)
  pairs-get n [] [] a b pairs pair = pair
  pairs-get n [] (y ∷ ys) a b pairs pair = absurd pairs
  pairs-get n (x ∷ xs) [] a b pairs pair = absurd pairs
  pairs-get zero (x ∷ xs) (y ∷ ys) a b pairs pair = pairs.0
  pairs-get (suc n) (x ∷ xs) (y ∷ ys) a b pairs pair = pairs-get n xs ys a b pairs.1 pair

-- The two tables agree at the keys, and the second is like the start at every key that is not written.
record IsLike (keys written : Key → Bool) (start one other : Table) : Type 0 where
  same : Agree keys one other
  off : AgreeOff written other start

-- so are the tables of two transactions and their saves, pair by pair
record IsAlike (keys written : Key → Bool) (start : Table) (one other : Work) : Type 0 where
  tables : IsLike keys written start one.table other.table
  saves : Pairwise (IsLike keys written start) one.saves other.saves

-- every key that the call touches is among the keys, and every key that it touches for writing among those written
record Within (names : List (List ℕ)) (keys written : Key → Bool) (call : TableCall) : Type 0 where
  reads : (key : Key) → touches names call (key_stripe names key) Shared ≡ true → keys key ≡ true
  writes : (key : Key) → touches names call (key_stripe names key) Exclusive ≡ true → (keys key ≡ true) × (written key ≡ true)

-- every key that the calls touch is so
record AllWithin (names : List (List ℕ)) (keys written : Key → Bool) (calls : Granted) : Type 0 where
  reads : (key : Key) → touched names calls (key_stripe names key) Shared ≡ true → keys key ≡ true
  writes : (key : Key) → touched names calls (key_stripe names key) Exclusive ≡ true → (keys key ≡ true) × (written key ≡ true)

module _ (names : List (List ℕ)) (keys written : Key → Bool) (start : Table) where
  like-set : (one other : Table) (k : Key) (v : Option (List ℕ)) → written k ≡ true → IsLike keys written start one other → IsLike keys written start (set_or_remove one k v) (set_or_remove other k v)
  like-set one other k v within like = record { same = agree-set keys one other k v like.same; off = off-set written other start k v within like.off }

  alike-back : (n : ℕ) (one other : Work) (b : Bool) → IsAlike keys written start one other
      → IsAlike keys written start (cond b (record { table = get_or one.saves (n - 1) one.table; saves = take n one.saves }) one)
      (cond b (record { table = get_or other.saves (n - 1) other.table; saves = take n other.saves }) other)
  alike-back n one other false alike = alike
  alike-back n one other true alike = record {
    tables = pairs-get (IsLike keys written start) (n - 1) one.saves other.saves one.table other.table alike.saves alike.tables;
    saves = pairs-take (IsLike keys written start) n one.saves other.saves alike.saves;
  }

  same_height : (one other : Work) → IsAlike keys written start one other → length one.saves ≡ length other.saves
  same_height one other alike = pairs-length (IsLike keys written start) one.saves other.saves alike.saves

  same_saves : (n : ℕ) (one other : Work) → IsAlike keys written start one other → has_save one.saves n ≡ has_save other.saves n
  same_saves n one other alike = ap (λ (height : ℕ). nat_lt 0 n && nat_le n height) (same_height one other alike)

  own_key : (k : Key) → nat_eq (key_stripe names k) (key_stripe names k) ≡ true
  own_key k = eq-eqb (key_stripe names k) (key_stripe names k) refl

  any_key : (k : Key) → nat_lt (key_stripe names k) 64 ≡ true
  any_key k = lt-ltb (key_stripe names k) 64 (omega arith)

  after-alike : (call : TableCall) (one other : Work) → Within names keys written call → IsAlike keys written start one other → IsAlike keys written start (after one call) (after other call)
  after-alike (Get t k) one other within alike = alike
  after-alike (Put t k v) one other within alike = record { tables = like-set one.table other.table (of_table t k) (Some v) (within.writes (of_table t k) (own_key (of_table t k))).1 alike.tables; saves = alike.saves }
  after-alike (Del t k) one other within alike = record { tables = like-set one.table other.table (of_table t k) None (within.writes (of_table t k) (own_key (of_table t k))).1 alike.tables; saves = alike.saves }
  after-alike (Scan t low high) one other within alike = alike
  after-alike Save one other within alike = record { tables = alike.tables; saves = pairs-push (IsLike keys written start) one.saves other.saves one.table other.table alike.saves alike.tables }
  after-alike (Back n) one other within alike =
      subst (λ b. IsAlike keys written start (after one (Back n)) (cond b (record { table = get_or other.saves (n - 1) other.table; saves = take n other.saves }) other))
      (same_saves n one other alike) (alike-back n one other (has_save one.saves n) alike)

  answers-alike : (call : TableCall) (reply : Reply) (one other : Work) → Within names keys written call → IsAlike keys written start one other → Answers one call reply → Answers other call reply
  answers-alike (Get t k) reply one other within alike answers = answers ∙ ap found (alike.tables.same (of_table t k) (within.reads (of_table t k) (own_key (of_table t k))))
  answers-alike (Put t k v) reply one other within alike answers = answers
  answers-alike (Del t k) reply one other within alike answers = answers ∙ ap removed (alike.tables.same (of_table t k) (within.writes (of_table t k) (own_key (of_table t k))).0)
  answers-alike (Scan t low high) reply one other within alike answers =
      answers ∙ ap (λ (table : Table). Listed (rows_within t low high table)) (agree_all keys one.table other.table (λ k. within.reads k (any_key k)) alike.tables.same)
  answers-alike Save reply one other within alike answers = answers ∙ ap (λ (height : ℕ). Saved (height + 1)) (same_height one other alike)
  answers-alike (Back n) reply one other within alike answers = (sym (same_saves n one other alike) ∙ answers.0, answers.1)

  head_within : (entry : TableCall × Reply) (calls : Granted) → AllWithin names keys written (entry ∷ calls) → Within names keys written entry.0
  head_within entry calls within = record {
    reads = λ key at. within.reads key (or_left (touches names entry.0 (key_stripe names key) Shared) (touched names calls (key_stripe names key) Shared) at);
    writes = λ key at. within.writes key (or_left (touches names entry.0 (key_stripe names key) Exclusive) (touched names calls (key_stripe names key) Exclusive) at);
  }

  tail_within : (entry : TableCall × Reply) (calls : Granted) → AllWithin names keys written (entry ∷ calls) → AllWithin names keys written calls
  tail_within entry calls within = record {
    reads = λ key at. within.reads key (or_right (touches names entry.0 (key_stripe names key) Shared) (touched names calls (key_stripe names key) Shared) at);
    writes = λ key at. within.writes key (or_right (touches names entry.0 (key_stripe names key) Exclusive) (touched names calls (key_stripe names key) Exclusive) at);
  }

  worked-alike : (calls : Granted) (one other : Work) → AllWithin names keys written calls → IsAlike keys written start one other → IsAlike keys written start (worked one calls) (worked other calls)
  worked-alike [] one other within alike = alike
  worked-alike (entry ∷ calls) one other within alike =
      worked-alike calls (after one entry.0) (after other entry.0) (tail_within entry calls within) (after-alike entry.0 one other (head_within entry calls within) alike)

  right-alike : (calls : Granted) (one other : Work) → AllWithin names keys written calls → IsAlike keys written start one other → IsRightFrom one calls → IsRightFrom other calls
  right-alike [] one other within alike right = tt
  right-alike (entry ∷ calls) one other within alike right = (
    answers-alike entry.0 entry.1 one other (head_within entry calls within) alike right.0,
    right-alike calls (after one entry.0) (after other entry.0) (tail_within entry calls within) (after-alike entry.0 one other (head_within entry calls within) alike) right.1,
  )

begun-alike : (keys written : Key → Bool) (one other : Table) → Agree keys one other → IsAlike keys written other (begun one) (begun other)
begun-alike keys written one other agree = record { tables = record { same = agree; off = λ key out. refl }; saves = tt }

all_within : (names : List (List ℕ)) (calls : Granted) → AllWithin names (has_touched names calls) (has_written names calls) calls
all_within names calls = record {
  reads = λ key at. or_left (touched names calls (key_stripe names key) Shared) (touched names calls (key_stripe names key) Exclusive) at;
  writes = λ key at. (or_right (touched names calls (key_stripe names key) Shared) (touched names calls (key_stripe names key) Exclusive) at, at);
}

module _ (names : List (List ℕ)) (calls : Granted) (one other : Table) (agree : Agree (has_touched names calls) one other) where
  start_alike : IsAlike (has_touched names calls) (has_written names calls) other (begun one) (begun other)
  start_alike = begun-alike (has_touched names calls) (has_written names calls) one other agree

  -- Strict locking: calls that are right on a table are right, with the same replies, on a table that agrees with it at what they touched.
  pub locked_right : IsRight one calls → IsRight other calls
  locked_right right = right-alike names (has_touched names calls) (has_written names calls) other calls (begun one) (begun other) (all_within names calls) start_alike right

  -- Then what they leave of the two tables agrees at what they touched.
  pub locked_same : Agree (has_touched names calls) (left_by one calls) (left_by other calls)
  locked_same = (worked-alike names (has_touched names calls) (has_written names calls) other calls (begun one) (begun other) (all_within names calls) start_alike).tables.same

-- A transaction changes nothing that it did not touch for writing.
pub unwritten_kept : (names : List (List ℕ)) (calls : Granted) (table : Table) → AgreeOff (has_written names calls) (left_by table calls) table
unwritten_kept names calls table =
    (worked-alike names (has_touched names calls) (has_written names calls) table calls (begun table) (begun table) (all_within names calls)
    (begun-alike (has_touched names calls) (has_written names calls) table table (λ key at. refl))).tables.off

module _ (names : List (List ℕ)) (table : Table) (committed calls : Granted) (apart : AreApart names committed calls) where
  -- a transaction changes nothing that another touched, if they clash nowhere
  pub agrees_after : Agree (has_touched names calls) table (left_by table committed)
  agrees_after key at = sym (unwritten_kept names committed table key (false_from_ne_true (has_written names committed key) (λ writes.
      both_ways (clash (touched names committed (key_stripe names key)) (touched names calls (key_stripe names key))) (apart (key_stripe names key)) (clash_written (touched names committed (key_stripe names key)) (touched names calls (key_stripe names key)) writes at))))

  -- So calls that are right stay right when such a transaction commits,
  pub right_after : IsRight table calls → IsRight (left_by table committed) calls
  right_after right = locked_right names calls table (left_by table committed) agrees_after right

  -- and they still leave the same at what they touched.
  pub same_after : Agree (has_touched names calls) (left_by table calls) (left_by (left_by table committed) calls)
  same_after = locked_same names calls table (left_by table committed) agrees_after
