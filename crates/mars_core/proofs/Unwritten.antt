-- A transaction that touches the stripe of a key for writing nowhere has not written the key.
use Rattle.std.proofs.Common.{◌≡◌, ℕ, zero, suc, ◌-◌, ◌||◌, ◌&&◌, Bool, true, false, cond, List, [], ◌∷◌, ◌++◌, take, drop, get_or, refl, sym, ap, ◌∙◌, eq-eqb}
use Rattle.std.specs.Prelude.{nat_eq, not, Some, None}
use Rattle.std.specs.List.{fold, list_any}
use Rattle.std.proofs.lemmas.Bool.{false_from_ne_true, true≢false, or_parts, or_from}
use Rattle.history.specs.Key.{is_same_key, of_table}
use Rattle.history.specs.declared.key.Key.{Key}
use Rattle.history.proofs.Keys.{same_keys}
use Rattle.history.specs.Locks.{key_stripe, touches, touched, Meets}
use Rattle.history.specs.declared.locks.Mode.TheVariants.{Shared, Exclusive}
use Rattle.history.specs.Log.{Log, save_at, floor_of, log_after, log_of}
use Rattle.history.specs.Table.{Granted, has_save}
use Rattle.history.specs.Writes.{Write, is_of, replaced, with_write}
use Rattle.history.specs.declared.call.TableCall.{TableCall}
use Rattle.history.specs.declared.call.TableCall.TheVariants.{Put, Del, Save, Back}
use Rattle.history.specs.declared.call.Reply.{Reply}
use Rattle.history.specs.declared.call.Reply.TheVariants.{Fine}

module _ (names : List (List ℕ)) (key : Key) where
  any : List Write → Bool
  any writes = list_any (is_of key) writes

  any-append : (xs ys : List Write) → list_any (is_of key) xs ≡ false → list_any (is_of key) ys ≡ false → list_any (is_of key) (xs ++ ys) ≡ false
  any-append [] ys a b = b
  any-append (x ∷ xs) ys a b = let p = or_parts (is_of key x) (list_any (is_of key) xs) a in or_from (is_of key x) (list_any (is_of key) (xs ++ ys)) p.0 (any-append xs ys p.1 b)

  any-take : (n : ℕ) (xs : List Write) → list_any (is_of key) xs ≡ false → list_any (is_of key) (take n xs) ≡ false
  any-take zero xs a = refl
  any-take (suc n) [] a = refl
  any-take (suc n) (x ∷ xs) a = let p = or_parts (is_of key x) (list_any (is_of key) xs) a in or_from (is_of key x) (list_any (is_of key) (take n xs)) p.0 (any-take n xs p.1)

  any-drop : (n : ℕ) (xs : List Write) → list_any (is_of key) xs ≡ false → list_any (is_of key) (drop n xs) ≡ false
  any-drop zero xs a = a
  any-drop (suc n) [] a = refl
  any-drop (suc n) (x ∷ xs) a = any-drop n xs (or_parts (is_of key x) (list_any (is_of key) xs) a).1

  module _ (write : Write) (apart : is_of key write ≡ false) where
    any-replaced : (xs : List Write) → list_any (is_of key) xs ≡ false → list_any (is_of key) (replaced write xs) ≡ false
    any-replaced [] a = or_from (is_of key write) false apart refl
    any-replaced (x ∷ xs) a =
        let p = or_parts (is_of key x) (list_any (is_of key) xs) a in
        go (is_of write.0 x && not (list_any (is_of write.0) xs)) (or_from (is_of key write) (list_any (is_of key) xs) apart p.1) (or_from (is_of key x) (list_any (is_of key) (replaced write xs)) p.0 (any-replaced xs p.1))
      where
        go : (b : Bool) → list_any (is_of key) (write ∷ xs) ≡ false → list_any (is_of key) (x ∷ replaced write xs) ≡ false → list_any (is_of key) (cond b (write ∷ xs) (x ∷ replaced write xs)) ≡ false
        go true a b = a
        go false a b = b

    any-written : (n : ℕ) (xs : List Write) → list_any (is_of key) xs ≡ false → list_any (is_of key) (with_write n write xs) ≡ false
    any-written n xs a = any-append (take n xs) (replaced write (drop n xs)) (any-take n xs a) (any-replaced (drop n xs) (any-drop n xs a))

  -- no save has a write of the key
  AreSpared : List (List Write) → Type 0
  AreSpared [] = Unit {0}
  AreSpared (writes ∷ saves) = (list_any (is_of key) writes ≡ false) × AreSpared saves

  spared-append : (saves : List (List Write)) (writes : List Write) → AreSpared saves → list_any (is_of key) writes ≡ false → AreSpared (saves ++ writes ∷ [])
  unfolding AreSpared
  spared-append [] writes all one = (one, tt)
  spared-append (save ∷ saves) writes all one = (all.0, spared-append saves writes all.1 one)

  spared-take : (n : ℕ) (saves : List (List Write)) → AreSpared saves → AreSpared (take n saves)
  unfolding AreSpared
  spared-take zero saves all = tt
  spared-take (suc n) [] all = tt
  spared-take (suc n) (save ∷ saves) all = (all.0, spared-take n saves all.1)

  spared-at : (n : ℕ) (saves : List (List Write)) → AreSpared saves → list_any (is_of key) (get_or saves n []) ≡ false
  unfolding AreSpared
  spared-at n [] all = refl
  spared-at zero (save ∷ saves) all = all.0
  spared-at (suc n) (save ∷ saves) all = spared-at n saves all.1

  record IsSpared (log : Log) : Type 0 where
    now : list_any (is_of key) log.writes ≡ false
    saved : AreSpared log.saved

  wrote : (log : Log) (write : Write) → is_of key write ≡ false → IsSpared log → IsSpared (record log { writes = with_write (floor_of log) write log.writes })
  wrote log write apart spared = record { now = any-written write apart (floor_of log) log.writes spared.now; saved = spared.saved }

  apart_of : (other : Key) → nat_eq (key_stripe names other) (key_stripe names key) ≡ false → is_same_key other key ≡ false
  apart_of other ne = false_from_ne_true (is_same_key other key) (λ same. true≢false (sym (eq-eqb (key_stripe names other) (key_stripe names key) (ap (key_stripe names) (same_keys other key same))) ∙ ne))

  back : (b : Bool) (log : Log) (n : ℕ) → IsSpared log → IsSpared (cond b (record { writes = save_at log.saved n; saved = take n log.saved }) log)
  back true log n spared = record { now = spared-at (n - 1) log.saved spared.saved; saved = spared-take n log.saved spared.saved }
  back false log n spared = spared

  after : (log : Log) (call : TableCall) (reply : Reply) → touches names call (key_stripe names key) Exclusive ≡ false → IsSpared log → IsSpared (log_after log call reply)
  after log (Put name other value) reply none spared = wrote log (of_table name other, Some value) (apart_of (of_table name other) none) spared
  after log (Del name other) Fine none spared = wrote log (of_table name other, None) (apart_of (of_table name other) none) spared
  after log Save reply none spared = record { now = spared.now; saved = spared-append log.saved log.writes spared.saved spared.now }
  after log (Back n) reply none spared = back (has_save log.saved n) log n spared
  after log _ reply none spared = spared

  all_after : (calls : Granted) (log : Log) → touched names calls (key_stripe names key) Exclusive ≡ false → IsSpared log → IsSpared (fold (λ was entry. log_after was entry.0 entry.1) log calls)
  all_after [] log none spared = spared
  all_after (entry ∷ calls) log none spared =
      let p = or_parts (touches names entry.0 (key_stripe names key) Exclusive) (touched names calls (key_stripe names key) Exclusive) none in
      all_after calls (log_after log entry.0 entry.1) p.1 (after log entry.0 entry.1 p.0 spared)

  clashes : (x a b c : Bool) → a ≡ true → c ≡ true → ((a && (b || c)) || ((x || a) && c)) ≡ true
  clashes x true true true p q = refl
  clashes x true false true p q = refl
  clashes x false b c p q = absurd (cc)
  clashes x true b false p q = absurd (cc)

  pub unwritten : (calls : Granted) → (Meets names (Del key.table key.key) calls → ⊥) → list_any (is_of key) (log_of calls).writes ≡ false
  unfolding AreSpared
  unwritten calls none =
      let untouched : touched names calls (key_stripe names key) Exclusive ≡ false = false_from_ne_true (touched names calls (key_stripe names key) Exclusive) (λ is. none (
        key_stripe names key,
        clashes (touches names (Del key.table key.key) (key_stripe names key) Shared) (touches names (Del key.table key.key) (key_stripe names key) Exclusive) (touched names calls (key_stripe names key) Shared) (touched names calls (key_stripe names key) Exclusive) (eq-eqb (key_stripe names key) (key_stripe names key) refl) is,
      )) in
      (all_after calls (record { writes = []; saved = [] }) untouched (record { now = refl; saved = tt })).now
