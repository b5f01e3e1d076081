-- The sum of a table after a transfer.
use Rattle.std.proofs.Common.{T, ◌≡◌, ◌≢◌, ℕ, ◌+◌, ◌-◌, ◌<◌, ◌≤◌, Bool, true, false, cond, ⊎_elim, List, [], ◌∷◌, ◌++◌, length, take, Option, Some, None, refl, sym, ◌∙◌, ap, arith}
use Rattle.std.specs.Prelude.{IsTrue, ◌&&◌, decimal}
use Rattle.std.specs.declared.cmp.Ordering.{Ordering}
use Rattle.std.specs.declared.cmp.Ordering.TheVariants.{Less, Equal, Greater}
use Rattle.std.specs.Ordering.{is_lt, is_eq}
use Rattle.std.specs.List.{sum_by}
use Rattle.std.specs.FinMap.{get, insert, entries, entries_sorted, entries-insert, get-entries, find, put, is_sorted}
use Rattle.std.proofs.Math.Nat.{le_refl}
use Rattle.std.proofs.lemmas.Bool.{false≢true, cases_lt}
use Rattle.std.proofs.lemmas.List.{take-append-le, take_all, length-append}
use Rattle.std.proofs.lemmas.Fmt.{decimal_is_IsNumeral}
use Rattle.std.proofs.lemmas.List.Sums.{fold-append, sum_by-cons}
use Rattle.history.specs.Key.{key_cmp, of_main}
use Rattle.history.specs.declared.key.Key.{Key}
use Rattle.history.proofs.Keys.{key_cmp_total}
use Rattle.history.specs.Writes.{Table, set_or_remove}
use Rattle.history.specs.Table.{left_by}
use Rattle.history.specs.Legal.{records}
use Rattle.history.specs.declared.transaction.Done.{Done}
use Rattle.bank.specs.Accounts.{worth, sum_of, Transfers, KeepsSum}

first_of_both : (a b : Bool) → IsTrue (a && b) → IsTrue a
first_of_both true b h = refl
first_of_both false b h = h

second_of_both : (a b : Bool) → IsTrue (a && b) → IsTrue b
second_of_both true b h = h
second_of_both false b h = absurd (false≢true h)

true_of : (b : Bool) → T b → IsTrue b
true_of true h = refl
true_of false h = absurd h

is_less : (o : Ordering) → IsTrue (is_lt o) → o ≡ Less
is_less Less h = refl
is_less Equal h = absurd (false≢true h)
is_less Greater h = absurd (false≢true h)

abbrev sum_in : List (Key × List ℕ) → ℕ
sum_in es = sum_by (λ (row : Key × List ℕ). worth row.1) es

-- one more row
sum_more : (e : Key × List ℕ) (es : List (Key × List ℕ)) → sum_in (e ∷ es) ≡ worth e.1 + sum_in es
sum_more e es = sum_by-cons (λ (row : Key × List ℕ). worth row.1) e es

-- a key below the first of sorted rows is not among the later ones
none_below : (k : Key) (e : Key × List ℕ) (es : List (Key × List ℕ)) → IsTrue (is_sorted key_cmp (e ∷ es)) → key_cmp k e.0 ≡ Less → find key_cmp k es ≡ None
none_below k e [] sorted less = refl
none_below k e (f ∷ es) sorted less =
    let next : key_cmp e.0 f.0 ≡ Less = is_less (key_cmp e.0 f.0) (first_of_both _ _ (first_of_both _ _ sorted)) in
    let here : key_cmp k f.0 ≡ Less = key_cmp_total.trans k e.0 f.0 less next in
    ap (λ (o : Ordering). cond (is_eq o) (Some f.1) (find key_cmp k es)) here ∙ none_below k f es (second_of_both _ _ sorted) here

sum_put : (k : Key) (v was : List ℕ) (es : List (Key × List ℕ)) → IsTrue (is_sorted key_cmp es) → find key_cmp k es ≡ Some was → sum_in (put key_cmp k v es) + worth was ≡ sum_in es + worth v
sum_put k v was [] sorted there = cc
sum_put k v was (e ∷ es) sorted there = by (key_cmp k e.0) refl (λ rest. sum_put k v was es (second_of_both _ _ sorted) rest)
  where
    at : (o : Ordering) → key_cmp k e.0 ≡ o → cond (is_eq o) (Some e.1) (find key_cmp k es) ≡ Some was
    at o is = sym (ap (λ (o : Ordering). cond (is_eq o) (Some e.1) (find key_cmp k es)) is) ∙ there

    by : (o : Ordering) → key_cmp k e.0 ≡ o → (find key_cmp k es ≡ Some was → sum_in (put key_cmp k v es) + worth was ≡ sum_in es + worth v)
        → sum_in (put key_cmp k v (e ∷ es)) + worth was ≡ sum_in (e ∷ es) + worth v
    by Less is rest = absurd (let e : None ≡ Some was = sym (none_below k e es sorted is) ∙ at Less is in cc)
    by Equal is rest =
        let same : worth e.1 ≡ worth was = let eq : e.1 ≡ was = (let here = at Equal is in cc) in ap (λ (t : List ℕ). worth t) eq in
        rw is (omega (arith, sum_more (e.0, v) es, sum_more e es, same))
    by Greater is rest = rw is (omega (arith, sum_more e (put key_cmp k v es), sum_more e es, rest (at Greater is)))

-- one value replaces another
pub sum_insert : (table : Table) (k : Key) (v was : List ℕ) → get table k ≡ Some was → sum_of (insert table k v) + worth was ≡ sum_of table + worth v
sum_insert table k v was there =
    ap (λ (es : List (Key × List ℕ)). sum_in es + worth was) (entries-insert key_cmp_total table k v)
    ∙ sum_put k v was (entries table) (true_of (is_sorted key_cmp (entries table)) (entries_sorted table)) (sym (get-entries table k) ∙ there)

-- a write changes nothing under other keys
abbrev pub LeavesOthers : Type 0
LeavesOthers = (table : Table) (key other : Key) (value : Option (List ℕ)) → other ≢ key → get (set_or_remove table key value) other ≡ get table other

-- a transfer keeps the sum
pub sum_transfers : LeavesOthers → (from to amount : ℕ) (old new : Table) → from ≢ to → Transfers from to amount old new → sum_of new ≡ sum_of old
sum_transfers there_stays from to amount old new apart moved =
    let less = decimal (moved.payer - amount) in
    let more = decimal (moved.payee + amount) in
    let mid = insert old (of_main from) less in
    let there : get mid (of_main to) ≡ Some (decimal moved.payee) = there_stays old (of_main from) (of_main to) (Some less) (λ is. apart (ap (λ (k : Key). k.key) (sym is))) ∙ moved.has_payee in
    let small = moved.small in
    let enough = moved.enough in
    let fits = moved.fits in
    let e : sum_of new ≡ sum_of (insert mid (of_main to) more) = ap (λ (t : Table). sum_of t) moved.becomes in
    omega (
      arith,
      e,
      sum_insert old (of_main from) less (decimal moved.payer) moved.has_payer,
      sum_insert mid (of_main to) more (decimal moved.payee) there,
      (decimal_is_IsNumeral (moved.payer - amount) (omega arith)).1,
      (decimal_is_IsNumeral (moved.payee + amount) fits).1,
      (decimal_is_IsNumeral moved.payer small).1,
      (decimal_is_IsNumeral moved.payee (omega arith)).1,
    )

-- one more transaction that keeps the sum
pub keeps_more : (base : Table) (history : List Done) (done : Done) → KeepsSum base history → sum_of (left_by (records base history) done.calls) ≡ sum_of (records base history) → KeepsSum base (history ++ done ∷ [])
keeps_more base history done keeps same count = ⊎_elim whole front (cases_lt (length history) count)
  where
    front : count ≤ length history → sum_of (records base (take count (history ++ done ∷ []))) ≡ sum_of base
    front le = ap (λ (h : List Done). sum_of (records base h)) (take-append-le count history (done ∷ []) le) ∙ keeps count

    whole : length history < count → sum_of (records base (take count (history ++ done ∷ []))) ≡ sum_of base
    whole lt =
        ap (λ (h : List Done). sum_of (records base h)) (take_all count (history ++ done ∷ []) (omega (arith, length-append history (done ∷ []))))
        ∙ ap (λ (t : Table). sum_of t) (fold-append (λ (was : Table) (d : Done). left_by was d.calls) base history (done ∷ []))
        ∙ same ∙ ap (λ (h : List Done). sum_of (records base h)) (sym (take_all (length history) history (le_refl (length history)))) ∙ keeps (length history)
