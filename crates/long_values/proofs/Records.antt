-- What calls on the records of a value leave.
use Rattle.std.proofs.Common.{◌≡◌, ℕ, zero, suc, ◌+◌, ◌<◌, ◌≤◌, Bool, cond, inl, inr, List, [], Option, Some, None, refl, sym, ◌∙◌, ap, subst, arith}
use Rattle.std.specs.Prelude.{nat_lt, IsTrue, IsSome}
use Rattle.std.proofs.lemmas.Bool.{cases_Bool, cases_lt, cases_eq, lt-ltb, le-ltb, ltb-true}
use Rattle.std.proofs.lemmas.List.Elements.{All-nil}
use Rattle.std.specs.FinMap.{get}
use Rattle.history.specs.Key.{of_table}
use Rattle.history.specs.declared.key.Key.{Key}
use Rattle.history.specs.Table.{Work, removed}
use Rattle.history.specs.Writes.{Table, set_or_remove}
use Rattle.history.specs.declared.call.Call.{Call}
use Rattle.history.specs.declared.call.TableCall.TheVariants.{Put, Del}
use Rattle.history.specs.declared.call.Reply.{Reply}
use Rattle.history.specs.declared.call.Reply.TheVariants.{Fine, Absent}
use Rattle.history.proofs.Agreeing.{get-set_here, get-set_there}
use Rattle.caller_steps.specs.Core.{CoreView}
use Rattle.caller_steps.specs.Sound.{IsSound}
use Rattle.transactions.specs.Adds.{Stays, Adds, Keeps}
use Rattle.transactions.specs.Went.{WentWithin, is_within}
use Rattle.long_values.specs.Values.{part_count, text_at, record_at, IsLong, IsKeptFrom}
use Rattle.long_values.specs.Changing.{seen_by, SameOutside, Changes}
use Rattle.long_values.proofs.Seeing.{added, kept, answered}

-- a write of one key changes no other,
pub written_outside : (name : List ℕ) (key low high : ℕ) (value : Option (List ℕ)) (table : Table) → low ≤ key → key < high → SameOutside name low high table (set_or_remove table (of_table name key) value)
written_outside name key low high value table ge lt k out =
    get-set_there table (of_table name key) value k (λ is. absurd (let n = ap (λ (x : Key). x.key) is in let o = out (ap (λ (x : Key). x.table) is) (omega (arith, n, ge)) in omega (arith, n, o, lt)))

-- changes within a range are changes within a wider one, and come one after another
pub wider : (name : List ℕ) (low high from to : ℕ) (old new : Table) → from ≤ low → high ≤ to → SameOutside name low high old new → SameOutside name from to old new
wider name low high from to old new a b same k out = same k (λ is ge. let o = out is (omega (arith, a, ge)) in omega (arith, o, b))

pub outside_on : (name : List ℕ) (low high : ℕ) (old mid new : Table) → SameOutside name low high old mid → SameOutside name low high mid new → SameOutside name low high old new
outside_on name low high old mid new a b k out = b k out ∙ a k out

pub changes_on : (caller : ℕ) (name : List ℕ) (low high : ℕ) (old mid new : CoreView) → WentWithin caller old new → Changes caller name low high old mid → Changes caller name low high mid new → Changes caller name low high old new
changes_on caller name low high old mid new within a b = record {
  sound = b.sound;
  within = within;
  saves = b.saves ∙ a.saves;
  outside = outside_on name low high (seen_by caller old) (seen_by caller mid) (seen_by caller new) a.outside b.outside;
}

pub changes_wider : (caller : ℕ) (name : List ℕ) (low high from to : ℕ) (old new : CoreView) → from ≤ low → high ≤ to → Changes caller name low high old new → Changes caller name from to old new
changes_wider caller name low high from to old new a b c = record { sound = c.sound; within = c.within; saves = c.saves; outside = wider name low high from to (seen_by caller old) (seen_by caller new) a b c.outside }

-- no call, or one that is refused
pub changes_none : (caller : ℕ) (name : List ℕ) (low high : ℕ) (old : CoreView) → IsSound old.state → Changes caller name low high old old
changes_none caller name low high old sound =
    record { sound = sound; within = record { limits = refl; told = []; run = refl; within = All-nil (λ (entry : Call × Reply). IsTrue (is_within entry.0)) }; saves = refl; outside = λ k out. refl }

pub changes_kept : (caller : ℕ) (name : List ℕ) (low high : ℕ) (old new : CoreView) → Stays caller old new → WentWithin caller old new → Keeps caller old new → Changes caller name low high old new
changes_kept caller name low high old new stays within keeps =
    let same = kept caller old new stays keeps in
    record { sound = stays.goes_on.sound; within = within; saves = ap (λ (w : Work). w.saves) same; outside = λ k out. ap (λ (w : Work). get w.table k) same }

-- a record is put,
pub changes_put : (caller : ℕ) (name value : List ℕ) (key low high : ℕ) (old new : CoreView) → Stays caller old new → WentWithin caller old new → Adds caller (Put name key value) Fine old new → low ≤ key → key < high → Changes caller name low high old new
changes_put caller name value key low high old new stays within adds ge lt =
    let same = added caller old new (Put name key value) Fine stays adds in
    record {
      sound = stays.goes_on.sound;
      within = within;
      saves = ap (λ (w : Work). w.saves) same;
      outside = subst (λ (t : Table). SameOutside name low high (seen_by caller old) t) (sym (ap (λ (w : Work). w.table) same)) (written_outside name key low high (Some value) (seen_by caller old) ge lt);
    }

pub seen_put : (caller : ℕ) (name value : List ℕ) (key : ℕ) (old new : CoreView) → Stays caller old new → Adds caller (Put name key value) Fine old new → get (seen_by caller new) (of_table name key) ≡ Some value
seen_put caller name value key old new stays adds =
    ap (λ (w : Work). get w.table (of_table name key)) (added caller old new (Put name key value) Fine stays adds) ∙ get-set_here (seen_by caller old) (of_table name key) (Some value)

-- or removed, as far as it is there
pub changes_del : (caller : ℕ) (name : List ℕ) (key low high : ℕ) (reply : Reply) (old new : CoreView) → Stays caller old new → WentWithin caller old new → Adds caller (Del name key) reply old new → low ≤ key → key < high → Changes caller name low high old new
changes_del caller name key low high reply old new stays within adds ge lt =
    let same = added caller old new (Del name key) reply stays adds in
    record {
      sound = stays.goes_on.sound;
      within = within;
      saves = ap (λ (w : Work). w.saves) same;
      outside = subst (λ (t : Table). SameOutside name low high (seen_by caller old) t) (sym (ap (λ (w : Work). w.table) same)) (written_outside name key low high None (seen_by caller old) ge lt);
    }

pub seen_del : (caller : ℕ) (name : List ℕ) (key : ℕ) (reply : Reply) (old new : CoreView) → Stays caller old new → Adds caller (Del name key) reply old new → get (seen_by caller new) (of_table name key) ≡ None
seen_del caller name key reply old new stays adds =
    ap (λ (w : Work). get w.table (of_table name key)) (added caller old new (Del name key) reply stays adds) ∙ get-set_here (seen_by caller old) (of_table name key) None

removed_none : (o : Option (List ℕ)) → Absent ≡ removed o → o ≡ None
removed_none None is = refl
removed_none (Some value) is = absurd (let e : Absent ≡ Fine = is in cc)

removed_some : (o : Option (List ℕ)) → Fine ≡ removed o → IsSome o
removed_some None is = absurd (let e : Fine ≡ Absent = is in cc)
removed_some (Some value) is = refl

pub del_absent : (caller : ℕ) (name : List ℕ) (key : ℕ) (old new : CoreView) → Stays caller old new → Adds caller (Del name key) Absent old new → get (seen_by caller old) (of_table name key) ≡ None
del_absent caller name key old new stays adds = removed_none (get (seen_by caller old) (of_table name key)) (answered caller old new (Del name key) Absent stays adds)

pub del_there : (caller : ℕ) (name : List ℕ) (key : ℕ) (old new : CoreView) → Stays caller old new → Adds caller (Del name key) Fine old new → IsSome (get (seen_by caller old) (of_table name key))
del_there caller name key old new stays adds = removed_some (get (seen_by caller old) (of_table name key)) (answered caller old new (Del name key) Fine stays adds)

-- ---- the records of a value

-- behind a record that a value has not, it has none
pub none_behind : (value : Option (List ℕ)) (n k : ℕ) → record_at value n ≡ None → n ≤ k → record_at value k ≡ None
none_behind None n k none le = refl
none_behind (Some bytes) n k none le = elim (cases_Bool (nat_lt (part_count bytes) n)) [
  | inl is ↦ ap (λ (b : Bool). cond b None (Some (text_at bytes k))) (lt-ltb (part_count bytes) k (let lt = ltb-true (part_count bytes) n is in omega (arith, lt, le)))
  | inr is ↦ absurd (let e : Some (text_at bytes n) ≡ None = sym (ap (λ (b : Bool). cond b None (Some (text_at bytes n))) is) ∙ none in cc)
]

pub record_in : (bytes : List ℕ) (n : ℕ) → n ≤ part_count bytes → record_at (Some bytes) n ≡ Some (text_at bytes n)
record_in bytes n le = ap (λ (b : Bool). cond b None (Some (text_at bytes n))) (le-ltb (part_count bytes) n le)

pub record_past : (bytes : List ℕ) (n : ℕ) → part_count bytes < n → record_at (Some bytes) n ≡ None
record_past bytes n lt = ap (λ (b : Bool). cond b None (Some (text_at bytes n))) (lt-ltb (part_count bytes) n lt)

-- a value has a first record,
pub is_value : (value : Option (List ℕ)) → IsSome (record_at value 0) → IsSome value
is_value None some = some
is_value (Some bytes) some = refl

pub no_value : (value : Option (List ℕ)) → record_at value 0 ≡ None → value ≡ None
no_value None none = refl
no_value (Some bytes) none = absurd (let e : Some (text_at bytes 0) ≡ None = sym (record_in bytes 0 (omega arith)) ∙ none in cc)

-- What writes leave: `before` has a value or none, `headed` has the first record besides, `parted` those of the parts, and `cleared` no other.
pub written : (name : List ℕ) (first : ℕ) (bytes : List ℕ) (was : Option (List ℕ)) (from : ℕ) (before headed parted cleared : Table) → from ≡ part_count bytes + 1 → IsLong (Some bytes) → part_count bytes < 512
    → IsKeptFrom name first was before
    → SameOutside name first (first + 1) before headed → get headed (of_table name first) ≡ Some (text_at bytes 0)
    → SameOutside name (first + 1) (first + 1 + part_count bytes) headed parted → ((n : ℕ) → n < part_count bytes → get parted (of_table name (first + 1 + n)) ≡ Some (text_at bytes (suc n)))
    → SameOutside name (first + from) (first + 512) parted cleared
    → (((n : ℕ) → from ≤ n → n < 512 → get parted (of_table name (first + n)) ≡ record_at was n) → (n : ℕ) → from ≤ n → n < 512 → get cleared (of_table name (first + n)) ≡ None)
    → IsKeptFrom name first (Some bytes) cleared
written name first bytes was from before headed parted cleared count long few kept at_first has_first at_parts has_parts at_rest has_rest = record { long = long; records = at }
  where
    none : (n : ℕ) → from ≤ n → n < 512 → get cleared (of_table name (first + n)) ≡ None
    none = has_rest (λ n ge lt. at_parts (of_table name (first + n)) (λ is low. omega (arith, ge, count)) ∙ at_first (of_table name (first + n)) (λ is low. omega (arith, ge, count)) ∙ kept.records n lt)

    front : (n : ℕ) → n ≤ part_count bytes → get cleared (of_table name (first + n)) ≡ Some (text_at bytes n)
    front zero le =
        let z : first + 0 ≡ first = omega arith in
        at_rest (of_table name (first + 0)) (λ is low. absurd (omega (arith, low, count))) ∙ at_parts (of_table name (first + 0)) (λ is low. absurd (omega (arith, low)))
        ∙ ap (λ (k : ℕ). get headed (of_table name k)) z ∙ has_first
    front (suc n) le =
        let z : first + suc n ≡ first + 1 + n = omega arith in
        at_rest (of_table name (first + suc n)) (λ is low. absurd (omega (arith, low, le, count))) ∙ ap (λ (k : ℕ). get parted (of_table name k)) z ∙ has_parts n (omega (arith, le))

    at : (n : ℕ) → n < 512 → get cleared (of_table name (first + n)) ≡ record_at (Some bytes) n
    at n lt = elim (cases_lt (part_count bytes) n) [
      | inl past ↦ none n (omega (arith, past, count)) lt ∙ sym (record_past bytes n past)
      | inr le ↦ front n le ∙ sym (record_in bytes n le)
    ]

-- What removals leave up to a record that is not there.
pub cleared : (name : List ℕ) (first from n : ℕ) (was : Option (List ℕ)) (before table last : Table)
    → ((k : ℕ) → from ≤ k → k < 512 → get before (of_table name (first + k)) ≡ record_at was k)
    → SameOutside name (first + from) (first + n) before table → ((k : ℕ) → from ≤ k → k < n → get table (of_table name (first + k)) ≡ None)
    → from ≤ n → n < 512 → get table (of_table name (first + n)) ≡ None → SameOutside name (first + n) (first + n + 1) table last → get last (of_table name (first + n)) ≡ None
    → (k : ℕ) → from ≤ k → k < 512 → get last (of_table name (first + k)) ≡ None
cleared name first from n was before table last records outside gone ge lt none at_n last_none k low high = elim (cases_lt k n) [
  | inl less ↦ at_n (of_table name (first + k)) (λ is le. absurd (omega (arith, less, le))) ∙ gone k low less
  | inr more ↦
      let same : (j : ℕ) → n ≤ j → get table (of_table name (first + j)) ≡ get before (of_table name (first + j)) = λ j le. outside (of_table name (first + j)) (λ is x. omega (arith, le)) in
      let stopped : record_at was n ≡ None = sym (records n ge lt) ∙ sym (same n (omega arith)) ∙ none in
      elim (cases_eq k n) [
        | inl here ↦ ap (λ (j : ℕ). get last (of_table name (first + j))) here ∙ last_none
        | inr apart ↦
            at_n (of_table name (first + k)) (λ is le. omega (arith, more, apart)) ∙ same k more ∙ records k low high ∙ none_behind was n k stopped more
      ]
]

-- one part more
pub part_written : (caller : ℕ) (name : List ℕ) (first : ℕ) (bytes value : List ℕ) (n : ℕ) (cur new : CoreView) → Stays caller cur new → WentWithin caller cur new → Adds caller (Put name (first + 1 + n) value) Fine cur new
    → value ≡ text_at bytes (suc n) → ((k : ℕ) → k < n → get (seen_by caller cur) (of_table name (first + 1 + k)) ≡ Some (text_at bytes (suc k)))
    → (k : ℕ) → k < n + 1 → get (seen_by caller new) (of_table name (first + 1 + k)) ≡ Some (text_at bytes (suc k))
part_written caller name first bytes value n cur new stays within adds is so k lt = elim (cases_eq k n) [
  | inl here ↦
      ap (λ (j : ℕ). get (seen_by caller new) (of_table name (first + 1 + j))) here ∙ seen_put caller name value (first + 1 + n) cur new stays adds ∙ ap Some is ∙ ap (λ (j : ℕ). Some (text_at bytes (suc j))) (sym here)
  | inr apart ↦
      (changes_put caller name value (first + 1 + n) (first + 1 + n) (first + 1 + n + 1) cur new stays within adds (omega arith) (omega arith)).outside (of_table name (first + 1 + k)) (λ at le. absurd (omega (arith, lt, apart, le)))
      ∙ so k (omega (arith, lt, apart))
]

-- one record less
pub part_gone : (caller : ℕ) (name : List ℕ) (first from n : ℕ) (reply : Reply) (cur new : CoreView) → Stays caller cur new → WentWithin caller cur new → Adds caller (Del name (first + n)) reply cur new
    → ((k : ℕ) → from ≤ k → k < n → get (seen_by caller cur) (of_table name (first + k)) ≡ None) → (k : ℕ) → from ≤ k → k < n + 1 → get (seen_by caller new) (of_table name (first + k)) ≡ None
part_gone caller name first from n reply cur new stays within adds so k ge lt = elim (cases_eq k n) [
  | inl here ↦ ap (λ (j : ℕ). get (seen_by caller new) (of_table name (first + j))) here ∙ seen_del caller name (first + n) reply cur new stays adds
  | inr apart ↦
      (changes_del caller name (first + n) (first + n) (first + n + 1) reply cur new stays within adds (omega arith) (omega arith)).outside (of_table name (first + k)) (λ at le. absurd (omega (arith, lt, apart, le)))
      ∙ so k ge (omega (arith, lt, apart))
]

-- What a removal of all records leaves, where the first one was there,
pub erased : (name : List ℕ) (first : ℕ) (was : Option (List ℕ)) (before headed cleared : Table) → IsKeptFrom name first was before
    → SameOutside name first (first + 1) before headed → get headed (of_table name first) ≡ None → SameOutside name (first + 1) (first + 512) headed cleared
    → (((n : ℕ) → 1 ≤ n → n < 512 → get headed (of_table name (first + n)) ≡ record_at was n) → (n : ℕ) → 1 ≤ n → n < 512 → get cleared (of_table name (first + n)) ≡ None)
    → IsKeptFrom name first None cleared
erased name first was before headed cleared kept at_first no_first at_rest has_rest = record { long = tt; records = at }
  where
    none : (n : ℕ) → 1 ≤ n → n < 512 → get cleared (of_table name (first + n)) ≡ None
    none = has_rest (λ n ge lt. at_first (of_table name (first + n)) (λ is low. omega (arith, ge)) ∙ kept.records n lt)

    at : (n : ℕ) → n < 512 → get cleared (of_table name (first + n)) ≡ None
    at zero lt =
        let z : first + 0 ≡ first = omega arith in
        at_rest (of_table name (first + 0)) (λ is low. absurd (omega (arith, low))) ∙ ap (λ (k : ℕ). get headed (of_table name k)) z ∙ no_first
    at (suc n) lt = none (suc n) (omega arith) lt

-- and where it was not
pub erased_none : (name : List ℕ) (first : ℕ) (was : Option (List ℕ)) (before headed : Table) → IsKeptFrom name first was before → get before (of_table name first) ≡ None
    → SameOutside name first (first + 1) before headed → get headed (of_table name first) ≡ None → IsKeptFrom name first None headed
erased_none name first was before headed kept none at_first no_first = record { long = tt; records = at }
  where
    z : first + 0 ≡ first
    z = omega arith

    stop : record_at was 0 ≡ None
    stop = sym (kept.records 0 (omega arith)) ∙ ap (λ (k : ℕ). get before (of_table name k)) z ∙ none

    at : (n : ℕ) → n < 512 → get headed (of_table name (first + n)) ≡ None
    at zero lt = ap (λ (k : ℕ). get headed (of_table name k)) z ∙ no_first
    at (suc n) lt = at_first (of_table name (first + suc n)) (λ is low. omega arith) ∙ kept.records (suc n) lt ∙ none_behind was 0 (suc n) stop (omega arith)

-- whether there was a value is whether there was a first record
pub was_value : (name : List ℕ) (first : ℕ) (was : Option (List ℕ)) (before : Table) → IsKeptFrom name first was before → IsSome (get before (of_table name first)) → IsSome was
was_value name first was before kept some =
    let z : first ≡ first + 0 = omega arith in
    is_value was (subst (λ (o : Option (List ℕ)). IsSome o) (ap (λ (k : ℕ). get before (of_table name k)) z ∙ kept.records 0 (omega arith)) some)

pub was_none : (name : List ℕ) (first : ℕ) (was : Option (List ℕ)) (before : Table) → IsKeptFrom name first was before → get before (of_table name first) ≡ None → was ≡ None
was_none name first was before kept none =
    let z : first + 0 ≡ first = omega arith in
    no_value was (sym (kept.records 0 (omega arith)) ∙ ap (λ (k : ℕ). get before (of_table name k)) z ∙ none)
