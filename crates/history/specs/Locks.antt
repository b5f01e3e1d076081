-- The locks: which stripes of keys calls touch, in which mode, and which touches clash.
use Rattle.std.specs.Prelude.{ℕ, ◌≡◌, ◌+◌, ◌*◌, ◌%◌, Bool, true, false, ◌&&◌, ◌||◌, nat_eq, nat_lt, List, length, unwrap_or, is_some, IsTrue, IsFalse}
use Rattle.record_slots.specs.Names.{number_of}
use Rattle.std.specs.List.{list_any}
use Rattle.std.specs.FinMap.{get}
use Rattle.history.specs.Key.{Key, of_table}
use Rattle.history.specs.Writes.{Table}
use Rattle.history.specs.Table.{Granted}
use Rattle.history.specs.declared.call.TableCall.{TableCall}
use Rattle.history.specs.declared.call.TableCall.TheVariants.{Get, Put, Del, Scan}
use Rattle.history.specs.declared.call.Reply.{Reply}
use Rattle.history.specs.declared.locks.Mode.{Mode}
use Rattle.history.specs.declared.locks.Mode.TheVariants.{Shared, Exclusive}

-- the stripe of a number of the table with this number, one of 64
abbrev pub stripe_of : ℕ → ℕ → ℕ
stripe_of table key = (key % 64 + 8 * table) % 64

-- There is a table of the name that a call asks for, if it asks for one.
abbrev pub has_table : List (List ℕ) → TableCall → Bool
has_table names (Get name key) = is_some (number_of names name)
has_table names (Put name key value) = is_some (number_of names name)
has_table names (Del name key) = is_some (number_of names name)
has_table names (Scan name low high) = is_some (number_of names name)
has_table names call = true

-- the stripe of a key, where the tables have these names; a name that none of them has counts as that of one table more
abbrev pub key_stripe : List (List ℕ) → Key → ℕ
key_stripe names key = stripe_of (unwrap_or (number_of names key.table) (length names)) key.key

-- in which modes a stripe is touched
abbrev pub Touch : Type 0
Touch = Mode → Bool

-- How a call touches a stripe: a get the stripe of its key and a scan all stripes for reading, a put and a removal the stripe of their key
-- for writing. Other calls touch none.
abbrev pub touches : List (List ℕ) → TableCall → ℕ → Touch
touches names (Get name key) stripe Shared = nat_eq (key_stripe names (of_table name key)) stripe
touches names (Scan name low high) stripe Shared = nat_lt stripe 64
touches names (Put name key value) stripe Exclusive = nat_eq (key_stripe names (of_table name key)) stripe
touches names (Del name key) stripe Exclusive = nat_eq (key_stripe names (of_table name key)) stripe
touches names call stripe mode = false

-- how granted calls touched it, also those that a way back undid
abbrev pub touched : List (List ℕ) → Granted → ℕ → Touch
touched names calls stripe mode = list_any (λ (entry : TableCall × Reply). touches names entry.0 stripe mode) calls

-- for reading or for writing
abbrev pub is_touch : Touch → Bool
is_touch touch = touch Shared || touch Exclusive

-- the stripe of the key was touched
abbrev pub has_touched : List (List ℕ) → Granted → Key → Bool
has_touched names calls key = is_touch (touched names calls (key_stripe names key))

-- it was touched for writing
abbrev pub has_written : List (List ℕ) → Granted → Key → Bool
has_written names calls key = touched names calls (key_stripe names key) Exclusive

-- two callers touch a stripe, and one of them for writing
abbrev pub clash : Touch → Touch → Bool
clash one other = (one Exclusive && is_touch other) || (is_touch one && other Exclusive)

-- a call clashes with the granted calls of another caller at some stripe
abbrev pub Meets : List (List ℕ) → TableCall → Granted → Type 0
Meets names call calls = (stripe : ℕ) × IsTrue (clash (touches names call stripe) (touched names calls stripe))

-- the granted calls of two callers clash nowhere
abbrev pub AreApart : List (List ℕ) → Granted → Granted → Type 0
AreApart names one other = (stripe : ℕ) → IsFalse (clash (touched names one stripe) (touched names other stripe))

-- two tables agree at each key of a set
abbrev pub Agree : (Key → Bool) → Table → Table → Type 0
Agree keys one other = (key : Key) → keys key ≡ true → get one key ≡ get other key

-- two tables agree at each key outside a set
abbrev pub AgreeOff : (Key → Bool) → Table → Table → Type 0
AgreeOff keys one other = (key : Key) → keys key ≡ false → get one key ≡ get other key
