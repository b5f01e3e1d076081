-- The script of a drill: which callers make which calls, in order.
use Rattle.std.specs.Prelude.{ℕ, zero, suc, ◌/◌, ◌%◌, Bool, true, nat_eq, nat_le, if◌then◌else◌, List, [], ◌∷◌, ◌++◌, map, flat_map, zip, codes}
use Rattle.std.specs.Fmt.{decimal}
use Rattle.history.specs.Key.{main_name}
use Rattle.history.specs.declared.call.Call.{Call}
use Rattle.history.specs.declared.call.Call.TheVariants.{Begin, Table, Control}
use Rattle.history.specs.declared.call.TableCall.{TableCall}
use Rattle.history.specs.declared.call.TableCall.TheVariants.{Put}
use Rattle.history.specs.declared.call.Control.TheVariants.{Commit, Abort}
use Rattle.drill_gen.specs.Draws.{drawn_on}
use Rattle.drill_gen.specs.declared.transaction.Transaction.{Transaction}

-- the two draws from this state: a put of a key below 256, whose value is `v` and a number
abbrev pub put_from : ℕ → TableCall
put_from x = Put main_name (drawn_on x 1 / 65536 % 256) (codes "v" ++ decimal (drawn_on x 2 / 65536))

-- the transaction of the five draws from this state: two puts, and the end, which is an abort once in eight
abbrev pub drawn : ℕ → List Call
drawn x = Begin ∷ Table (put_from x) ∷ Table (put_from (drawn_on x 2)) ∷ Control (if nat_eq (drawn_on x 5 / 65536 % 8) 0 then Abort else Commit) ∷ []

-- this many transactions from this state on: one after another, each of caller 0, or in pairs of callers 0 and 1, call by call in turn, the last one
-- alone if it has no partner
abbrev pub in_turn : Bool → ℕ → ℕ → List (ℕ × Call)
in_turn pairs x zero = []
in_turn true x (suc (suc n)) = flat_map (λ two. (0, two.0) ∷ (1, two.1) ∷ []) (zip (drawn x) (drawn (drawn_on x 5))) ++ in_turn true (drawn_on x 10) n
in_turn pairs x (suc n) = map (λ call. (0, call)) (drawn x) ++ in_turn pairs (drawn_on x 5) n

-- this many transactions of a seed, in pairs if there are two callers
abbrev pub drill : ℕ → ℕ → ℕ → List (ℕ × Call)
drill seed count callers = in_turn (nat_le 2 callers) seed count

-- how a transaction that was drawn is kept until its calls are added
abbrev pub drawn_from : ℕ → Transaction
drawn_from x = record { first = put_from x; second = put_from (drawn_on x 2); end = if nat_eq (drawn_on x 5 / 65536 % 8) 0 then Abort else Commit }

abbrev pub calls_of : Transaction → List Call
calls_of t = Begin ∷ Table t.first ∷ Table t.second ∷ Control t.end ∷ []

-- the calls of one of caller 0, and of two of callers 0 and 1
abbrev pub alone : Transaction → List (ℕ × Call)
alone t = map (λ call. (0, call)) (calls_of t)

abbrev pub paired : Transaction → Transaction → List (ℕ × Call)
paired t u = flat_map (λ two. (0, two.0) ∷ (1, two.1) ∷ []) (zip (calls_of t) (calls_of u))
