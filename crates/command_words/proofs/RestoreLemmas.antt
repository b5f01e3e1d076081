-- What the words of the program that restores say.
use Rattle.std.proofs.Common.{◌≡◌, ◌≤◌, ℕ, List, [], Option, Some, None, Bool, true, sym, refl, subst, arith}
use Rattle.std.specs.Fmt.{decimal}
use Rattle.clap.specs.Words.{App, Text, HasMatchesOf, found_of, rows_of, matches_of, is_simple, is_simple_and_free, fault_of}
use Rattle.clap.specs.declared.parser.ArgMatches.{ArgMatches}
use Rattle.command_words.specs.Restore.{AsksToRestore, IsSaid, restore_line}
use Rattle.command_words.specs.declared.restore_numbers.RestoreNumbers.{RestoreNumbers}

-- a value that spells no number
pub not_said : (first : Option Text) (value : Text) → first ≡ Some value → ((n : ℕ) → (0 ≤ n) × (n ≤ 65535) → value ≡ decimal n → ⊥) → (n : Option ℕ) → IsSaid first n → ⊥
not_said first value is none None said = rw is at said
not_said first value is none (Some n) said =
    let spelt : (n ≤ 65535) × (value ≡ decimal n) = rw is at said in
    none n (omega arith, spelt.0) spelt.1

pub is_said : (first : Option Text) (value : Text) (n : ℕ) → first ≡ Some value → n ≤ 65535 → value ≡ decimal n → IsSaid first (Some n)
is_said first value n is most spelt = subst (λ (f : Option Text). IsSaid f (Some n)) (sym is) (most, spelt)

pub is_left : (first : Option Text) → first ≡ None → IsSaid first None
is_left first is = subst (λ (f : Option Text). IsSaid f None) (sym is) tt

simple : is_simple restore_line ≡ true
simple = refl

simple_and_free : is_simple_and_free restore_line ≡ true
simple_and_free = refl

-- the words are accepted, and what they give was found
pub taken : (app : App) (words : List Text) (m : ArgMatches) → app ≡ restore_line → HasMatchesOf app words m → (is_simple_and_free app ≡ true → fault_of app words ≡ [])
    → (fault_of restore_line words ≡ []) × (rows_of (found_of m) ≡ matches_of restore_line words)
taken app words m is matches faults =
    let at_line : HasMatchesOf restore_line words m = rw is at matches in
    let none : is_simple_and_free restore_line ≡ true → fault_of restore_line words ≡ [] = rw is at faults in
    (none simple_and_free, (at_line simple).0)

-- the words are refused
pub not_taken : (app : App) (words : List Text) → app ≡ restore_line → (is_simple_and_free app ≡ true → fault_of app words ≡ [] → ⊥)
    → (image : Text) (numbers : RestoreNumbers) (replace : Bool) → AsksToRestore words image numbers replace → ⊥
not_taken app words is faults image numbers replace asks =
    let at_line : is_simple_and_free restore_line ≡ true → fault_of restore_line words ≡ [] → ⊥ = rw is at faults in
    at_line simple_and_free asks.0
