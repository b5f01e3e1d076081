-- The lines of a dump's text.
use Rattle.std.proofs.Common.{◌≡◌, ℕ, ◌^◌, ◌<◌, Bool, true, false, List, [], ◌∷◌, ◌++◌, map, length, refl, sym, subst, ap, ◌∙◌, append_assoc, arith}
use Rattle.std.specs.Prelude.{codes, nat_eq, nat_le, if◌then◌else◌}
use lib.Pointwise.{pointwise}
use Rattle.std.specs.Char.{digit_value}
use Rattle.std.specs.Fmt.{decimal}
use Rattle.std.specs.List.{All, flat_map, list_all}
use Rattle.std.specs.Str.Parse.{AllDigits, digits_value}
use Rattle.std.proofs.lemmas.Bool.{and_parts, leb-true}
use Rattle.std.proofs.lemmas.Fmt.{digits_decimal}
use Rattle.std.proofs.lemmas.Str.Parse.{numerals_by_value, tells_digits}
use Rattle.std.proofs.lemmas.List.Elements.{All-tail}
use Rattle.record_slots.specs.Text.{IsName, IsValue, is_letter, is_visible}
use Rattle.history.specs.Key.{main_name}
use Rattle.history.specs.declared.key.Key.{Key}
use Rattle.history_text.specs.Text.{key_text, record_line, number_line}
use Rattle.script_run.specs.Lines.{lines_of, IsOneLine}
use Rattle.script_run.proofs.LineLemmas.{first_line}
use Rattle.dump_text.specs.Dump.{IsRecord, record_words, count_words}
use Rattle.dump_text.specs.Causes.{table_words}
use Rattle.dump_text.specs.Again.{dumped}
use Rattle.dump_text.proofs.Lines.{key_words, words_split}

both : (one other : List ℕ) → IsOneLine one → IsOneLine other → IsOneLine (one ++ other)
both [] other first second = second
both (byte ∷ one) other first second = (first.0, both one other first.1 second)

digits : (bytes : List ℕ) → AllDigits 10 bytes → IsOneLine bytes
digits [] all = tt
digits (byte ∷ bytes) all = (λ e. let below : digit_value 10 < 10 = subst (λ x. digit_value x < 10) e all.0 in omega (arith, below), digits bytes all.1)

number : (n : ℕ) → n < 2 ^ 64 → IsOneLine (decimal n)
number n fits = digits (decimal n) (digits_decimal (numerals_by_value (AllDigits 10) tells_digits) n fits)

letters : (text : List ℕ) → list_all is_letter text ≡ true → IsOneLine text
letters [] all = tt
letters (byte ∷ text) all =
    let parts = and_parts (is_letter byte) (list_all is_letter text) all in
    (λ e. let low = leb-true 97 byte (and_parts (nat_le 97 byte) (nat_le byte 122) parts.0).0 in omega (arith, low, e), letters text parts.1)

visible : (text : List ℕ) → list_all is_visible text ≡ true → IsOneLine text
visible [] all = tt
visible (byte ∷ text) all =
    let parts = and_parts (is_visible byte) (list_all is_visible text) all in
    (λ e. let low = leb-true 33 byte (and_parts (nat_le 33 byte) (nat_le byte 126) parts.0).0 in omega (arith, low, e), visible text parts.1)

table : (name : List ℕ) → IsName name → IsOneLine (table_words name)
table name is = go (pointwise nat_eq name main_name)
  where
    go : (b : Bool) → IsOneLine (if b then [] else 64 ∷ (name ++ 32 ∷ []))
    go true = tt
    go false = (λ e. omega (arith, e), both name (32 ∷ []) (letters name is.letters) (λ e. omega (arith, e), tt))

pub record_line_alone : (entry : Key × List ℕ) → IsRecord entry → IsOneLine (record_words entry)
record_line_alone entry is =
    let rest : IsOneLine (table_words entry.0.table ++ key_words entry) =
    both (table_words entry.0.table) (key_words entry) (table entry.0.table is.table)
    (both (decimal entry.0.key) (32 ∷ entry.1) (number entry.0.key is.key) (λ e. omega (arith, e), visible entry.1 is.value.visible)) in
    subst (λ (words : List ℕ). IsOneLine (codes "rec " ++ words)) (sym (words_split entry)) (both (codes "rec ") (table_words entry.0.table ++ key_words entry)
    ((λ e. omega (arith, e)), ((λ e. omega (arith, e)), ((λ e. omega (arith, e)), ((λ e. omega (arith, e)), tt)))) rest)

pub count_line_alone : (n : ℕ) → n < 2 ^ 64 → IsOneLine (count_words n)
count_line_alone n fits =
    both (codes "records ") (decimal n)
    ((λ e. omega (arith, e)), ((λ e. omega (arith, e)), ((λ e. omega (arith, e)), ((λ e. omega (arith, e)), ((λ e. omega (arith, e)), ((λ e. omega (arith, e)), ((λ e. omega (arith, e)), ((λ e. omega (arith, e)), tt)))))))) (number n fits)

record_line_is : (entry : Key × List ℕ) → record_line entry ≡ record_words entry ++ 10 ∷ []
record_line_is entry = ap (λ (l : List ℕ). codes "rec " ++ l) (sym (append_assoc (key_text entry.0) (32 ∷ entry.1) (10 ∷ [])))

records_lines : (records : List (Key × List ℕ)) (tail : List ℕ) → All IsRecord records → lines_of (flat_map record_line records ++ tail) ≡ map record_words records ++ lines_of tail
records_lines [] tail proper = refl
records_lines (entry ∷ records) tail proper =
    let rest = flat_map record_line records ++ tail in
    ap lines_of (append_assoc (record_line entry) (flat_map record_line records) tail ∙ ap (λ (l : List ℕ). l ++ rest) (record_line_is entry) ∙ append_assoc (record_words entry) (10 ∷ []) rest)
    ∙ first_line (record_words entry) rest (record_line_alone entry (proper 0 entry (omega arith)))
    ∙ ap (λ (lines : List (List ℕ)). record_words entry ∷ lines) (records_lines records tail (All-tail IsRecord entry records proper))

-- the lines of a dump
pub dumped_lines : (records : List (Key × List ℕ)) → All IsRecord records → length records < 2 ^ 64 → lines_of (dumped records) ≡ map record_words records ++ count_words (length records) ∷ []
dumped_lines records proper fits =
    records_lines records (number_line (codes "records") (length records)) proper
    ∙ ap (λ (lines : List (List ℕ)). map record_words records ++ lines) (first_line (count_words (length records)) [] (count_line_alone (length records) fits))
