-- What is read line by line.
use Rattle.std.proofs.Common.{◌≡◌, ℕ, suc, ◌+◌, ◌<◌, ◌≤◌, Bool, true, false, inl, inr, List, [], ◌∷◌, ◌++◌, length, map, Err, refl, sym, ap, subst, ◌∙◌, arith, rules}
use Rattle.std.specs.Prelude.{if◌then◌else◌, IsPermutation, nat_eq}
use Rattle.std.specs.List.{All, IsDistinct, list_any, onto_first}
use Rattle.std.proofs.lemmas.Cmp.{nat_list_eq_equiv}
use Rattle.std.proofs.lemmas.List.Elements.{All-append, All-cons}
use Rattle.std.proofs.lemmas.List.Sorted.{IsPermutation-refl, IsPermutation-sym, IsPermutation-push_more, Contains-permutation}
use Rattle.std.proofs.lemmas.Map.Keys.{IsDistinct-push}
use Rattle.history.specs.Key.{main_name}
use Rattle.history.specs.declared.key.Key.{Key}
use Rattle.history.specs.Rows.{NamedRows, records_in}
use Rattle.history.specs.Writes.{Row}
use Rattle.script_run.specs.Lines.{lines_of}
use Rattle.dump_text.specs.Dump.{IsRecord, AreTables, AreRising, record_words, is_same_name, with_name, met}
use Rattle.dump_text.specs.Causes.{SaysNothing, IsShort, IsRefused, HasCause}
use Rattle.dump_text.specs.Gathering.{Adds, names_of}
use Rattle.dump_text.specs.Taking.{HasRead, Takes, NotBehind}
use Rattle.dump_text.specs.declared.fault.DumpFault.{DumpFault}
use Rattle.dump_text.specs.declared.fault.DumpFault.TheVariants.{Line, Cut, Count, NoMemory}
use Rattle.dump_text.specs.declared.fault.LineFault.{LineFault}
use Rattle.dump_text.specs.declared.fault.LineFault.TheVariants.{NoRecord, NoName, NoKey, NoValue, Twice, NinthTable, BehindTheEnd}

abbrev pub Entry : Type 0
Entry = Key × List ℕ

-- ---- the tables that records are of

pub met-push : (names : List (List ℕ)) (read : List Entry) (entry : Entry) → met names (read ++ entry ∷ []) ≡ with_name (met names read) entry.0.table
met-push names [] entry = refl
met-push names (first ∷ read) entry = met-push (with_name names first.0.table) read entry

-- a name that is first stays first
met_begins : (name : List ℕ) (names : List (List ℕ)) (read : List Entry) → (others : List (List ℕ)) × (met (name ∷ names) read ≡ name ∷ others)
met_begins name names [] = (names, refl)
met_begins name names (entry ∷ read) = go (list_any (is_same_name entry.0.table) (name ∷ names)) (met_begins name names read) (met_begins name (names ++ entry.0.table ∷ []) read)
  where
    go : (b : Bool) → (others : List (List ℕ)) × (met (name ∷ names) read ≡ name ∷ others) → (others : List (List ℕ)) × (met (name ∷ (names ++ entry.0.table ∷ [])) read ≡ name ∷ others)
        → (others : List (List ℕ)) × (met (if b then name ∷ names else (name ∷ names) ++ entry.0.table ∷ []) read ≡ name ∷ others)
    go true same more = same
    go false same more = more

-- and none stands twice
pub met_apart : (names : List (List ℕ)) (read : List Entry) → IsDistinct is_same_name names → IsDistinct is_same_name (met names read)
met_apart names [] apart = apart
met_apart names (entry ∷ read) apart = met_apart (with_name names entry.0.table) read (go (list_any (is_same_name entry.0.table) names) refl)
  where
    go : (b : Bool) → list_any (is_same_name entry.0.table) names ≡ b → IsDistinct is_same_name (if b then names else names ++ entry.0.table ∷ [])
    go true is = apart
    go false is = IsDistinct-push nat_list_eq_equiv names entry.0.table apart is

pub main_alone : IsDistinct is_same_name (main_name ∷ [])
unfolding IsDistinct
main_alone = search rules

first_table : (tables : List NamedRows) (name : List ℕ) (others : List (List ℕ)) → names_of tables ≡ name ∷ others → (rows : List Row) × (rest : List NamedRows) × (tables ≡ (name, rows) ∷ rest)
first_table [] name others is = absurd cc
first_table (table ∷ tables) name others is =
    let same : table.0 ≡ name = cc in
    (table.1, tables, ap (λ (n : List ℕ). (n, table.1) ∷ tables) same)

-- the tables of what was read are those of an array
pub are_tables : (tables : List NamedRows) (read : List Entry) → HasRead tables read → All AreRising tables → AreTables tables
are_tables tables read has rising =
    let begins = met_begins main_name [] read in
    record {
      main = first_table tables main_name begins.0 (has.names ∙ begins.1);
      few = has.few;
      apart = subst (IsDistinct is_same_name) (sym has.names) (met_apart (main_name ∷ []) read main_alone);
      rising = rising;
    }

-- ---- one line more

pub nothing_read : HasRead ((main_name, []) ∷ []) []
nothing_read = record { proper = λ k d within. absurd (omega (arith, within)); same = IsPermutation-refl []; names = refl; few = omega arith }

pub read_more : (old new : List NamedRows) (read : List Entry) (entry : Entry) → HasRead old read → IsRecord entry
    → IsPermutation (entry ∷ records_in old) (records_in new) → names_of new ≡ with_name (names_of old) entry.0.table → (length old ≤ 8 → length new ≤ 8) → HasRead new (read ++ entry ∷ [])
read_more old new read entry has proper more names few =
    record {
      proper = All-append IsRecord read (entry ∷ []) has.proper (All-cons IsRecord entry [] proper (λ k d within. absurd (omega (arith, within))));
      same = IsPermutation-push_more read (records_in old) (records_in new) entry has.same more;
      names = names ∙ ap (λ (l : List (List ℕ)). with_name l entry.0.table) has.names ∙ sym (met-push (main_name ∷ []) read entry);
      few = few has.few;
    }

-- a record that was not added
pub refused_more : (old : List NamedRows) (read : List Entry) (line : List ℕ) (entry : Entry) (fault : LineFault) (new : List NamedRows) → HasRead old read → IsRecord entry → line ≡ record_words entry
    → Adds old entry (Err fault) new → IsRefused read line fault × NotBehind fault
refused_more old read line entry fault new has proper said (inl (is, value, among)) =
    subst (λ (f : LineFault). IsRefused read line f × NotBehind f) (sym is)
    ((entry, said, proper, (value, Contains-permutation (records_in old) read (entry.0, value) (IsPermutation-sym _ _ has.same) among)), tt)
refused_more old read line entry fault new has proper said (inr (is, (count, other))) =
    subst (λ (f : LineFault). IsRefused read line f × NotBehind f) (sym is)
    ((entry, said, proper, sym (ap length has.names) ∙ count, sym (ap (list_any (is_same_name entry.0.table)) has.names) ∙ other), tt)

-- a line that is short of a record
pub refused_short : (read : List Entry) (line : List ℕ) (fault : LineFault) → SaysNothing line → IsShort line fault → IsRefused read line fault × NotBehind fault
refused_short read line NoRecord none short = ((none, short), tt)
refused_short read line NoName none short = ((none, short), tt)
refused_short read line NoKey none short = ((none, short), tt)
refused_short read line NoValue none short = ((none, short), tt)
refused_short read line Twice none short = absurd short
refused_short read line NinthTable none short = absurd short
refused_short read line BehindTheEnd none short = absurd short

-- the line behind those that were read
pub refused_at : (text : List ℕ) (read : List Entry) (line : List ℕ) (rest : List (List ℕ)) (n : ℕ) (fault : LineFault) → lines_of text ≡ map record_words read ++ line ∷ rest → All IsRecord read → n ≡ suc (length read)
    → IsRefused read line fault → NotBehind fault → HasCause text (Line n fault)
refused_at text read line rest n NoRecord lines proper number refused found = (read, line, rest, lines, proper, number, refused)
refused_at text read line rest n NoName lines proper number refused found = (read, line, rest, lines, proper, number, refused)
refused_at text read line rest n NoKey lines proper number refused found = (read, line, rest, lines, proper, number, refused)
refused_at text read line rest n NoValue lines proper number refused found = (read, line, rest, lines, proper, number, refused)
refused_at text read line rest n Twice lines proper number refused found = (read, line, rest, lines, proper, number, refused)
refused_at text read line rest n NinthTable lines proper number refused found = (read, line, rest, lines, proper, number, refused)
refused_at text read line rest n BehindTheEnd lines proper number refused found = absurd found

pub line_more : (text : List ℕ) (read : List Entry) (entry : Entry) (line : List ℕ) (rest : List (List ℕ)) → lines_of text ≡ map record_words read ++ line ∷ rest → line ≡ record_words entry
    → lines_of text ≡ map record_words (read ++ entry ∷ []) ++ rest
line_more text read entry line rest lines said = lines ∙ ap (λ (l : List ℕ). map record_words read ++ l ∷ rest) said ∙ go read
  where
    go : (others : List Entry) → map record_words others ++ record_words entry ∷ rest ≡ map record_words (others ++ entry ∷ []) ++ rest
    go [] = refl
    go (other ∷ others) = ap (λ (l : List (List ℕ)). record_words other ∷ l) (go others)

-- ---- the end of a text

pub some_lines : (bytes : List ℕ) → 0 < length bytes → (line : List ℕ) × (rest : List (List ℕ)) × (lines_of bytes ≡ line ∷ rest)
some_lines [] some = absurd (omega (arith, some))
some_lines (byte ∷ bytes) some = go (nat_eq byte 10)
  where
    first : (lines : List (List ℕ)) → (line : List ℕ) × (rest : List (List ℕ)) × (onto_first byte lines ≡ line ∷ rest)
    first [] = (byte ∷ [], [], refl)
    first (line ∷ lines) = (byte ∷ line, lines, refl)

    go : (b : Bool) → (line : List ℕ) × (rest : List (List ℕ)) × ((if b then [] ∷ lines_of bytes else onto_first byte (lines_of bytes)) ≡ line ∷ rest)
    go true = ([], lines_of bytes, refl)
    go false = first (lines_of bytes)

pub no_lines : (bytes : List ℕ) → length bytes ≡ 0 → lines_of bytes ≡ []
no_lines [] none = refl
no_lines (byte ∷ bytes) none = absurd (omega (arith, none))

-- a line that was not taken is the cause
pub not_taken : (text : List ℕ) (read : List Entry) (line : List ℕ) (rest : List (List ℕ)) (n : ℕ) (fault : DumpFault) (new : List NamedRows) → lines_of text ≡ map record_words read ++ line ∷ rest → All IsRecord read → n ≡ suc (length read)
    → Takes read line n (Err fault) new → HasCause text fault
not_taken text read line rest n (Line m fault) new lines proper number (same, refused, found) = refused_at text read line rest m fault lines proper (same ∙ number) refused found
not_taken text read line rest n Cut new lines proper number none = absurd none
not_taken text read line rest n (Count said counted) new lines proper number none = absurd none
not_taken text read line rest n NoMemory new lines proper number none = tt
