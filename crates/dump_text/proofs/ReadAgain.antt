-- The text of a dump has one reading.
use Rattle.std.proofs.Common.{◌≡◌, ◌≢◌, ℕ, suc, ◌+◌, ◌^◌, ◌<◌, ◌≤◌, Bool, true, false, ◌⊎◌, inl, inr, ⊎_elim, List, [], ◌∷◌, ◌++◌, map, length, length-append, get_or, Result, Ok, Err, refl, sym, subst, ap, ap₂, ◌∙◌, append_assoc, arith}
use Rattle.std.specs.Prelude.{codes, nat_eq, if◌then◌else◌, IsPermutation}
use lib.Pointwise.{pointwise}
use Rattle.std.specs.Fmt.{decimal}
use Rattle.std.specs.List.{All, Contains, IsDistinct, list_any}
use Rattle.std.proofs.Math.ListN.{get_or-append}
use Rattle.std.proofs.Math.Seq.{get_or-append_seam}
use Rattle.std.proofs.lemmas.Bool.{both_ways}
use Rattle.std.proofs.lemmas.Fmt.{decimal_injective}
use Rattle.std.proofs.lemmas.List.{append_cancel_left, get_or-map, length-map}
use Rattle.std.proofs.lemmas.List.Elements.{All-tail}
use Rattle.std.proofs.lemmas.Map.Keys.{apart_from_distinct}
use Rattle.history.specs.Key.{is_same_key, main_name}
use Rattle.history.specs.declared.key.Key.{Key}
use Rattle.history.specs.Rows.{NamedRows, records_in}
use Rattle.history.proofs.Keys.{name_decides, same_key}
use Rattle.history_text.specs.Text.{key_text}
use Rattle.script_run.specs.Lines.{lines_of}
use Rattle.script_text.proofs.Fields.{same_long_fields}
use Rattle.dump_text.specs.Dump.{IsRecord, IsDumpOf, record_words, count_words, is_same_name, with_name, met, tables_met}
use Rattle.dump_text.specs.Causes.{IsBehindTable, SaysNothing, IsRefused, IsRefusedAt, HasCause, DumpSays, table_words}
use Rattle.dump_text.specs.Again.{AreOfArray, IsReadAs, dumped}
use Rattle.dump_text.specs.declared.fault.DumpFault.{DumpFault}
use Rattle.dump_text.specs.declared.fault.DumpFault.TheVariants.{Line, Cut, Count, NoMemory}
use Rattle.dump_text.specs.declared.fault.LineFault.{LineFault}
use Rattle.dump_text.specs.declared.fault.LineFault.TheVariants.{NoRecord, NoName, NoKey, NoValue, Twice, NinthTable, BehindTheEnd}
use Rattle.dump_text.proofs.Lines.{key_words, words_split, said_behind, one_table, no_sign}
use Rattle.dump_text.proofs.OneLine.{dumped_lines}
use Rattle.dump_text.proofs.Taken.{Entry}

-- ---- a line is that of one record, or of one count

-- the words of a record behind its table are behind it
own_words : (entry : Entry) → IsRecord entry → IsBehindTable entry.0.table (key_words entry) (key_text entry.0 ++ 32 ∷ entry.1)
own_words entry is = record {
  name = is.table;
  said = words_split entry;
  unnamed = λ main named words. go (pointwise nat_eq entry.0.table main_name) ((name_decides entry.0.table main_name).1 main) named (sym (words_split entry) ∙ words);
}
  where
    go : (b : Bool) → b ≡ true → (named : List ℕ) → (if b then [] else 64 ∷ (entry.0.table ++ 32 ∷ [])) ++ key_words entry ≡ 64 ∷ named → ⊥
    go true main named words = no_sign entry.0.key entry.1 named is.key words
    go false main named words = cc main

one_record : (one other : Entry) → IsRecord one → IsRecord other → record_words one ≡ record_words other → one ≡ other
one_record one other first second same =
    let words = said_behind (record_words one) (key_text one.0 ++ 32 ∷ one.1) other refl same in
    let table = one_table (key_text one.0 ++ 32 ∷ one.1) one.0.table (key_words one) other (own_words one first) second words in
    let fields = same_long_fields (key_words one) one.1 other.1 one.0.key other.0.key first.key second.key refl table.1 in
    λ i. (record { table = table.0 i; key = fields.0 i }, fields.1 i)

no_count : {A : Type 0} (entry : Entry) (n : ℕ) → record_words entry ≡ count_words n → A
no_count entry n is = absurd (omega (arith, ap (λ (l : List ℕ). get_or l 3 0) is))

one_count : (m n : ℕ) → m < 2 ^ 64 → n < 2 ^ 64 → count_words m ≡ count_words n → m ≡ n
one_count m n first second same = decimal_injective m n first second (append_cancel_left (codes "records ") (decimal m) (decimal n) same)

-- ---- where a line stands among those of a dump

-- it is that of the next record, or the last one
abbrev Stands : List Entry → ℕ → List Entry → List ℕ → List (List ℕ) → Type 0
Stands records n read line rest =
    ((entry : Entry) × (behind : List Entry) × (records ≡ read ++ entry ∷ behind) × (line ≡ record_words entry)) ⊎ ((read ≡ records) × (line ≡ count_words n) × (rest ≡ []))

stands : (records read : List Entry) (n : ℕ) (line : List ℕ) (rest : List (List ℕ)) → All IsRecord read → All IsRecord records
    → map record_words read ++ line ∷ rest ≡ map record_words records ++ count_words n ∷ [] → Stands records n read line rest
stands [] [] n line rest first second is = inr (refl, cc, cc)
stands (entry ∷ records) [] n line rest first second is = inl (entry, records, refl, cc)
stands [] (entry ∷ read) n line rest first second is =
    let same : record_words entry ≡ count_words n = cc in
    no_count entry n same
stands (other ∷ records) (entry ∷ read) n line rest first second is =
    let head : record_words entry ≡ record_words other = cc in
    let tail : map record_words read ++ line ∷ rest ≡ map record_words records ++ count_words n ∷ [] = cc in
    let same : entry ≡ other = one_record entry other (first 0 entry (omega arith)) (second 0 other (omega arith)) head in
    ⊎_elim
    (λ (next : (e : Entry) × (behind : List Entry) × (records ≡ read ++ e ∷ behind) × (line ≡ record_words e)). inl (next.0, next.1, ap₂ (λ (x : Entry) (xs : List Entry). x ∷ xs) (sym same) next.2, next.3))
    (λ (last : (read ≡ records) × (line ≡ count_words n) × (rest ≡ [])). inr (ap₂ (λ (x : Entry) (xs : List Entry). x ∷ xs) same last.0, last.1, last.2))
    (stands records read n line rest (All-tail IsRecord entry read first) (All-tail IsRecord other records second) tail)

no_end : (records read : List Entry) (n : ℕ) → map record_words read ≡ map record_words records ++ count_words n ∷ [] → All IsRecord read → ⊥
no_end [] [] n is proper = cc is
no_end (other ∷ records) [] n is proper = cc is
no_end [] (entry ∷ read) n is proper =
    let same : record_words entry ≡ count_words n = cc in
    no_count entry n same
no_end (other ∷ records) (entry ∷ read) n is proper =
    let tail : map record_words read ≡ map record_words records ++ count_words n ∷ [] = cc in
    no_end records read n tail (All-tail IsRecord entry read proper)

-- ---- what a next record of a dump cannot be

next_proper : (records read behind : List Entry) (entry : Entry) → records ≡ read ++ entry ∷ behind → All IsRecord records → IsRecord entry
next_proper records read behind entry is proper =
    subst IsRecord (get_or-append_seam read entry behind entry)
    (subst (All IsRecord) is proper (length read) entry (omega (arith, length-append read (entry ∷ behind))))

not_twice : (read behind : List Entry) (entry : Entry) (value : List ℕ) → IsDistinct is_same_key (map (λ (e : Entry). e.0) (read ++ entry ∷ behind)) → Contains read (entry.0, value) → ⊥
not_twice read behind entry value once (i, within, is) =
    let all = read ++ entry ∷ behind in
    let keys = map (λ (e : Entry). e.0) all in
    let size : length all ≡ length read + suc (length behind) = length-append read (entry ∷ behind) in
    let first : get_or keys i entry.0 ≡ entry.0 =
    get_or-map (λ (e : Entry). e.0) all i (entry.0, value) entry.0 (omega (arith, size, within)) ∙ ap (λ (e : Entry). e.0) (get_or-append read (entry ∷ behind) (entry.0, value) i within ∙ is) in
    let second : get_or keys (length read) entry.0 ≡ entry.0 =
    get_or-map (λ (e : Entry). e.0) all (length read) entry entry.0 (omega (arith, size)) ∙ ap (λ (e : Entry). e.0) (get_or-append_seam read entry behind entry) in
    let apart = apart_from_distinct is_same_key keys i (length read) entry.0 once within (omega (arith, size, length-map all (λ (e : Entry). e.0))) in
    both_ways (is_same_key entry.0 entry.0) (ap₂ is_same_key (sym first) (sym second) ∙ apart) (same_key entry.0 entry.0 refl)

met-append : (names : List (List ℕ)) (read more : List Entry) → met names (read ++ more) ≡ met (met names read) more
met-append names [] more = refl
met-append names (entry ∷ read) more = met-append (with_name names entry.0.table) read more

grows : (names : List (List ℕ)) (name : List ℕ) → length names ≤ length (with_name names name)
grows names name = go (list_any (is_same_name name) names)
  where
    go : (b : Bool) → length names ≤ length (if b then names else names ++ name ∷ [])
    go true = omega arith
    go false = omega (arith, length-append names (name ∷ []))

met_grows : (names : List (List ℕ)) (more : List Entry) → length names ≤ length (met names more)
met_grows names [] = omega arith
met_grows names (entry ∷ more) = omega (arith, grows names entry.0.table, met_grows (with_name names entry.0.table) more)

not_ninth : (read behind : List Entry) (entry : Entry) → length (tables_met (read ++ entry ∷ behind)) ≤ 8 → length (tables_met read) ≡ 8 → list_any (is_same_name entry.0.table) (tables_met read) ≡ false → ⊥
not_ninth read behind entry few eight other =
    let names = tables_met read in
    let more : length (with_name names entry.0.table) ≡ 9 =
    ap (λ (b : Bool). length (if b then names else names ++ entry.0.table ∷ [])) other ∙ length-append names (entry.0.table ∷ []) ∙ ap (λ (n : ℕ). n + 1) eight in
    omega (arith, few, more, ap length (met-append (main_name ∷ []) read (entry ∷ behind)), met_grows (with_name names entry.0.table) behind)

-- ---- the law

module _ (records : List Entry) (are : AreOfArray records) where
  says_something : (read : List Entry) (line : List ℕ) (rest : List (List ℕ)) → Stands records (length records) read line rest → SaysNothing line → ⊥
  says_something read line rest (inl (next, behind, split, at)) nothing = nothing.0 next (next_proper records read behind next split are.proper) at
  says_something read line rest (inr last) nothing = nothing.1 (length records) are.countable last.1

  -- no line is refused
  not_refused : (read : List Entry) (line : List ℕ) (rest : List (List ℕ)) (fault : LineFault) → Stands records (length records) read line rest → IsRefused read line fault → ⊥
  not_refused read line rest NoRecord at refused = says_something read line rest at refused.0
  not_refused read line rest NoName at refused = says_something read line rest at refused.0
  not_refused read line rest NoKey at refused = says_something read line rest at refused.0
  not_refused read line rest NoValue at refused = says_something read line rest at refused.0
  not_refused read line rest BehindTheEnd at refused = says_something read line rest at refused.0
  not_refused read line rest Twice (inl (next, behind, split, at)) (entry, is, proper, (value, among)) =
      let same : entry ≡ next = one_record entry next proper (next_proper records read behind next split are.proper) (sym is ∙ at) in
      not_twice read behind next value (subst (λ (l : List Entry). IsDistinct is_same_key (map (λ (e : Entry). e.0) l)) split are.once) (subst (λ (e : Entry). Contains read (e.0, value)) same among)
  not_refused read line rest Twice (inr last) (entry, is, proper, more) = no_count entry (length records) (sym is ∙ last.1)
  not_refused read line rest NinthTable (inl (next, behind, split, at)) (entry, is, proper, eight, other) =
      let same : entry ≡ next = one_record entry next proper (next_proper records read behind next split are.proper) (sym is ∙ at) in
      not_ninth read behind next (subst (λ (l : List Entry). length (tables_met l) ≤ 8) split are.few) eight (subst (λ (e : Entry). list_any (is_same_name e.0.table) (tables_met read) ≡ false) same other)
  not_refused read line rest NinthTable (inr last) (entry, is, proper, eight, other) = no_count entry (length records) (sym is ∙ last.1)

  stands_there : (read : List Entry) (line : List ℕ) (rest : List (List ℕ)) → lines_of (dumped records) ≡ map record_words read ++ line ∷ rest → All IsRecord read → Stands records (length records) read line rest
  stands_there read line rest lines proper = stands records read (length records) line rest proper are.proper (sym lines ∙ dumped_lines records are.proper are.countable)

  -- a line that says how many there are is the last
  last_stands : (read : List Entry) (told : ℕ) (rest : List (List ℕ)) → Stands records (length records) read (count_words told) rest → (read ≡ records) × (count_words told ≡ count_words (length records)) × (rest ≡ [])
  last_stands read told rest (inl (next, behind, split, at)) = no_count next told (sym at)
  last_stands read told rest (inr last) = last

  not_at : (n : ℕ) (fault : LineFault) → IsRefusedAt (dumped records) n fault → ⊥
  not_at n NoRecord (read, line, rest, lines, proper, number, refused) = not_refused read line rest NoRecord (stands_there read line rest lines proper) refused
  not_at n NoName (read, line, rest, lines, proper, number, refused) = not_refused read line rest NoName (stands_there read line rest lines proper) refused
  not_at n NoKey (read, line, rest, lines, proper, number, refused) = not_refused read line rest NoKey (stands_there read line rest lines proper) refused
  not_at n NoValue (read, line, rest, lines, proper, number, refused) = not_refused read line rest NoValue (stands_there read line rest lines proper) refused
  not_at n Twice (read, line, rest, lines, proper, number, refused) = not_refused read line rest Twice (stands_there read line rest lines proper) refused
  not_at n NinthTable (read, line, rest, lines, proper, number, refused) = not_refused read line rest NinthTable (stands_there read line rest lines proper) refused
  not_at n BehindTheEnd (read, told, line, rest, lines, proper, number) =
      let none : line ∷ rest ≡ [] = (last_stands read told (line ∷ rest) (stands_there read (count_words told) (line ∷ rest) lines proper)).2 in
      cc none

  not_refused_text : (fault : DumpFault) → HasCause (dumped records) fault → fault ≡ NoMemory
  not_refused_text (Line n fault) refused = absurd (not_at n fault refused)
  not_refused_text Cut (read, lines, proper) = absurd (no_end records read (length records) (sym lines ∙ dumped_lines records are.proper are.countable) proper)
  not_refused_text (Count told counted) (read, lines, proper, fits, number, other) =
      let last = last_stands read told [] (stands_there read (count_words told) [] lines proper) in
      absurd (other (one_count told (length records) fits are.countable last.1 ∙ ap length (sym last.0) ∙ sym number))
  not_refused_text NoMemory cause = refl

  pub read_again : (result : Result (List NamedRows) DumpFault) → DumpSays (dumped records) result → IsReadAs records result
  read_again (Ok tables) dump =
      let last = last_stands dump.read (length dump.read) [] (stands_there dump.read (count_words (length dump.read)) [] dump.lines dump.proper) in
      (subst (λ (l : List Entry). IsPermutation l (records_in tables)) last.0 dump.same, dump.are, dump.names ∙ ap tables_met last.0)
  read_again (Err fault) cause = not_refused_text fault cause
