-- The words of a record's line, from its table on.
use Rattle.std.proofs.Common.{◌≡◌, ◌≢◌, ℕ, ◌^◌, ◌<◌, Bool, true, false, List, [], ◌∷◌, ◌++◌, length, take, drop, get_or, refl, sym, subst, ap, ◌∙◌, append_assoc, arith}
use Rattle.std.specs.Prelude.{codes, nat_eq, if◌then◌else◌}
use lib.Pointwise.{pointwise}
use Rattle.std.specs.Char.{digit_value}
use Rattle.std.specs.Fmt.{decimal}
use Rattle.std.specs.Str.Parse.{AllDigits, digits_value}
use Rattle.std.proofs.lemmas.Fmt.{digits_decimal}
use Rattle.std.proofs.lemmas.Str.Parse.{numerals_by_value, tells_digits}
use Rattle.std.proofs.lemmas.Bool.{both_ways}
use Rattle.std.proofs.lemmas.List.{take-append-drop}
use Rattle.history.specs.Key.{main_name}
use Rattle.history.specs.declared.key.Key.{Key}
use Rattle.history.proofs.Keys.{name_decides}
use Rattle.history_text.specs.Text.{key_text}
use Rattle.script_text.proofs.Fields.{behind}
use Rattle.script_text.proofs.Naming.{name_is_word}
use Rattle.script_text.proofs.Words.{first_space}
use Rattle.dump_text.specs.Dump.{IsRecord, record_words}
use Rattle.dump_text.specs.Causes.{table_words, IsBehindTable, NamesNone, IsNoRecord, IsShort}
use Rattle.dump_text.specs.declared.fault.LineFault.TheVariants.{NoName, NoKey}

-- the words of a record behind the name of its table
abbrev pub key_words : Key × List ℕ → List ℕ
key_words entry = decimal entry.0.key ++ 32 ∷ entry.1

-- what is left behind a front
pub stripped : (front line rest : List ℕ) → pointwise nat_eq (take (length front) line) front ≡ true → rest ≡ drop (length front) line → line ≡ front ++ rest
stripped front line rest is left =
    sym (take-append-drop (length front) line) ∙ ap (λ (l : List ℕ). l ++ drop (length front) line) ((name_decides (take (length front) line) front).0 is) ∙ ap (λ (l : List ℕ). front ++ l) (sym left)

key_split : (key : Key) → key_text key ≡ table_words key.table ++ decimal key.key
key_split key = elim (pointwise nat_eq key.table main_name) as (λ b. (if b then decimal key.key else 64 ∷ (key.table ++ 32 ∷ decimal key.key)) ≡ (if b then [] else 64 ∷ (key.table ++ 32 ∷ [])) ++ decimal key.key) [
  | true ↦ refl
  | false ↦ ap (λ (l : List ℕ). 64 ∷ l) (sym (append_assoc key.table (32 ∷ []) (decimal key.key)))
]

-- the name of the table and what is behind it
pub words_split : (entry : Key × List ℕ) → key_text entry.0 ++ 32 ∷ entry.1 ≡ table_words entry.0.table ++ key_words entry
words_split entry = ap (λ (l : List ℕ). l ++ 32 ∷ entry.1) (key_split entry.0) ∙ append_assoc (table_words entry.0.table) (decimal entry.0.key) (32 ∷ entry.1)

-- the line, and the words behind its front
pub said_behind : (line words : List ℕ) (entry : Key × List ℕ) → line ≡ codes "rec " ++ words → line ≡ record_words entry → words ≡ table_words entry.0.table ++ key_words entry
said_behind line words entry split is = behind (codes "rec ") line words (table_words entry.0.table ++ key_words entry) split (is ∙ ap (λ (l : List ℕ). codes "rec " ++ l) (words_split entry))

-- a number does not begin with the sign of a name
unsigned : (digits rest named : List ℕ) → AllDigits 10 digits → digits ++ 32 ∷ rest ≡ 64 ∷ named → ⊥
unsigned [] rest named all is = omega (arith, ap (λ (l : List ℕ). get_or l 0 0) is)
unsigned (digit ∷ digits) rest named all is =
    let sign : digit ≡ 64 = ap (λ (l : List ℕ). get_or l 0 0) is in
    let below : digit_value 64 < 10 = subst (λ x. digit_value x < 10) sign all.0 in
    omega (arith, below)

pub no_sign : (key : ℕ) (rest named : List ℕ) → key < 2 ^ 64 → decimal key ++ 32 ∷ rest ≡ 64 ∷ named → ⊥
no_sign key rest named fits is = unsigned (decimal key) rest named (digits_decimal (numerals_by_value (AllDigits 10) tells_digits) key fits) is

abbrev words_if : Bool → List ℕ → List ℕ
words_if main table = if main then [] else 64 ∷ (table ++ 32 ∷ [])

tail_is : (rest other : List ℕ) → ◌≡◌ {A = List ℕ} (64 ∷ rest) (64 ∷ other) → rest ≡ other
tail_is rest other e = cc

-- words name one table
pub one_table : (words table rest : List ℕ) (entry : Key × List ℕ) → IsBehindTable table rest words → IsRecord entry → words ≡ table_words entry.0.table ++ key_words entry
    → (table ≡ entry.0.table) × (rest ≡ key_words entry)
one_table words table rest entry is proper said = go (pointwise nat_eq table main_name) (pointwise nat_eq entry.0.table main_name) refl refl is.said said
  where
    go : (b c : Bool) → pointwise nat_eq table main_name ≡ b → pointwise nat_eq entry.0.table main_name ≡ c
        → words ≡ words_if b table ++ rest → words ≡ words_if c entry.0.table ++ key_words entry → (table ≡ entry.0.table) × (rest ≡ key_words entry)
    go true true one other first second = ((name_decides table main_name).0 one ∙ sym ((name_decides entry.0.table main_name).0 other), sym first ∙ second)
    go true false one other first second = absurd (is.unnamed ((name_decides table main_name).0 one) ((entry.0.table ++ 32 ∷ []) ++ key_words entry) second)
    go false true one other first second = absurd (no_sign entry.0.key entry.1 ((table ++ 32 ∷ []) ++ rest) proper.key (sym second ∙ first))
    go false false one other first second =
        let tails : table ++ 32 ∷ rest ≡ entry.0.table ++ 32 ∷ key_words entry =
        sym (append_assoc table (32 ∷ []) rest) ∙ tail_is _ _ (sym first ∙ second) ∙ append_assoc entry.0.table (32 ∷ []) (key_words entry) in
        first_space table entry.0.table rest (key_words entry) (name_is_word table is.name) (name_is_word entry.0.table proper.table) tails

-- words that name no table are those of no record
pub none_named : (words : List ℕ) (entry : Key × List ℕ) → NamesNone words → IsRecord entry → words ≡ table_words entry.0.table ++ key_words entry → ⊥
none_named words entry none proper said = go (pointwise nat_eq entry.0.table main_name) refl said
  where
    go : (c : Bool) → pointwise nat_eq entry.0.table main_name ≡ c → words ≡ words_if c entry.0.table ++ key_words entry → ⊥
    go true other is = no_sign entry.0.key entry.1 none.0 proper.key (sym is ∙ none.1)
    go false other is =
        none.2 entry.0.table (key_words entry) proper.table
        (λ (main : entry.0.table ≡ main_name). both_ways (pointwise nat_eq entry.0.table main_name) other ((name_decides entry.0.table main_name).1 main))
        (tail_is _ _ (sym none.1 ∙ is) ∙ append_assoc entry.0.table (32 ∷ []) (key_words entry))

-- a record's line from its parts
pub words_of : (line words table rest text : List ℕ) (key : ℕ) (value : List ℕ) → line ≡ codes "rec " ++ words → IsBehindTable table rest words → rest ≡ decimal key ++ 32 ∷ text → value ≡ text
    → line ≡ record_words (record { table = table; key = key }, value)
words_of line words table rest text key value split is said same =
    let entry : Key × List ℕ = (record { table = table; key = key }, value) in
    split ∙ ap (λ (l : List ℕ). codes "rec " ++ l)
    (is.said ∙ ap (λ (l : List ℕ). table_words table ++ l) (said ∙ ap (λ (l : List ℕ). decimal key ++ 32 ∷ l) (sym same)) ∙ sym (words_split entry))

-- ---- lines that are short of a record

pub no_table : (line words : List ℕ) → line ≡ codes "rec " ++ words → NamesNone words → IsNoRecord line × IsShort line NoName
no_table line words split none = ((λ entry proper said. none_named words entry none proper (said_behind line words entry split said)), (words, split, none))

pub no_key : (line words table rest : List ℕ) → line ≡ codes "rec " ++ words → IsBehindTable table rest words
    → ((key : ℕ) (more : List ℕ) → key < 2 ^ 64 → rest ≡ decimal key ++ 32 ∷ more → ⊥) → IsNoRecord line × IsShort line NoKey
no_key line words table rest split is none = (
  (λ entry proper said. none entry.0.key entry.1 proper.key (one_table words table rest entry is proper (said_behind line words entry split said)).1),
  (table, rest, split ∙ ap (λ (l : List ℕ). codes "rec " ++ l) is.said, none),
)
