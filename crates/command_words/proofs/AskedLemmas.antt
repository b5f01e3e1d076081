-- What the values of options say, and what the subcommand says.
use Rattle.std.proofs.Common.{◌≡◌, ◌<◌, ◌≤◌, ◌^◌, ℕ, List, Option, Some, None, MatchOption, SomeIff, codes, true, false, is_some, option_map, sym, refl, ap, ap₂, subst, ◌∙◌, arith, rules}
use Rattle.std.specs.Fmt.{decimal}
use Rattle.std.specs.Str.{bytes_eq}
use Rattle.std.proofs.lemmas.Slice.Eq.{bytes_eq-Decides}
use Rattle.std.proofs.lemmas.Fmt.{decimal_injective}
use Rattle.clap.specs.Words.{Text, Row, subcommand_rows_of, first_of}
use Rattle.clap.specs.Matches.{subcommand_name_of}
use Rattle.clap.specs.declared.parser.ArgMatches.{ArgMatches}
use Rattle.texts.specs.Reads.{Reads}
use Rattle.record_slots.specs.Text.{IsName}
use Rattle.command_words.specs.Asked.{SubcommandAsks, GivesNumbers, GivesCallers, GivesWriting, IsNumber, is_given}
use Rattle.command_words.specs.declared.words.CallersNumbers.{CallersNumbers}
use Rattle.command_words.specs.declared.words.DrillNumbers.{DrillNumbers}
use Rattle.command_words.specs.declared.words.FormatNumbers.{FormatNumbers}
use Rattle.command_words.specs.declared.words.RunOptions.{RunOptions}
use Rattle.command_words.specs.declared.words.EawOptions.{EawOptions}
use Rattle.command_words.specs.declared.words.Writing.{Writing}
use Rattle.command_words.specs.declared.words.Writing.TheVariants.{AtOnce, Late}
use Rattle.command_words.specs.declared.words.Words.{Words}
use Rattle.command_words.specs.declared.words.Words.TheVariants.{Run, Callers, Eaw, Dump, Drill, Format, Make, Purge, Follow}

pub some_is_none : {X : Type 0} {x : X} → Some x ≡ None → ⊥
some_is_none is = cc is

inner : {X : Type 0} {x y : X} → Some x ≡ Some y → x ≡ y
inner is = cc is

-- words that differ
apart : {A : Type 0} (word other : Text) → bytes_eq word other ≡ false → word ≡ other → A
apart word other differ same = absurd (cc ((bytes_eq-Decides word other).1 same, differ))

-- a value that was read
pub number_read : (least most : ℕ) (default : Option ℕ) (first : Option Text) (value : Text) (read : Option ℕ) → first ≡ Some value → Reads (λ n. (least ≤ n) × (n ≤ most)) decimal value read
    → MatchOption read ((n : ℕ) → IsNumber least most default first n → ⊥) (IsNumber least most default first)
number_read least most default first value None is h = rw is (λ n p. h n (p.0, p.1) p.2)
number_read least most default first value (Some n) is h = rw is (h.0.0, h.0.1, h.1)

-- the value is missing
pub number_left : (least most : ℕ) (default : Option ℕ) (first : Option Text) → first ≡ None
    → MatchOption default ((n : ℕ) → IsNumber least most default first n → ⊥) (IsNumber least most default first)
number_left least most None first is = rw is (λ n same. some_is_none (sym same))
number_left least most (Some n) first is = rw is refl

-- a value and a default give at most one number
pub one_number : (least most : ℕ) (default : Option ℕ) (first : Option Text) (m n : ℕ) → most < 2 ^ 32 → IsNumber least most default first m → IsNumber least most default first n → m ≡ n
one_number least most default None m n fits is are = inner (sym is ∙ are)
one_number least most default (Some value) m n fits is are = decimal_injective m n (omega (arith, is.1, fits)) (omega (arith, are.1, fits)) (sym is.2 ∙ are.2)

pair_is : {X : Type 0} (f : X → Text) (g : X → List Row) (found : Option X) (name : Text) (options : List Row) → Some name ≡ option_map f found
    → Some options ≡ option_map {T = Text × List Row} (λ p. p.1) (option_map {U = Text × List Row} (λ x. (f x, g x)) found) → option_map {U = Text × List Row} (λ x. (f x, g x)) found ≡ Some (name, options)
pair_is f g None name options named has = absurd (some_is_none named)
pair_is f g (Some x) name options named has = ap₂ (λ n o. Some (n, o)) (inner (sym named)) (inner (sym has))

-- the subcommand has this name and these options
pub met_is : (m : ArgMatches) (name : Text) (options : List Row) → Some name ≡ subcommand_name_of m → Some options ≡ option_map (λ p. p.1) (subcommand_rows_of m)
    → subcommand_rows_of m ≡ Some (name, options)
met_is m name options named has = pair_is _ _ _ name options named has

-- the subcommand that was found is determined
pub one_met : (met : Option (Text × List Row)) (name other : Text) (options others : List Row) → met ≡ Some (name, options) → met ≡ Some (other, others)
    → (other ≡ name) × (others ≡ options)
one_met met name other options others is also =
    let same : (other, others) ≡ (name, options) = inner (sym also ∙ is) in
    (ap (λ p. p.0) same, ap (λ p. p.1) same)

-- the name of the subcommand that asks for it
abbrev name_of : Words → Text
name_of (Run given) = codes "run"
name_of (Callers numbers) = codes "callers"
name_of (Eaw given) = codes "eaw"
name_of Dump = codes "dump"
name_of (Drill numbers) = codes "drill"
name_of (Format numbers) = codes "format"
name_of (Make table) = codes "make"
name_of Purge = codes "purge"
name_of Follow = codes "follow"

-- whoever says it has that name
named : (name : Text) (options : List Row) (asked : Words) → SubcommandAsks name options asked → name ≡ name_of asked
named name options (Run given) says = says.0
named name options (Callers numbers) says = says.0
named name options (Eaw given) says = says.0
named name options Dump says = says
named name options (Drill numbers) says = says.0
named name options (Format numbers) says = says.0
named name options (Make table) says = says.0
named name options Purge says = says
named name options Follow says = says

-- if the numbers are wrong, nothing is asked for
pub no_run : (options : List Row) → ((given : RunOptions) → GivesWriting (first_of (codes "late") options) given.writing → ⊥) → (asked : Words) → SubcommandAsks (codes "run") options asked → ⊥
no_run options none (Run given) says = none given says.1
no_run options none asked says = apart (codes "run") (name_of asked) refl (named (codes "run") options asked says)

pub no_callers : (options : List Row) → ((numbers : CallersNumbers) → GivesCallers options numbers → ⊥) → (asked : Words) → SubcommandAsks (codes "callers") options asked → ⊥
no_callers options none (Callers numbers) says = none numbers says.1
no_callers options none asked says = apart (codes "callers") (name_of asked) refl (named (codes "callers") options asked says)

pub no_drill : (values : List Row) → ((numbers : DrillNumbers) → SubcommandAsks (codes "drill") values (Drill numbers) → ⊥) → (asked : Words) → SubcommandAsks (codes "drill") values asked → ⊥
no_drill values none (Drill numbers) says = none numbers says
no_drill values none asked says = apart (codes "drill") (name_of asked) refl (named (codes "drill") values asked says)

pub no_format : (options : List Row) → ((numbers : FormatNumbers) → GivesNumbers options numbers → ⊥) → (asked : Words) → SubcommandAsks (codes "format") options asked → ⊥
no_format options none (Format numbers) says = none numbers says.1
no_format options none asked says = apart (codes "format") (name_of asked) refl (named (codes "format") options asked says)

pub no_make : (values : List Row) → ((table : List ℕ) → SubcommandAsks (codes "make") values (Make table) → ⊥) → (asked : Words) → SubcommandAsks (codes "make") values asked → ⊥
no_make values none (Make table) says = none table says
no_make values none asked says = apart (codes "make") (name_of asked) refl (named (codes "make") values asked says)

-- and so under whatever name and options the subcommand is found
pub none_said : (m : ArgMatches) (word name : Text) (options : List Row) → name ≡ word → Some name ≡ subcommand_name_of m → Some options ≡ option_map (λ p. p.1) (subcommand_rows_of m)
    → ((asked : Words) → SubcommandAsks word options asked → ⊥) → (other : Text) (others : List Row) (asked : Words) → subcommand_rows_of m ≡ Some (other, others) → SubcommandAsks other others asked → ⊥
none_said m word name options is named has none other others asked met says =
    let same = one_met (subcommand_rows_of m) name other options others (met_is m name options named has) met in
    let said : SubcommandAsks word options asked = rw (same.0, same.1, is) at says in
    none asked said

-- a value says one thing of when data is written
pub one_writing : (first : Option Text) (writing other : Writing) → GivesWriting first writing → GivesWriting first other → writing ≡ other
one_writing first AtOnce AtOnce is also = refl
one_writing None AtOnce (Late depth) is also = absurd (some_is_none (sym also))
one_writing None (Late depth) other is also = absurd (some_is_none (sym is))
one_writing (Some value) AtOnce other is also = absurd (some_is_none is)
one_writing (Some value) (Late depth) AtOnce is also = absurd (some_is_none also)
one_writing (Some value) (Late depth) (Late more) is also = ap Late (one_number 1 64 None (Some value) depth more (omega arith) is also)

-- numbers of the same options are the same
one_run : (name : Text) (options : List Row) (given other : RunOptions) → SubcommandAsks name options (Run given) → SubcommandAsks name options (Run other) → given ≡ other
one_run name options given other is also = ap₂ (λ w b. record { writing = w; frames = b }) (one_writing (first_of (codes "late") options) given.writing other.writing is.1 also.1) (is.2 ∙ sym also.2)

one_eaw : (options : List Row) (given other : EawOptions) → given.frames ≡ is_given (first_of (codes "frames") options) → other.frames ≡ is_given (first_of (codes "frames") options) → given ≡ other
one_eaw options given other is also = ap (λ b. record { frames = b }) (is ∙ sym also)

one_callers : (options : List Row) (numbers other : CallersNumbers) → GivesCallers options numbers → GivesCallers options other → numbers ≡ other
one_callers options numbers other are also = search (rules, one_number, one_writing)

one_drill : (name : Text) (values : List Row) (numbers other : DrillNumbers) → SubcommandAsks name values (Drill numbers) → SubcommandAsks name values (Drill other) → numbers ≡ other
one_drill name values numbers other are also =
    let seed = one_number 0 2147483647 None (first_of (codes "seed") values) numbers.seed other.seed (omega arith) are.1 also.1 in
    let count = one_number 1 100000 None (first_of (codes "count") values) numbers.count other.count (omega arith) are.2 also.2 in
    let writing = one_writing (first_of (codes "late") values) numbers.writing other.writing are.3 also.3 in
    grind (arith, seed, count, writing)

one_format : (options : List Row) (numbers other : FormatNumbers) → GivesNumbers options numbers → GivesNumbers options other → numbers ≡ other
one_format options numbers other are also = search (rules, one_number)

one_make : (name : Text) (values : List Row) (table other : List ℕ) → SubcommandAsks name values (Make table) → SubcommandAsks name values (Make other) → table ≡ other
one_make name values table other is also = inner (sym is.1 ∙ also.1)

-- a name and options say at most one thing
pub one_asked : (name : Text) (options : List Row) (asked other : Words) → SubcommandAsks name options asked → SubcommandAsks name options other → asked ≡ other
one_asked name options (Run given) (Run other) says also = ap Run (one_run name options given other says also)
one_asked name options (Callers numbers) (Callers other) says also = ap Callers (one_callers options numbers other says.1 also.1)
one_asked name options (Eaw given) (Eaw other) says also = ap Eaw (one_eaw options given other says.1 also.1)
one_asked name options Dump Dump says also = refl
one_asked name options (Drill numbers) (Drill other) says also = ap Drill (one_drill name options numbers other says also)
one_asked name options (Format numbers) (Format other) says also = ap Format (one_format options numbers other says.1 also.1)
one_asked name options (Make table) (Make other) says also = ap Make (one_make name options table other says also)
one_asked name options Purge Purge says also = refl
one_asked name options Follow Follow says also = refl
one_asked name options asked other says also = apart (name_of asked) (name_of other) refl (sym (named name options asked says) ∙ named name options other also)

-- a word that names no command asks for nothing
pub none_other : (word : Text) → (word ≡ codes "run" → ⊥) → (word ≡ codes "callers" → ⊥) → (word ≡ codes "eaw" → ⊥) → (word ≡ codes "dump" → ⊥) → (word ≡ codes "drill" → ⊥)
    → (word ≡ codes "format" → ⊥) → (word ≡ codes "make" → ⊥) → (word ≡ codes "purge" → ⊥) → (word ≡ codes "follow" → ⊥) → (options : List Row) (asked : Words) → SubcommandAsks word options asked → ⊥
none_other word run callers eaw dump drill format make purge follow options (Run given) says = run says.0
none_other word run callers eaw dump drill format make purge follow options (Callers numbers) says = callers says.0
none_other word run callers eaw dump drill format make purge follow options (Eaw given) says = eaw says.0
none_other word run callers eaw dump drill format make purge follow options Dump says = dump says
none_other word run callers eaw dump drill format make purge follow options (Drill numbers) says = drill says.0
none_other word run callers eaw dump drill format make purge follow options (Format numbers) says = format says.0
none_other word run callers eaw dump drill format make purge follow options (Make table) says = make says.0
none_other word run callers eaw dump drill format make purge follow options Purge says = purge says
none_other word run callers eaw dump drill format make purge follow options Follow says = follow says

-- whether there is a value, by its text
pub no_text : {X Y : Type 0} (f : X → Y) (found : Option X) → is_some found ≡ false → option_map f found ≡ None
no_text f None none = refl
no_text f (Some x) none = absurd (cc none)

pub some_text : {X Y : Type 0} (f : X → Y) (found : Option X) → is_some found ≡ true → option_map f found ≡ None → ⊥
some_text f None some none = cc some
some_text f (Some x) some none = cc none

-- if a value spells no depth, the option says nothing
pub no_writing : (first : Option Text) → (first ≡ None → ⊥) → ((n : ℕ) → IsNumber 1 64 None first n → ⊥) → (writing : Writing) → GivesWriting first writing → ⊥
no_writing first some none AtOnce gives = some gives
no_writing first some none (Late depth) gives = none depth gives

-- whether a word is the name of a table
pub name_read : (values : List Row) (word : Text) (read : Option (List ℕ)) → first_of (codes "name") values ≡ Some word → SomeIff read (IsName word) word
    → MatchOption read ((table : List ℕ) → SubcommandAsks (codes "make") values (Make table) → ⊥) (λ table. SubcommandAsks (codes "make") values (Make table))
name_read values word None is h = λ table gives. h (subst IsName (inner (sym gives.1 ∙ is)) gives.2)
name_read values word (Some table) is h = (refl, is ∙ ap Some (sym h.1), subst IsName (sym h.1) h.0)

pub no_name : (values : List Row) → first_of (codes "name") values ≡ None → (table : List ℕ) → SubcommandAsks (codes "make") values (Make table) → ⊥
no_name values none table gives = some_is_none (sym gives.1 ∙ none)
