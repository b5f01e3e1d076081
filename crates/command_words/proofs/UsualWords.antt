-- What usual words ask for.
use Rattle.std.proofs.Common.{◌≡◌, ◌<◌, ◌≤◌, ◌^◌, ℕ, zero, suc, true, false, List, [], ◌∷◌, Option, Some, None, codes, refl, sym, ap, subst, ◌∙◌, arith, drop, get_or, nat_lt, nat_le, if◌then◌else◌}
use Rattle.std.specs.Prelude.{fold, slice_get, unwrap_or}
use Rattle.std.specs.Str.{bytes_eq}
use Rattle.std.specs.Fmt.{decimal}
use Rattle.std.specs.Option.{option_map_or}
use Rattle.std.specs.List.{list_all}
use Rattle.std.proofs.lemmas.Bool.{and_parts, leb-true, ne_eqb}
use Rattle.std.proofs.lemmas.Fmt.{first_decimal, decimal_digit}
use Rattle.clap.specs.Words.{Text, Rule, Shape, fault_of, subcommand_of, first_of, built}
use Rattle.clap.specs.Lexer.{long_of, short_of}
use Rattle.clap.specs.Walk.{Row, Held, Names, Walk, Step, option, idle, next, trailing, arg_by_id, pushed, pending_count, most_values, to_positional, arg_by_index, value, walked, walk, walk_from, nothing_held, settled, finished, after_step, long_or_other, short_or_plain, option_word, word_met}
use Rattle.clap.specs.Faults.{turn_fault, walk_fault, step_fault, positional_fault, stray_fault, flag_word_fault, bundle_fault, level_fault, settle_fault, defaults_fault, check_fault}
use Rattle.clap.specs.Kinds.{Kinds, or_else}
use Rattle.clap.specs.declared.error.ErrorKind.{ErrorKind}
use Rattle.clap.specs.declared.error.ErrorKind.TheVariants as kind
use Rattle.record_slots.specs.Text.{IsName, is_letter}
use Rattle.command_words.specs.Usual.{late_words, format_words, joined_words, AreSmall, drill_words, AreOfDrill, callers_words, tries_words, readers_words, AreOfCallers, AreOfReaders}
use Rattle.command_words.specs.declared.words.CallersNumbers.{CallersNumbers}
use Rattle.command_words.specs.declared.words.DrillNumbers.{DrillNumbers}
use Rattle.command_words.specs.declared.words.FormatNumbers.{FormatNumbers}
use Rattle.command_words.specs.declared.words.Writing.{Writing}
use Rattle.command_words.specs.declared.words.Writing.TheVariants.{AtOnce, Late}
use Rattle.clap.proofs.OnLiterals.{clap_on_literals}
use Rattle.command_words.specs.CommandLine.{command_line, option_of}
use Rattle.command_words.proofs.Shapes.{run_shape, eaw_shape, format_shape, drill_shape, callers_shape, make_shape}
use Rattle.command_words.specs.Asked.{AsksFor, AskForNothing, IsNumber, GivesCallers, GivesWriting, is_given}
use Rattle.command_words.specs.declared.words.Words.TheVariants.{Run, Callers, Eaw, Dump, Drill, Format, Make, Purge, Follow}

-- the word is not a flag
record IsPlain (word : Text) : Type 0 where
  other : bytes_eq word (45 ∷ 45 ∷ []) ≡ false
  long : long_of word ≡ None
  short : short_of word ≡ None

plain_of : (word : Text) → 48 ≤ get_or word 0 0 → IsPlain word
plain_of [] first = absurd (omega (arith, first))
plain_of (d ∷ ds) first =
    let differ = ne_eqb d 45 (λ same. omega (arith, first, same)) in
    record { other = rw differ refl; long = rw differ refl; short = rw differ refl }

plain_decimal : (n : ℕ) → n < 2 ^ 32 → IsPlain (decimal n)
plain_decimal zero small = subst IsPlain (sym (decimal_digit 0 (omega arith))) (plain_of (48 ∷ []) (omega arith))
plain_decimal (suc n) small = plain_of (decimal (suc n)) (omega (arith, first_decimal (suc n) (omega arith) (omega (arith, small))))

-- an option waits for its value
abbrev waits : Held → ℕ → Text → Walk
waits held position id = record { held = held; waiting = option id; position = position; is_trailing = false; stopped = None }

-- the option has its value
abbrev after_value : Held → ℕ → Text → Rule → Text → Walk
after_value held position id a word = record (waits held position id) {
  held = pushed id word held;
  waiting = if nat_lt (pending_count a (pushed id word held).pending) (most_values a) then option id else idle;
}

module _ (c : List Rule) (names : Names) (held : Held) (position : ℕ) (id : Text) (a : Rule) (word : Text) (is : arg_by_id c id ≡ Some a) (plain : IsPlain word) where
  met_is : word_met c names false (option id) position word held ≡ ((option_word (Some a) id word held).0, next (option_word (Some a) id word held).1)
  met_is =
      ap (λ b. if b then (held, trailing position) else long_or_other c (option id) word (long_of word) held) plain.other
      ∙ ap (λ l. long_or_other c (option id) word l held) plain.long
      ∙ ap (λ s. short_or_plain c (option id) word s held) plain.short
      ∙ ap (λ o. ((option_word o id word held).0, next (option_word o id word held).1)) is

  value_walked : walked c names (waits held position id) word ≡ after_value held position id a word
  unfolding walked
  value_walked = ap (λ (m : Held × Step). after_step c word (waits held position id) m.0 m.1) met_is

module _ (s : Shape) (names : Names) (held : Held) (position : ℕ) (id : Text) (a : Rule) (word : Text) (is : arg_by_id s.rules id ≡ Some a) (plain : IsPlain word) where
  turn_passes : turn_fault s names (waits held position id) word ≡ []
  turn_passes =
      let met = word_met s.rules names false (option id) position word held in
      ap (λ b. or_else (if b then [] else flag_word_fault s.rules s.args_override_self (long_of word) word held) (step_fault s position met.0 met.1)) plain.other
      ∙ ap (λ l. or_else (flag_word_fault s.rules s.args_override_self l word held) (step_fault s position met.0 met.1)) plain.long
      ∙ ap (λ f. or_else (option_map_or (λ flags. bundle_fault s.rules s.args_override_self flags held) f []) (step_fault s position met.0 met.1)) plain.short
      ∙ ap (λ (m : Held × Step). step_fault s position m.0 m.1) (met_is s.rules names held position id a word is plain)

  value_passes : (rest : List Text) → walk_fault s names (waits held position id) (word ∷ rest) ≡ walk_fault s names (after_value held position id a word) rest
  unfolding walk_fault
  value_passes rest = ap (λ k. or_else k (walk_fault s names (walked s.rules names (waits held position id) word) rest)) turn_passes
      ∙ ap (λ w. walk_fault s names w rest) (value_walked s.rules names held position id a word is plain)

-- what comes after the walk of a subcommand
abbrev behind_walk : Shape → Walk → Kinds
behind_walk s w = or_else (settle_fault s.rules s.args_override_self w.held)
    (or_else (defaults_fault (settled s.rules w.held).rows s.rules) (check_fault s (finished s.rules w.held) false))

-- if neither its walk nor what comes after has a fault, there is none
level_passes : (s : Shape) (words : List Text) (w : Walk) → walk_fault s [] (walk_from nothing_held) words ≡ [] → walk s.rules [] nothing_held words ≡ w
    → behind_walk s w ≡ [] → level_fault s [] nothing_held words false [] ≡ []
level_passes s words w passes is no_more = ap (λ k. or_else k (behind_walk s (walk s.rules [] nothing_held words))) passes ∙ ap (behind_walk s) is ∙ no_more

-- the words are accepted, with this subcommand in them and these options
abbrev IsTaken : List Text → Text → List Row → Type 0
IsTaken words name options = (fault_of command_line words ≡ []) × (subcommand_of command_line words ≡ Some (name, options))

-- `run` as it is built, and the options of its words
abbrev run_built : Shape
run_built = unwrap_or (slice_get (built command_line).subs 0) run_shape

abbrev run_options : List Text → List Row
run_options words = finished run_built.rules (walk run_built.rules [] nothing_held words).held

run_taken : IsTaken (codes "run" ∷ []) (codes "run") (run_options [])
unfolding clap_on_literals
run_taken = (refl, refl)

run_plain : (first_of (codes "late") (run_options []) ≡ None) × (false ≡ is_given (first_of (codes "frames") (run_options [])))
unfolding clap_on_literals
run_plain = (refl, refl)

pub run_asks : AsksFor (codes "run" ∷ []) (Run (record { writing = AtOnce; frames = false }))
run_asks = (run_taken.0, codes "run", run_options [], run_taken.1, (refl, run_plain.0, run_plain.1))

run_frames_taken : IsTaken (codes "run" ∷ codes "--frames" ∷ []) (codes "run") (run_options (codes "--frames" ∷ []))
unfolding clap_on_literals
run_frames_taken = (refl, refl)

run_framed : (first_of (codes "late") (run_options (codes "--frames" ∷ [])) ≡ None) × (true ≡ is_given (first_of (codes "frames") (run_options (codes "--frames" ∷ []))))
unfolding clap_on_literals
run_framed = (refl, refl)

pub run_frames_asks : AsksFor (codes "run" ∷ codes "--frames" ∷ []) (Run (record { writing = AtOnce; frames = true }))
run_frames_asks = (run_frames_taken.0, codes "run", run_options (codes "--frames" ∷ []), run_frames_taken.1, (refl, run_framed.0, run_framed.1))

-- `eaw` as it is built, and the options of its words
abbrev eaw_built : Shape
eaw_built = unwrap_or (slice_get (built command_line).subs 1) eaw_shape

abbrev eaw_options : List Text → List Row
eaw_options words = finished eaw_built.rules (walk eaw_built.rules [] nothing_held words).held

eaw_taken : IsTaken (codes "eaw" ∷ []) (codes "eaw") (eaw_options [])
unfolding clap_on_literals
eaw_taken = (refl, refl)

eaw_plain : false ≡ is_given (first_of (codes "frames") (eaw_options []))
unfolding clap_on_literals
eaw_plain = refl

pub eaw_asks : AsksFor (codes "eaw" ∷ []) (Eaw (record { frames = false }))
eaw_asks = (eaw_taken.0, codes "eaw", eaw_options [], eaw_taken.1, (refl, eaw_plain))

frames_taken : IsTaken (codes "eaw" ∷ codes "--frames" ∷ []) (codes "eaw") (eaw_options (codes "--frames" ∷ []))
unfolding clap_on_literals
frames_taken = (refl, refl)

eaw_framed : true ≡ is_given (first_of (codes "frames") (eaw_options (codes "--frames" ∷ [])))
unfolding clap_on_literals
eaw_framed = refl

pub frames_asks : AsksFor (codes "eaw" ∷ codes "--frames" ∷ []) (Eaw (record { frames = true }))
frames_asks = (frames_taken.0, codes "eaw", eaw_options (codes "--frames" ∷ []), frames_taken.1, (refl, eaw_framed))

dump_taken : IsTaken (codes "dump" ∷ []) (codes "dump") []
unfolding clap_on_literals
dump_taken = (refl, refl)

purge_taken : IsTaken (codes "purge" ∷ []) (codes "purge") []
unfolding clap_on_literals
purge_taken = (refl, refl)

follow_taken : IsTaken (codes "follow" ∷ []) (codes "follow") []
unfolding clap_on_literals
follow_taken = (refl, refl)

pub follow_asks : AsksFor (codes "follow" ∷ []) Follow
follow_asks = (follow_taken.0, codes "follow", [], follow_taken.1, refl)

pub purge_asks : AsksFor (codes "purge" ∷ []) Purge
purge_asks = (purge_taken.0, codes "purge", [], purge_taken.1, refl)

pub dump_asks : AsksFor (codes "dump" ∷ []) Dump
dump_asks = (dump_taken.0, codes "dump", [], dump_taken.1, refl)

-- there is a fault
some_fault : {kind : ErrorKind} {kinds : Kinds} → kind ∷ kinds ≡ [] → ⊥
some_fault is = cc is

none_refused : fault_of command_line [] ≡ kind.MissingSubcommand ∷ []
unfolding clap_on_literals
none_refused = refl

pub none_asks : AskForNothing []
none_asks asked asks = some_fault (sym none_refused ∙ asks.0)

help_refused : fault_of command_line (codes "help" ∷ []) ≡ kind.UnknownArgument ∷ kind.InvalidSubcommand ∷ []
unfolding clap_on_literals
help_refused = refl

pub help_asks : AskForNothing (codes "help" ∷ [])
help_asks asked asks = some_fault (sym help_refused ∙ asks.0)

help_option_refused : fault_of command_line (codes "--help" ∷ []) ≡ kind.UnknownArgument ∷ []
unfolding clap_on_literals
help_option_refused = refl

pub help_option_asks : AskForNothing (codes "--help" ∷ [])
help_option_asks asked asks = some_fault (sym help_option_refused ∙ asks.0)

version_option_refused : fault_of command_line (codes "--version" ∷ []) ≡ kind.UnknownArgument ∷ []
unfolding clap_on_literals
version_option_refused = refl

pub version_option_asks : AskForNothing (codes "--version" ∷ [])
version_option_asks asked asks = some_fault (sym version_option_refused ∙ asks.0)

-- `format` as it is built, and its options
abbrev format_built : Shape
format_built = unwrap_or (slice_get (built command_line).subs 3) format_shape

abbrev rule_of : Text → Rule
rule_of id = unwrap_or (arg_by_id format_built.rules id) (option_of id)

abbrev step : Walk → Text → Walk
step = walked format_built.rules []

module _ (l n e p : Text) (plain_l : IsPlain l) (plain_n : IsPlain n) (plain_e : IsPlain e) (plain_p : IsPlain p) where
  abbrev with_l : Walk
  with_l = after_value (step (walk_from nothing_held) (codes "--loggers")).held 1 (codes "loggers") (rule_of (codes "loggers")) l

  abbrev with_n : Walk
  with_n = after_value (step with_l (codes "--numbers")).held 1 (codes "numbers") (rule_of (codes "numbers")) n

  abbrev with_e : Walk
  with_e = after_value (step with_n (codes "--entries")).held 1 (codes "entries") (rule_of (codes "entries")) e

  abbrev with_p : Walk
  with_p = after_value (step with_e (codes "--pages")).held 1 (codes "pages") (rule_of (codes "pages")) p

  abbrev last : List Text
  last = codes "--pages" ∷ p ∷ []

  abbrev later : List Text
  later = codes "--entries" ∷ e ∷ last

  abbrev behind : List Text
  behind = codes "--numbers" ∷ n ∷ later

  walk_is : walk format_built.rules [] nothing_held (codes "--loggers" ∷ l ∷ behind) ≡ with_p
  unfolding clap_on_literals
  walk_is =
      ap (λ w. fold step w behind) (value_walked format_built.rules [] (step (walk_from nothing_held) (codes "--loggers")).held 1 (codes "loggers") (rule_of (codes "loggers")) l refl plain_l)
      ∙ ap (λ w. fold step w later) (value_walked format_built.rules [] (step with_l (codes "--numbers")).held 1 (codes "numbers") (rule_of (codes "numbers")) n refl plain_n)
      ∙ ap (λ w. fold step w last) (value_walked format_built.rules [] (step with_n (codes "--entries")).held 1 (codes "entries") (rule_of (codes "entries")) e refl plain_e)
      ∙ value_walked format_built.rules [] (step with_e (codes "--pages")).held 1 (codes "pages") (rule_of (codes "pages")) p refl plain_p

  passes : walk_fault format_built [] (walk_from nothing_held) (codes "--loggers" ∷ l ∷ behind) ≡ []
  unfolding clap_on_literals
  passes =
      value_passes format_built [] (step (walk_from nothing_held) (codes "--loggers")).held 1 (codes "loggers") (rule_of (codes "loggers")) l refl plain_l behind
      ∙ value_passes format_built [] (step with_l (codes "--numbers")).held 1 (codes "numbers") (rule_of (codes "numbers")) n refl plain_n later
      ∙ value_passes format_built [] (step with_n (codes "--entries")).held 1 (codes "entries") (rule_of (codes "entries")) e refl plain_e last
      ∙ value_passes format_built [] (step with_e (codes "--pages")).held 1 (codes "pages") (rule_of (codes "pages")) p refl plain_p []

  taken : fault_of command_line (codes "format" ∷ codes "--loggers" ∷ l ∷ behind) ≡ []
  unfolding clap_on_literals
  taken = ap (λ k. or_else k []) (level_passes format_built (codes "--loggers" ∷ l ∷ behind) with_p passes walk_is refl)

  met : subcommand_of command_line (codes "format" ∷ codes "--loggers" ∷ l ∷ behind) ≡ Some (codes "format", finished format_built.rules with_p.held)
  unfolding clap_on_literals
  met = ap (λ (w : Walk). Some (codes "format", finished format_built.rules w.held)) walk_is

  -- the values are the ones that were given
  values : (first_of (codes "loggers") (finished format_built.rules with_p.held) ≡ Some l) × (first_of (codes "numbers") (finished format_built.rules with_p.held) ≡ Some n)
      × (first_of (codes "entries") (finished format_built.rules with_p.held) ≡ Some e) × (first_of (codes "pages") (finished format_built.rules with_p.held) ≡ Some p)
  unfolding clap_on_literals
  values = (refl, refl, refl, refl)

given : (least most number : ℕ) (default : Option ℕ) (first : Option Text) → first ≡ Some (decimal number) → least ≤ number → number ≤ most → IsNumber least most default first number
given least most number default first is above below = rw is (above, below, refl)

pub format_asks : (numbers : FormatNumbers) → AreSmall numbers → AsksFor (format_words numbers) (Format numbers)
format_asks numbers small =
    let plain_l = plain_decimal numbers.loggers (omega (arith, small.small_loggers)) in
    let plain_n = plain_decimal numbers.numbers (omega (arith, small.small_numbers)) in
    let plain_e = plain_decimal numbers.entries (omega (arith, small.small_entries)) in
    let plain_p = plain_decimal numbers.pages (omega (arith, small.small_pages)) in
    let found = values (decimal numbers.loggers) (decimal numbers.numbers) (decimal numbers.entries) (decimal numbers.pages) plain_l plain_n plain_e plain_p in (
      taken (decimal numbers.loggers) (decimal numbers.numbers) (decimal numbers.entries) (decimal numbers.pages) plain_l plain_n plain_e plain_p,
      codes "format",
      _,
      met (decimal numbers.loggers) (decimal numbers.numbers) (decimal numbers.entries) (decimal numbers.pages) plain_l plain_n plain_e plain_p,
      (
        refl,
        record {
          loggers = given 0 65535 _ _ _ found.0 (omega arith) (omega (arith, small.small_loggers));
          numbers = given 0 65535 _ _ _ found.1 (omega arith) (omega (arith, small.small_numbers));
          entries = given 0 65535 _ _ _ found.2 (omega arith) (omega (arith, small.small_entries));
          pages = given 0 65535 _ _ _ found.3 (omega arith) (omega (arith, small.small_pages));
        },
      ),
    )

module _ (numbers : FormatNumbers) where
  joined_taken : fault_of command_line (joined_words numbers) ≡ []
  unfolding clap_on_literals
  joined_taken = refl

  abbrev joined_options : List Row
  joined_options = finished format_built.rules (walk format_built.rules [] nothing_held (drop 1 (joined_words numbers))).held

  joined_met : subcommand_of command_line (joined_words numbers) ≡ Some (codes "format", joined_options)
  unfolding clap_on_literals
  joined_met = refl

  joined_values : (first_of (codes "loggers") joined_options ≡ Some (decimal numbers.loggers)) × (first_of (codes "numbers") joined_options ≡ Some (decimal numbers.numbers))
      × (first_of (codes "entries") joined_options ≡ Some (decimal numbers.entries)) × (first_of (codes "pages") joined_options ≡ Some (decimal numbers.pages))
  unfolding clap_on_literals
  joined_values = (refl, refl, refl, refl)

pub joined_asks : (numbers : FormatNumbers) → AreSmall numbers → AsksFor (joined_words numbers) (Format numbers)
joined_asks numbers small =
    let found = joined_values numbers in (
      joined_taken numbers,
      codes "format",
      joined_options numbers,
      joined_met numbers,
      (
        refl,
        record {
          loggers = given 0 65535 _ _ _ found.0 (omega arith) (omega (arith, small.small_loggers));
          numbers = given 0 65535 _ _ _ found.1 (omega arith) (omega (arith, small.small_numbers));
          entries = given 0 65535 _ _ _ found.2 (omega arith) (omega (arith, small.small_entries));
          pages = given 0 65535 _ _ _ found.3 (omega arith) (omega (arith, small.small_pages));
        },
      ),
    )

abbrev late_rule : Rule
late_rule = unwrap_or (arg_by_id run_built.rules (codes "late")) (option_of (codes "late"))

module _ (depth : Text) (plain : IsPlain depth) where
  abbrev with_depth : Walk
  with_depth = after_value (walked run_built.rules [] (walk_from nothing_held) (codes "--late")).held 1 (codes "late") late_rule depth

  late_walk : walk run_built.rules [] nothing_held (codes "--late" ∷ depth ∷ []) ≡ with_depth
  unfolding clap_on_literals
  late_walk = value_walked run_built.rules [] (walked run_built.rules [] (walk_from nothing_held) (codes "--late")).held 1 (codes "late") late_rule depth refl plain

  late_passes : walk_fault run_built [] (walk_from nothing_held) (codes "--late" ∷ depth ∷ []) ≡ []
  unfolding clap_on_literals
  late_passes = value_passes run_built [] (walked run_built.rules [] (walk_from nothing_held) (codes "--late")).held 1 (codes "late") late_rule depth refl plain []

  late_taken : fault_of command_line (codes "run" ∷ codes "--late" ∷ depth ∷ []) ≡ []
  unfolding clap_on_literals
  late_taken = ap (λ k. or_else k []) (level_passes run_built (codes "--late" ∷ depth ∷ []) with_depth late_passes late_walk refl)

  late_met : subcommand_of command_line (codes "run" ∷ codes "--late" ∷ depth ∷ []) ≡ Some (codes "run", finished run_built.rules with_depth.held)
  unfolding clap_on_literals
  late_met = ap (λ (w : Walk). Some (codes "run", finished run_built.rules w.held)) late_walk

  late_value : (first_of (codes "late") (finished run_built.rules with_depth.held) ≡ Some depth) × (false ≡ is_given (first_of (codes "frames") (finished run_built.rules with_depth.held)))
  unfolding clap_on_literals
  late_value = (refl, refl)

pub late_asks : (depth : ℕ) → 1 ≤ depth → depth ≤ 64 → AsksFor (late_words depth) (Run (record { writing = Late depth; frames = false }))
late_asks depth some few =
    let plain = plain_decimal depth (omega (arith, few)) in (
      late_taken (decimal depth) plain,
      codes "run",
      _,
      late_met (decimal depth) plain,
      (refl, given 1 64 depth None _ (late_value (decimal depth) plain).0 some few, (late_value (decimal depth) plain).1),
    )

-- the option `late` is missing
at_once : (first : Option Text) (writing : Writing) → writing ≡ AtOnce → first ≡ None → GivesWriting first writing
at_once first writing is missing = rw is missing

-- nothing waits for a value
abbrev stands : Held → ℕ → Walk
stands held position = record { held = held; waiting = idle; position = position; is_trailing = false; stopped = None }

-- a word that no option names goes to the position that the walk has reached
module _ (s : Shape) (held : Held) (position : ℕ) (word : Text) (plain : IsPlain word) where
  unnamed_met : word_met s.rules [] false idle position word held ≡ (held, value)
  unnamed_met =
      ap (λ b. if b then (held, trailing position) else long_or_other s.rules idle word (long_of word) held) plain.other
      ∙ ap (λ l. long_or_other s.rules idle word l held) plain.long
      ∙ ap (λ f. short_or_plain s.rules idle word f held) plain.short

  unnamed_walked : walked s.rules [] (stands held position) word ≡ to_positional s.rules (arg_by_index s.rules position) word (stands held position) held
  unfolding walked
  unnamed_walked = ap (λ (m : Held × Step). after_step s.rules word (stands held position) m.0 m.1) unnamed_met

  unnamed_turn : (a : Rule) → arg_by_index s.rules position ≡ Some a → positional_fault s.rules s.args_override_self a held ≡ [] → turn_fault s [] (stands held position) word ≡ []
  unnamed_turn a is none =
      let met = word_met s.rules [] false idle position word held in
      ap (λ b. or_else (if b then [] else flag_word_fault s.rules s.args_override_self (long_of word) word held) (step_fault s position met.0 met.1)) plain.other
      ∙ ap (λ l. or_else (flag_word_fault s.rules s.args_override_self l word held) (step_fault s position met.0 met.1)) plain.long
      ∙ ap (λ f. or_else (option_map_or (λ flags. bundle_fault s.rules s.args_override_self flags held) f []) (step_fault s position met.0 met.1)) plain.short
      ∙ ap (λ (m : Held × Step). step_fault s position m.0 m.1) unnamed_met
      ∙ ap (λ o. option_map_or (λ b. positional_fault s.rules s.args_override_self b held) o (stray_fault s)) is
      ∙ none

  unnamed_passes : (rest : List Text) (a : Rule) → arg_by_index s.rules position ≡ Some a → positional_fault s.rules s.args_override_self a held ≡ []
      → walk_fault s [] (stands held position) (word ∷ rest) ≡ walk_fault s [] (to_positional s.rules (arg_by_index s.rules position) word (stands held position) held) rest
  unfolding walk_fault
  unnamed_passes rest a is none = ap (λ k. or_else k (walk_fault s [] (walked s.rules [] (stands held position) word) rest)) (unnamed_turn a is none)
      ∙ ap (λ w. walk_fault s [] w rest) unnamed_walked

-- the only word of a subcommand
module _ (s : Shape) (word : Text) (plain : IsPlain word) where
  abbrev with_word : Walk
  with_word = to_positional s.rules (arg_by_index s.rules 1) word (stands nothing_held 1) nothing_held

  word_walk : walk s.rules [] nothing_held (word ∷ []) ≡ with_word
  word_walk = unnamed_walked s nothing_held 1 word plain

  word_passes : (a : Rule) → arg_by_index s.rules 1 ≡ Some a → positional_fault s.rules s.args_override_self a nothing_held ≡ [] → walk_fault s [] (walk_from nothing_held) (word ∷ []) ≡ []
  unfolding walk_fault
  word_passes a is none = unnamed_passes s nothing_held 1 word plain [] a is none

-- `drill` as it is built
abbrev drill_built : Shape
drill_built = unwrap_or (slice_get (built command_line).subs 4) drill_shape

module _ (seed count : Text) (plain_seed : IsPlain seed) (plain_count : IsPlain count) where
  abbrev with_seed : Walk
  with_seed = to_positional drill_built.rules (arg_by_index drill_built.rules 1) seed (stands nothing_held 1) nothing_held

  abbrev with_count : Walk
  with_count = to_positional drill_built.rules (arg_by_index drill_built.rules 2) count (stands with_seed.held 2) with_seed.held

  drill_walk : walk drill_built.rules [] nothing_held (seed ∷ count ∷ []) ≡ with_count
  unfolding clap_on_literals
  drill_walk = ap (λ w. fold (walked drill_built.rules []) w (count ∷ [])) (unnamed_walked drill_built nothing_held 1 seed plain_seed)
      ∙ unnamed_walked drill_built with_seed.held 2 count plain_count

  drill_passes : walk_fault drill_built [] (walk_from nothing_held) (seed ∷ count ∷ []) ≡ []
  unfolding clap_on_literals
  drill_passes = unnamed_passes drill_built nothing_held 1 seed plain_seed (count ∷ []) _ refl refl
      ∙ unnamed_passes drill_built with_seed.held 2 count plain_count [] _ refl refl

  drill_taken : fault_of command_line (codes "drill" ∷ seed ∷ count ∷ []) ≡ []
  unfolding clap_on_literals
  drill_taken = ap (λ k. or_else k []) (level_passes drill_built (seed ∷ count ∷ []) with_count drill_passes drill_walk refl)

  drill_met : subcommand_of command_line (codes "drill" ∷ seed ∷ count ∷ []) ≡ Some (codes "drill", finished drill_built.rules with_count.held)
  unfolding clap_on_literals
  drill_met = ap (λ (w : Walk). Some (codes "drill", finished drill_built.rules w.held)) drill_walk

  drill_values : (first_of (codes "seed") (finished drill_built.rules with_count.held) ≡ Some seed) × (first_of (codes "count") (finished drill_built.rules with_count.held) ≡ Some count)
      × (first_of (codes "late") (finished drill_built.rules with_count.held) ≡ None)
  unfolding clap_on_literals
  drill_values = (refl, refl, refl)

pub drill_asks : (numbers : DrillNumbers) → AreOfDrill numbers → AsksFor (drill_words numbers) (Drill numbers)
drill_asks numbers are =
    let plain_seed = plain_decimal numbers.seed (omega (arith, are.seed)) in
    let plain_count = plain_decimal numbers.count (omega (arith, are.few)) in
    let found = drill_values (decimal numbers.seed) (decimal numbers.count) plain_seed plain_count in (
      drill_taken (decimal numbers.seed) (decimal numbers.count) plain_seed plain_count,
      codes "drill",
      _,
      drill_met (decimal numbers.seed) (decimal numbers.count) plain_seed plain_count,
      (
        refl,
        given 0 2147483647 _ None _ found.0 (omega arith) are.seed,
        given 1 100000 _ None _ found.1 are.some are.few,
        at_once _ numbers.writing are.writing found.2,
      ),
    )

-- `callers` as it is built
abbrev callers_built : Shape
callers_built = unwrap_or (slice_get (built command_line).subs 5) callers_shape

abbrev tries_rule : Rule
tries_rule = unwrap_or (arg_by_id callers_built.rules (codes "tries")) (option_of (codes "tries"))

abbrev readers_rule : Rule
readers_rule = unwrap_or (arg_by_id callers_built.rules (codes "readers")) (option_of (codes "readers"))

-- an option that waits for its value, and then the value
abbrev with_option : Shape → Walk → Text → Text → Rule → Text → Walk
with_option s before name id a word = after_value (walked s.rules [] before name).held before.position id a word

module _ (s : Shape) (before : Walk) (name id : Text) (a : Rule) (word : Text)
    (asks : walked s.rules [] before name ≡ waits (walked s.rules [] before name).held before.position id)
    (is : arg_by_id s.rules id ≡ Some a) (plain : IsPlain word) where
  option_walked : fold (walked s.rules []) before (name ∷ word ∷ []) ≡ with_option s before name id a word
  option_walked = ap (λ (w : Walk). walked s.rules [] w word) asks ∙ value_walked s.rules [] (walked s.rules [] before name).held before.position id a word is plain

  option_passes : turn_fault s [] before name ≡ [] → walk_fault s [] before (name ∷ word ∷ []) ≡ []
  unfolding walk_fault
  option_passes none = ap (λ k. or_else k (walk_fault s [] (walked s.rules [] before name) (word ∷ []))) none
      ∙ ap (λ (w : Walk). walk_fault s [] w (word ∷ [])) asks
      ∙ value_passes s [] (walked s.rules [] before name).held before.position id a word is plain []

-- the rows of words of `callers`, and what they say
abbrev callers_rows : Walk → List Row
callers_rows w = finished callers_built.rules w.held

abbrev HasValues : List Row → Option Text → Option Text → Option Text → Type 0
HasValues rows callers tries readers = (first_of (codes "callers") rows ≡ callers) × (first_of (codes "tries") rows ≡ tries)
    × (first_of (codes "late") rows ≡ None) × (first_of (codes "readers") rows ≡ readers)

module _ (callers : Text) (plain_callers : IsPlain callers) where
  abbrev with_callers : Walk
  with_callers = with_word callers_built callers plain_callers

  callers_taken : IsTaken (codes "callers" ∷ callers ∷ []) (codes "callers") (callers_rows with_callers)
  unfolding clap_on_literals
  callers_taken = (
    ap (λ k. or_else k []) (level_passes callers_built (callers ∷ []) with_callers (word_passes callers_built callers plain_callers _ refl refl) (word_walk callers_built callers plain_callers) refl),
    ap (λ (w : Walk). Some (codes "callers", callers_rows w)) (word_walk callers_built callers plain_callers),
  )

  callers_values : HasValues (callers_rows with_callers) (Some callers) None None
  unfolding clap_on_literals
  callers_values = (refl, refl, refl, refl)

  -- behind the number of callers an option
  module _ (name id : Text) (a : Rule) (word : Text)
      (asks : walked callers_built.rules [] with_callers name ≡ waits (walked callers_built.rules [] with_callers name).held with_callers.position id)
      (is : arg_by_id callers_built.rules id ≡ Some a) (plain : IsPlain word) where
    optioned_walk : walk callers_built.rules [] nothing_held (callers ∷ name ∷ word ∷ []) ≡ with_option callers_built with_callers name id a word
    unfolding clap_on_literals
    optioned_walk = ap (λ w. fold (walked callers_built.rules []) w (name ∷ word ∷ [])) (unnamed_walked callers_built nothing_held 1 callers plain_callers)
        ∙ option_walked callers_built with_callers name id a word asks is plain

    optioned_passes : turn_fault callers_built [] with_callers name ≡ [] → walk_fault callers_built [] (walk_from nothing_held) (callers ∷ name ∷ word ∷ []) ≡ []
    unfolding clap_on_literals
    optioned_passes none = unnamed_passes callers_built nothing_held 1 callers plain_callers (name ∷ word ∷ []) _ refl refl
        ∙ option_passes callers_built with_callers name id a word asks is plain none

    optioned_taken : turn_fault callers_built [] with_callers name ≡ [] → behind_walk callers_built (with_option callers_built with_callers name id a word) ≡ []
        → IsTaken (codes "callers" ∷ callers ∷ name ∷ word ∷ []) (codes "callers") (callers_rows (with_option callers_built with_callers name id a word))
    unfolding clap_on_literals
    optioned_taken none no_more = (
      ap (λ k. or_else k []) (level_passes callers_built (callers ∷ name ∷ word ∷ []) _ (optioned_passes none) optioned_walk no_more),
      ap (λ (w : Walk). Some (codes "callers", callers_rows w)) optioned_walk,
    )

  abbrev tries_rows : Text → List Row
  tries_rows tries = callers_rows (with_option callers_built with_callers (codes "--tries") (codes "tries") tries_rule tries)

  tries_taken : (tries : Text) → IsPlain tries → IsTaken (codes "callers" ∷ callers ∷ codes "--tries" ∷ tries ∷ []) (codes "callers") (tries_rows tries)
  unfolding clap_on_literals
  tries_taken tries plain = optioned_taken (codes "--tries") (codes "tries") tries_rule tries refl refl plain refl refl

  tries_values : (tries : Text) → HasValues (tries_rows tries) (Some callers) (Some tries) None
  unfolding clap_on_literals
  tries_values tries = (refl, refl, refl, refl)

  abbrev readers_rows : Text → List Row
  readers_rows readers = callers_rows (with_option callers_built with_callers (codes "--readers") (codes "readers") readers_rule readers)

  readers_taken : (readers : Text) → IsPlain readers → IsTaken (codes "callers" ∷ callers ∷ codes "--readers" ∷ readers ∷ []) (codes "callers") (readers_rows readers)
  unfolding clap_on_literals
  readers_taken readers plain = optioned_taken (codes "--readers") (codes "readers") readers_rule readers refl refl plain refl refl

  readers_values : (readers : Text) → HasValues (readers_rows readers) (Some callers) None (Some readers)
  unfolding clap_on_literals
  readers_values readers = (refl, refl, refl, refl)

left : (least most number : ℕ) (first : Option Text) → first ≡ None → IsNumber least most (Some number) first number
left least most number first is = rw is refl

asks_callers : (numbers : CallersNumbers) (words : List Text) (options : List Row) → IsTaken words (codes "callers") options → GivesCallers options numbers → AsksFor words (Callers numbers)
asks_callers numbers words options taken gives = (taken.0, codes "callers", options, taken.1, (refl, gives))

-- without readers, and the tries as they are said
unread_asks : (numbers : CallersNumbers) (words : List Text) (options : List Row) (tries : Option Text) → AreOfCallers numbers → IsTaken words (codes "callers") options
    → HasValues options (Some (decimal numbers.callers)) tries None → IsNumber 1 1000000 (Some 100) (first_of (codes "tries") options) numbers.tries → AsksFor words (Callers numbers)
unread_asks numbers words options tries are taken found said = asks_callers numbers words options taken (record {
  callers = given 1 32 _ None _ found.0 are.some are.few;
  tries = said;
  writing = at_once _ numbers.writing are.writing found.2;
  readers = rw are.readers (left 1 8 0 _ found.3);
  room = λ some. absurd (omega (arith, are.readers, some));
})

pub callers_asks : (numbers : CallersNumbers) → AreOfCallers numbers → numbers.tries ≡ 100 → AsksFor (callers_words numbers) (Callers numbers)
callers_asks numbers are default =
    let plain_callers = plain_decimal numbers.callers (omega (arith, are.few)) in
    let found = callers_values (decimal numbers.callers) plain_callers in
    unread_asks numbers _ _ None are (callers_taken (decimal numbers.callers) plain_callers) found (rw default (left 1 1000000 100 _ found.1))

pub tries_asks : (numbers : CallersNumbers) → AreOfCallers numbers → AsksFor (tries_words numbers) (Callers numbers)
tries_asks numbers are =
    let plain_callers = plain_decimal numbers.callers (omega (arith, are.few)) in
    let plain_tries = plain_decimal numbers.tries (omega (arith, are.bounded)) in
    let found = tries_values (decimal numbers.callers) plain_callers (decimal numbers.tries) in
    unread_asks numbers _ _ (Some (decimal numbers.tries)) are (tries_taken (decimal numbers.callers) plain_callers (decimal numbers.tries) plain_tries) found
    (given 1 1000000 _ _ _ found.1 are.once are.bounded)

pub readers_asks : (numbers : CallersNumbers) → AreOfReaders numbers → AsksFor (readers_words numbers) (Callers numbers)
readers_asks numbers are =
    let plain_callers = plain_decimal numbers.callers (omega (arith, are.few)) in
    let found = readers_values (decimal numbers.callers) plain_callers (decimal numbers.readers) in
    let taken = readers_taken (decimal numbers.callers) plain_callers (decimal numbers.readers) (plain_decimal numbers.readers (omega (arith, are.few_readers))) in
    asks_callers numbers _ _ taken (record {
      callers = given 1 32 _ None _ found.0 are.some (omega (arith, are.few));
      tries = rw are.tries (left 1 1000000 100 _ found.1);
      writing = at_once _ numbers.writing are.writing found.2;
      readers = given 1 8 _ _ _ found.3 are.some_readers are.few_readers;
      room = λ some. are.few;
    })

-- a name begins with a letter
plain_name : (table : List ℕ) → IsName table → IsPlain table
plain_name [] is = absurd (omega (arith, is.some))
plain_name (letter ∷ rest) is = plain_of (letter ∷ rest) (omega (arith, leb-true 97 letter (and_parts (nat_le 97 letter) (nat_le letter 122) (and_parts (is_letter letter) (list_all is_letter rest) is.letters).0).0))

-- `make` as it is built
abbrev make_built : Shape
make_built = unwrap_or (slice_get (built command_line).subs 6) make_shape

module _ (table : Text) (plain : IsPlain table) where
  abbrev make_rows : Walk → List Row
  make_rows w = finished make_built.rules w.held

  make_taken : IsTaken (codes "make" ∷ table ∷ []) (codes "make") (make_rows (with_word make_built table plain))
  unfolding clap_on_literals
  make_taken = (
    ap (λ k. or_else k []) (level_passes make_built (table ∷ []) _ (word_passes make_built table plain _ refl refl) (word_walk make_built table plain) refl),
    ap (λ (w : Walk). Some (codes "make", make_rows w)) (word_walk make_built table plain),
  )

  make_value : first_of (codes "name") (make_rows (with_word make_built table plain)) ≡ Some table
  unfolding clap_on_literals
  make_value = refl

pub make_asks : (table : List ℕ) → IsName table → AsksFor (codes "make" ∷ table ∷ []) (Make table)
make_asks table is =
    let plain = plain_name table is in
    let taken = make_taken table plain in
    (taken.0, codes "make", _, taken.1, (refl, make_value table plain, is))
