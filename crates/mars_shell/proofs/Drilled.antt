-- What a drill comes to: the drawn calls are made, and then a look at the records.
use Rattle.std.proofs.Common.{◌≡◌, ◌+◌, ◌<◌, ℕ, Bool, false, List, [], ◌∷◌, ◌++◌, length, map, take, get_or, refl, sym, ap, subst, ◌∙◌, arith, length-append, Result, Err}
use Rattle.std.specs.Prelude.{IsTrue, Some, None}
use Rattle.std.proofs.lemmas.List.{append_assoc, length-map, map-append}
use Rattle.std.proofs.lemmas.List.Elements.{All-push}
use Rattle.history.specs.Key.{main_name}
use Rattle.history.specs.Writes.{rows_of}
use Rattle.history.specs.declared.call.Call.{Call}
use Rattle.history.specs.declared.call.Call.TheVariants.{Begin, Table}
use Rattle.history.specs.declared.call.TableCall.TheVariants.{Scan}
use Rattle.history.specs.declared.call.Reply.{Reply}
use Rattle.history.specs.declared.call.Reply.TheVariants.{Fine, Listed}
use Rattle.page_store.specs.Index as below
use Rattle.record_table.proofs.Sharing.{Laws}
use Rattle.caller_steps.specs.State.{State, unoffered, with_live, records_of}
use Rattle.caller_steps.specs.Core.{CoreView, Steps}
use Rattle.caller_steps.specs.Run.{Turn}
use Rattle.caller_steps.specs.Step.{Step}
use Rattle.mars_core.specs.Over.{ShowsAll}
use Rattle.mars_manager.specs.Sharing.{CanShare}
use Rattle.command_words.specs.declared.words.DrillNumbers.{DrillNumbers}
use Rattle.drill_gen.specs.Drill.{drill}
use Rattle.script_run.specs.declared.responder.Stop.{Stop}
use Rattle.script_run.specs.declared.responder.Stop.TheVariants.{Media, NoMemory}
use Rattle.mars_shell.specs.Tally.{last_key}
use Rattle.mars_shell.specs.Lines.{goes_on}
use Rattle.mars_shell.specs.Made.{without_reply, GoOn, Made, MadeAll, EndsEarly, SummedUp}
use Rattle.mars_shell.specs.Tally.{tally_of, tally_text, counted, Goes}
use Rattle.mars_shell.specs.declared.tally.Tally.{Tally}
use Rattle.mars_shell.proofs.Making.{tally_more, clean_all, living, made_more, ends_early}
use Rattle.mars_shell.proofs.Looking.{begins, looks, shown_main, shown_within}
use Rattle.mars_shell.proofs.Resting.{all_free, all_rest}

-- ---- a script that goes on

drawn_wider : (turns : List Turn) (script more : List (ℕ × Call)) → map without_reply turns ≡ take (length turns) script → map without_reply turns ≡ take (length turns) (script ++ more)
drawn_wider [] script more is = refl
drawn_wider (turn ∷ turns) [] more is = absurd (cc)
drawn_wider (turn ∷ turns) (first ∷ script) more is =
    let head : without_reply turn ≡ first = cc in
    let rest : map without_reply turns ≡ take (length turns) script = cc in
    λ i. head i ∷ drawn_wider turns script more rest i

module _ (tells : Bool) (old new : CoreView) (script more : List (ℕ × Call)) where
  made_wider : (turns : List Turn) → Made tells old script turns new → Made tells old (script ++ more) turns new
  made_wider turns made = record { limits = made.limits; drawn = drawn_wider turns script more made.drawn; runs = made.runs; shown = made.shown; comes = made.comes }

  pub early_wider : (stop : Stop) → EndsEarly tells old script stop new → EndsEarly tells old (script ++ more) stop new
  early_wider (Media number) early = (early.0, made_wider early.0 early.1, early.2)
  early_wider NoMemory early = (early.0, made_wider early.0 early.1, early.2)

next_call : (before : List (ℕ × Call)) (turn : ℕ × Call) (later : List (ℕ × Call)) (d : ℕ × Call) → get_or (before ++ turn ∷ later) (length before) d ≡ turn
next_call [] turn later d = refl
next_call (first ∷ before) turn later d = next_call before turn later d

-- neither a begin nor a scan is counted
begin_uncounted : (tally : Tally) → counted tally Begin Fine ≡ tally
begin_uncounted tally = refl

scan_uncounted : (tally : Tally) (rows : List (ℕ × List ℕ)) → counted tally (Table (Scan main_name 0 last_key)) (Listed rows) ≡ tally
scan_uncounted tally rows = refl

-- ---- the look behind the drawn calls

module _ (tells : Bool) (old mid : CoreView) (drawn : List (ℕ × Call)) (tally : Tally) (all : MadeAll tells old drawn tally mid) where
  abbrev pub calls : List (ℕ × Call)
  calls = drawn ++ (0, Begin) ∷ (0, Table (Scan main_name 0 last_key)) ∷ []

  made : Made tells old calls all.0 mid
  made = made_wider tells old mid drawn ((0, Begin) ∷ (0, Table (Scan main_name 0 last_key)) ∷ []) all.0 all.1

  long : length all.0 ≡ length drawn
  long = sym (length-map all.0 without_reply) ∙ ap length all.2

  longer : length calls ≡ length drawn + 2
  longer = length-append drawn ((0, Begin) ∷ (0, Table (Scan main_name 0 last_key)) ∷ [])

  module _ (first : CoreView) (begun : Reply) (one : Steps tells 0 Begin mid first begun) where
    less : length all.0 < length calls
    less = omega (arith, long, longer)

    at_begin : get_or calls (length all.0) (0, Begin) ≡ (0, Begin)
    at_begin = ap (λ (n : ℕ). get_or calls n (0, Begin)) long ∙ next_call drawn (0, Begin) ((0, Table (Scan main_name 0 last_key)) ∷ []) (0, Begin)

    pub begin_early : (stop : Stop) → (let r : Result (Unit {0}) Stop = Err stop in Goes 0 begun r) → EndsEarly tells old calls stop first
    begin_early = ends_early tells old calls all.0 mid first 0 Begin begun made one (0, Begin) less at_begin all.3

    abbrev turns_begun : List Turn
    turns_begun = all.0 ++ (0, Begin, begun) ∷ []

    begun_made : Made tells old calls turns_begun first
    begun_made = made_more tells old calls all.0 mid first 0 Begin begun made one (0, Begin) less at_begin

    module _ (goes : IsTrue (goes_on begun)) where
      begun_on : GoOn turns_begun
      begun_on = All-push (λ (turn : Turn). IsTrue (goes_on turn.2)) all.0 (0, Begin, begun) all.3 goes

      module _ (last : CoreView) (look : Reply) (two : Steps tells 0 (Table (Scan main_name 0 last_key)) first last look) where
        far : length turns_begun ≡ length (drawn ++ (0, Begin) ∷ [])
        far = length-append all.0 ((0, Begin, begun) ∷ []) ∙ ap (λ (n : ℕ). n + 1) long ∙ sym (length-append drawn ((0, Begin) ∷ []))

        within : length turns_begun < length calls
        within = let there : length turns_begun ≡ length drawn + 1 = far ∙ length-append drawn ((0, Begin) ∷ []) in omega (arith, there, longer)

        at_scan : get_or calls (length turns_begun) (0, Begin) ≡ (0, Table (Scan main_name 0 last_key))
        at_scan = ap (λ (n : ℕ). get_or calls n (0, Begin)) far
            ∙ ap (λ (l : List (ℕ × Call)). get_or l (length (drawn ++ (0, Begin) ∷ [])) (0, Begin)) (sym (append_assoc drawn ((0, Begin) ∷ []) ((0, Table (Scan main_name 0 last_key)) ∷ [])))
            ∙ next_call (drawn ++ (0, Begin) ∷ []) (0, Table (Scan main_name 0 last_key)) [] (0, Begin)

        pub look_early : (stop : Stop) → (let r : Result (Unit {0}) Stop = Err stop in Goes 0 look r) → EndsEarly tells old calls stop last
        look_early = ends_early tells old calls turns_begun first last 0 (Table (Scan main_name 0 last_key)) look begun_made two (0, Begin) within at_scan begun_on

        abbrev turns_looked : List Turn
        turns_looked = turns_begun ++ (0, Table (Scan main_name 0 last_key), look) ∷ []

        looked_made : Made tells old calls turns_looked last
        looked_made = made_more tells old calls turns_begun first last 0 (Table (Scan main_name 0 last_key)) look begun_made two (0, Begin) within at_scan

        looked_all : map without_reply turns_looked ≡ calls
        looked_all = map-append without_reply turns_begun ((0, Table (Scan main_name 0 last_key), look) ∷ [])
            ∙ ap (λ (l : List (ℕ × Call)). l ++ (0, Table (Scan main_name 0 last_key)) ∷ []) (map-append without_reply all.0 ((0, Begin, begun) ∷ []) ∙ ap (λ (l : List (ℕ × Call)). l ++ (0, Begin) ∷ []) all.2)
            ∙ append_assoc drawn ((0, Begin) ∷ []) ((0, Table (Scan main_name 0 last_key)) ∷ [])

        module _ (looks_on : IsTrue (goes_on look)) where
          looked_on : GoOn turns_looked
          looked_on = All-push (λ (turn : Turn). IsTrue (goes_on turn.2)) turns_begun (0, Table (Scan main_name 0 last_key), look) begun_on looks_on

          pub looked_early : EndsEarly tells old calls NoMemory last
          looked_early = (turns_looked, looked_made, clean_all turns_looked looked_on)

          -- the replies are as those of the drawn calls, where the look is answered
          tally_same : begun ≡ Fine → (rows : List (ℕ × List ℕ)) → look ≡ Listed rows → tally_of turns_looked ≡ tally
          tally_same fine rows is = tally_more turns_begun 0 (Table (Scan main_name 0 last_key)) look ∙ ap (counted (tally_of turns_begun) (Table (Scan main_name 0 last_key))) is ∙ scan_uncounted (tally_of turns_begun) rows
              ∙ tally_more all.0 0 Begin begun ∙ ap (counted (tally_of all.0) Begin) fine ∙ begin_uncounted (tally_of all.0) ∙ sym all.4

          module _ (index : below.Index) (laws : Laws index) (shows : IsTrue tells → ShowsAll index mid.state) (alive : IsTrue tells → mid.state.is_dead ≡ false)
              (none : IsTrue tells → (c : ℕ) → mid.state.live c ≡ None) (free : IsTrue tells → (c : ℕ) → mid.state.offers c ≡ unoffered) where
            begun_is : IsTrue tells → (begun ≡ Fine) × (first.state ≡ with_live mid.state 0 (Some []))
            begun_is told = begins mid.limits mid.state (alive told) (none told) (free told) begun first.state (one.step told)

            look_is : IsTrue tells → look ≡ Listed (rows_of main_name (records_of last.state))
            look_is told = looks first.limits mid.state (alive told) (none told) (free told) (shown_main index laws mid.state (shows told)) (shown_within index laws mid.state (shows told)) look last.state looks_on
                (subst (λ (s : State). Step first.limits s 0 (Table (Scan main_name 0 last_key)) look last.state) (begun_is told).1 (two.step told))

            pub summed : (numbers : DrillNumbers) (text : List ℕ) → text ≡ tally_text numbers tally look → SummedUp tells numbers old calls text last
            summed numbers text is = (
              turns_looked,
              looked_made,
              looked_all,
              looked_on,
              λ told. is ∙ (λ i. tally_text numbers (sym (tally_same (begun_is told).0 (rows_of main_name (records_of last.state)) (look_is told)) i) (look_is told i)),
            )

-- behind the drawn calls nobody has a transaction, and the data shows the state
module _ (tells : Bool) (old mid : CoreView) (seed count callers : ℕ) (tally : Tally) (all : MadeAll tells old (drill seed count callers) tally mid) (ready : CanShare tells 0 old) (told : IsTrue tells) where
  pub drilled_alive : mid.state.is_dead ≡ false
  drilled_alive = living old.limits old.state mid.state all.0 (all.1.runs told) ready.alive (clean_all all.0 all.3)

  pub drilled_none : (c : ℕ) → mid.state.live c ≡ None
  drilled_none = all_rest old.limits old.state all.0 mid.state seed count callers (all.1.runs told) all.3 all.2 ready.alive ready.live ready.offers

  pub drilled_free : (c : ℕ) → mid.state.offers c ≡ unoffered
  drilled_free = all_free old.limits old.state all.0 mid.state seed count callers (all.1.runs told) all.3 all.2 ready.alive ready.live ready.offers

  pub drilled_shown : old.shows old.state → mid.shows mid.state
  drilled_shown shows = all.1.shown told (λ _. shows) drilled_alive
