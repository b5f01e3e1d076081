-- The work of callers on threads over the records of a store, from what a core makes of it.
use Rattle.std.proofs.Common.{◌≡◌, ◌≢◌, ◌↔◌, inl, ℕ, zero, suc, ◌+◌, ◌<◌, ◌≤◌, List, Option, None, get_or, ne_eqb, length, [], ◌∷◌, ◌++◌, Bool, true, false, refl, sym, ap, subst, ◌∙◌, arith}
use Rattle.std.specs.Prelude.{IsTrue, if◌then◌else◌, Result, Ok, Err, IfOk, IsOk}
use Rattle.std.specs.Global.{Vec}
use Rattle.mars_base.specs.declared.NoMemory.{NoMemory}
use Rattle.history.specs.Writes.{Table}
use Rattle.history.specs.declared.key.Key.{Key}
use Rattle.std.specs.List.{flat_map, AllZip}
use mathlib.Core.Logic.{dite}
use native.Mathlib.Decide.{dec_le}
use Rattle.std.specs.FinMap.{entries}
use Rattle.std.proofs.lemmas.Bool.{true≢false}
use Rattle.std.proofs.lemmas.List.{get_or_past}
use Rattle.history.specs.Rows as rows
use Rattle.history.specs.Rows.{NamedRows}
use Rattle.history.specs.declared.transaction.Done.{Done}
use Rattle.history.specs.Legal.{records}
use Rattle.history.specs.declared.call.Reply.{Reply}
use Rattle.history.specs.declared.call.Reply.TheVariants.{Busy}
use Rattle.caller_steps.specs.Core.{CoreView}
use Rattle.caller_steps.specs.State.{commits_of}
use Rattle.caller_steps.specs.Run.{AreOf, turns_of}
use Rattle.caller_steps.specs.Step.{Runs}
use Rattle.caller_steps.proofs.Running.{turns_tell, none_beyond}
use Rattle.mars_manager.specs.Sharing.{CanShare}
use Rattle.mars_manager.proofs.Asking.{none_here}
use Rattle.caller_plans.specs.declared.plan.Plan.{Plan}
use Rattle.caller_plans.specs.declared.fate.Fate.{Fate}
use Rattle.caller_plans.specs.declared.fate.LineFault.{LineFault}
use Rattle.caller_plans.specs.Plans.{AllSay, after_call, planned, faults_from, plans_from}
use Rattle.caller_work.specs.declared.end.WorkEnd.{WorkEnd}
use Rattle.caller_work.specs.declared.end.WorkEnd.TheVariants as work
use Rattle.caller_work.specs.declared.tries.Tries.TheVariants.{Times}
use Rattle.caller_work.specs.Tries.{IsWork, IsWorkOf}
use Rattle.caller_work.specs.Asked.{AreOnTables}
use Rattle.caller_work.specs.Fated.{AreFated}
use Rattle.caller_work.proofs.Histories as histories
use Rattle.caller_work.specs.Worked.{Worked, is_fault, of_caller}
use Rattle.history_text.specs.Text.{done_lines, work_text}
use Rattle.script_run.specs.Lines.{lines_of}
use Rattle.texts.specs.MediaFault.{media_line}
use Rattle.script_text.specs.declared.joint_line.JointLine.{JointLine}
use Rattle.script_text.specs.declared.joint_line.JointLine.TheVariants.{Nothing, Told, Read, Bad}
use Rattle.caller_plans.specs.Asks.{keys_from}
use Rattle.history.specs.Answers.{AreAnswers, AllAnswer}
use Rattle.reader_work.specs.Readership.{passes_for}
use Rattle.history.specs.declared.answer.Answer.{Answer}
use Rattle.script_run.specs.declared.ended.Ended.{Ended}
use Rattle.script_run.specs.declared.ended.Ended.TheVariants as ends
use Rattle.caller_work.specs.declared.gate.Place.{Place}
use Rattle.caller_work.specs.Crew.{KnowsFirst}
use Rattle.mars_shell.specs.Joint.{JointWork}
use Rattle.mars_shell.specs.OnCore.{TurnsOn}
use Rattle.mars_shell.specs.Told.{TellsEnd, answers_in}

-- each caller has its plans
pub as_many : (caller callers : ℕ) (said : List JointLine) → length (plans_from caller callers said) ≡ callers
as_many caller zero said = refl
as_many caller (suc callers) said = ap suc (as_many (suc caller) callers said)

-- and each reader what it asks for
pub as_many_asks : (reader readers : ℕ) (said : List JointLine) → length (keys_from reader readers said) ≡ readers
as_many_asks reader zero said = refl
as_many_asks reader (suc readers) said = ap suc (as_many_asks (reader + 1) readers said)

-- there is an answer list for each reader
pub as_many_answers : (names : List (List ℕ)) (base : Table) (list : List Done) (asks : List (List Key)) (told : List (List Answer)) → AllAnswer names base list asks told → length told ≡ length asks
as_many_answers names base list [] [] all = refl
as_many_answers names base list [] (one ∷ told) all = absurd all
as_many_answers names base list (keys ∷ asks) [] all = absurd all
as_many_answers names base list (keys ∷ asks) (one ∷ told) all = ap suc (as_many_answers names base list asks told all.1)

-- so there are few, as there are few readers
pub few_answers : (answers : Result (Vec (List Answer)) NoMemory) (names : List (List ℕ)) (base : Table) (list : List Done) (asks : List (List Key)) → IfOk answers (λ told. AllAnswer names base list asks told.items) → length asks ≤ 255 → length (answers_in answers) ≤ 255
few_answers (Ok told) names base list asks all few = omega (arith, as_many_answers names base list asks told.items all, few)
few_answers (Err none) names base list asks all few = omega arith

-- the same answers for equal things
pub answered_in : (answers : Result (Vec (List Answer)) NoMemory) (names names' : List (List ℕ)) (base base' : Table) (list list' : List Done) (asks asks' : List (List Key)) → names ≡ names' → base ≡ base' → list ≡ list' → asks ≡ asks'
    → IfOk answers (λ told. AllAnswer names base list asks told.items) → IsOk answers → AllAnswer names' base' list' asks' (answers_in answers)
answered_in (Ok told) names names' base base' list list' asks asks' n b l a all ok = subst (λ (x : List (List ℕ) × Table × List Done × List (List Key)). AllAnswer x.0 x.1 x.2 x.3 told.items) (λ i. (n i, b i, l i, a i)) all
answered_in (Err none) names names' base base' list list' asks asks' n b l a all ok = absurd (cc ok)

-- what each reader was answered is for what it asked, one beside the other
zipped : (names : List (List ℕ)) (base : Table) (list : List Done) (asks : List (List Key)) (told : List (List Answer)) → AllAnswer names base list asks told → AllZip (AreAnswers names base list 0) asks told
zipped names base list [] [] all = tt
zipped names base list [] (one ∷ told) all = absurd all
zipped names base list (keys ∷ asks) [] all = absurd all
zipped names base list (keys ∷ asks) (one ∷ told) all = (all.0, zipped names base list asks told all.1)

-- the callers alone need no more passes
pub callers_within : (callers readers most : ℕ) → passes_for callers readers ≤ most → callers ≤ most
callers_within callers zero most within = within
callers_within callers (suc readers) most within = omega (arith, within)

-- and these are a caller's plans
pub plans_at : (first callers caller at : ℕ) (said : List JointLine) → caller < callers → first + caller ≡ at → of_caller (plans_from first callers said) caller ≡ planned at None said
plans_at first zero caller at said less is = absurd (omega arith)
plans_at first (suc callers) zero at said less is = ap (λ (n : ℕ). planned n None said) (let e : first ≡ at = omega arith in e)
plans_at first (suc callers) (suc caller) at said less is = plans_at (suc first) callers caller at said (omega arith) (omega arith)

-- and nobody else has any
plans_beyond : (callers readers caller : ℕ) → callers ≤ caller → (lines : List (List ℕ)) (said : List JointLine) → AllSay callers readers lines said → planned caller None said ≡ []
plans_beyond callers readers caller beyond [] [] all = refl
plans_beyond callers readers caller beyond [] (one ∷ said) all = absurd all
plans_beyond callers readers caller beyond (line ∷ lines) [] all = absurd all
plans_beyond callers readers caller beyond (line ∷ lines) (Nothing ∷ said) all = plans_beyond callers readers caller beyond lines said all.1
plans_beyond callers readers caller beyond (line ∷ lines) (Read reader key ∷ said) all = plans_beyond callers readers caller beyond lines said all.1
plans_beyond callers readers caller beyond (line ∷ lines) (Bad ∷ said) all = plans_beyond callers readers caller beyond lines said all.1
plans_beyond callers readers caller beyond (line ∷ lines) (Told other call ∷ said) all =
    ap (λ (b : Bool). if b then (after_call None call).2 ++ planned caller (after_call None call).1 said else planned caller None said) (ne_eqb other caller (λ e. let l = all.0.0 in omega arith))
    ∙ plans_beyond callers readers caller beyond lines said all.1

-- the same text for equal things
pub retold : (ended : Ended) (cut : Bool) (text : List ℕ) (faults faults' : List LineFault) (history history' : List Done) (base base' : List NamedRows) (fates fates' : List (List Fate)) (told : List (List Answer))
    → faults ≡ faults' → history ≡ history' → base ≡ base' → fates ≡ fates'
    → TellsEnd ended cut text (work_text faults history fates (entries (records (rows.table_of base) history)) told) (flat_map done_lines history ++ media_line)
    → TellsEnd ended cut text (work_text faults' history' fates' (entries (records (rows.table_of base') history')) told) (flat_map done_lines history' ++ media_line)
retold ended cut text faults faults' history history' base base' fates fates' told f h b t tells =
    subst (λ (lines : List ℕ). TellsEnd ended cut text (work_text faults' history' fates' (entries (records (rows.table_of base') history')) told) lines) (ap (λ (l : List Done). flat_map done_lines l ++ media_line) h)
    (subst (λ (whole : List ℕ). TellsEnd ended cut text whole (flat_map done_lines history ++ media_line)) (λ i. work_text (f i) (h i) (t i) (entries (records (rows.table_of (b i)) (h i))) told) tells)

module _ (tells : Bool) (core last : CoreView) (callers readers tries : ℕ) (input : List ℕ) (said : List JointLine) (says : AllSay callers readers (lines_of input) said)
    (plans : List (List Plan)) (plans_are : plans ≡ plans_from 0 callers said) (fates : List (List Fate)) (end : WorkEnd) (worked : Worked tells tries plans core last fates end) (ready : CanShare tells (passes_for callers readers) core) (told : List (List Answer)) (Knows : Place → Type 0) (known : KnowsFirst Knows plans) where
  counted : length plans ≡ callers
  counted = ap length plans_are ∙ as_many 0 callers said

  -- the core lives unless the medium failed
  no_fault : (end : WorkEnd) → end ≢ work.MediaFault → is_fault end ≡ false
  no_fault work.MediaFault unfailed = absurd (unfailed refl)
  no_fault work.All unfailed = refl
  no_fault work.NoMemory unfailed = refl

  runs : IsTrue tells → Runs core.limits core.state worked.turns last.state
  runs told = turns_tell tells core.limits core.state last.state worked.turns told worked.run

  fault_of : (end : WorkEnd) → is_fault end ≡ true → end ≡ work.MediaFault
  fault_of work.MediaFault is = refl
  fault_of work.All is = absurd (true≢false (sym is))
  fault_of work.NoMemory is = absurd (true≢false (sym is))

  within : (caller : ℕ) → caller < callers → caller < length plans
  within caller less = omega (arith, less, counted)

  abbrev his : ℕ → List Plan
  his caller = planned caller None said

  planned_at : (caller : ℕ) → caller < callers → of_caller plans caller ≡ his caller
  planned_at caller less = ap (λ (all : List (List Plan)). of_caller all caller) plans_are ∙ plans_at 0 callers caller caller said less (omega arith)

  its : (caller : ℕ) → caller < callers → IsWorkOf (Times tries) (his caller) (turns_of caller worked.turns) (of_caller fates caller) (get_or worked.stopped caller None)
  its caller less =
      let w = worked.works caller (within caller less) in
      (w.0, w.1, subst (λ (ps : List Plan). IsWork (Times tries) ps (worked.works caller (within caller less)).0 (of_caller fates caller) (get_or worked.stopped caller None)) (planned_at caller less) w.2)

  tables : (caller : ℕ) (less : caller < callers) → AreOnTables (its caller less).0
  unfolding its
  tables caller less call holder there = let made = worked.causes caller (within caller less) call holder there in (made.0, made.1)

  -- what a caller has in the history and in doubt is what its fates say of these plans
  abbrev Fates : ℕ → List Plan → List Fate → Type 0
  Fates caller plans fates = AreFated (turns_of caller worked.turns) plans fates (commits_of caller last.state.history) (commits_of caller last.state.doubt)

  fated_as : IsTrue tells → (caller : ℕ) (plans : List Plan) (fates : List Fate) (stopped : Option Reply) (work : IsWorkOf (Times tries) plans (turns_of caller worked.turns) fates stopped) → AreOnTables work.0 → Fates caller plans fates
  fated_as told caller plans fates stopped work on = histories.fated core.limits caller core.state last.state worked.turns (runs told) (ready.live caller) (ready.offers caller) (ap (commits_of caller) ready.history)
      ((ready.sound told).certain ready.alive) (Times tries) plans fates stopped work on

  module _ (caller : ℕ) (beyond : callers ≤ caller) where
    no_plans : his caller ≡ []
    no_plans = plans_beyond callers readers caller beyond (lines_of input) said says

    no_fates : of_caller fates caller ≡ []
    no_fates = get_or_past fates caller [] (omega (arith, worked.each, counted, beyond))

    no_turns : turns_of caller worked.turns ≡ []
    no_turns = none_beyond (length plans) caller worked.turns worked.whose (omega (arith, counted, beyond))

    fated_beyond : IsTrue tells → Fates caller (his caller) (of_caller fates caller)
    fated_beyond told = subst (λ (x : List Plan × List Fate). Fates caller x.0 x.1) (λ i. (sym no_plans i, sym no_fates i))
        (fated_as told caller [] [] None ([], no_turns, inl (refl, refl)) (λ call holder there. none_here (call, Busy holder) there))

  fated : IsTrue tells → (caller : ℕ) → Fates caller (his caller) (of_caller fates caller)
  fated told caller = dite (dec_le callers caller)
      (λ (beyond : callers ≤ caller). fated_beyond caller beyond told)
      (λ (among : ¬ (callers ≤ caller)). let less : caller < callers = omega arith in fated_as told caller (his caller) (of_caller fates caller) (get_or worked.stopped caller None) (its caller less) (tables caller less))

  whole_of : end ≡ work.All → (caller : ℕ) → length (of_caller fates caller) ≡ length (his caller)
  whole_of all caller = dite (dec_le callers caller)
      (λ (beyond : callers ≤ caller). ap (λ (l : List Fate). length l) (no_fates caller beyond) ∙ sym (ap (λ (l : List Plan). length l) (no_plans caller beyond)))
      (λ (among : ¬ (callers ≤ caller)).
      let less : caller < callers = omega arith in
      let w = its caller less in
      histories.whole (Times tries) (his caller) w.0 (of_caller fates caller) (subst (λ (s : Option Reply). IsWork (Times tries) (his caller) w.0 (of_caller fates caller) s) (worked.whole all caller (within caller less)) w.2))

  joint_work : IsTrue tells → (ended : Ended) (cut : Bool) (text : List ℕ) → (ended ≢ ends.MediaFault → ended ≢ ends.NoMemory → end ≡ work.All) → (ended ≡ ends.MediaFault) ↔ (end ≡ work.MediaFault)
      → (ended ≢ ends.MediaFault → ended ≢ ends.NoMemory → AllAnswer last.state.names last.state.base last.state.history (keys_from 0 readers said) told)
      → TellsEnd ended cut text (work_text (faults_from 1 (λ caller. None) said) last.state.history fates (entries (records last.state.base last.state.history)) told) (flat_map done_lines last.state.history ++ media_line)
      → JointWork Knows callers readers input ended cut text core.limits worked.turns last.state
  joint_work tells_all ended cut text whole fault answered tells_work = record {
    enough = ready.enough;
    said = said;
    says = says;
    whose = subst (λ (n : ℕ). AreOf n worked.turns) counted worked.whose;
    fates = fates;
    each = worked.each ∙ counted;
    fated = fated tells_all;
    whole = λ unfailed remembered. whole_of (whole unfailed remembered);
    known = λ caller less plans_one. known caller (within caller less) (subst (λ (ps : List Plan). 0 < length ps) (sym (planned_at caller less)) plans_one);
    fault = (λ is. worked.dead ∙ ap is_fault (fault.0 is), λ has. fault.1 (fault_of end (sym worked.dead ∙ has)));
    told = told;
    answered = λ unfailed remembered. zipped last.state.names last.state.base last.state.history (keys_from 0 readers said) told (answered unfailed remembered);
    tells = tells_work;
  }

  pub joint_turns : IsTrue tells → (ended : Ended) (cut : Bool) (text : List ℕ) → (ended ≢ ends.MediaFault → ended ≢ ends.NoMemory → end ≡ work.All) → (ended ≡ ends.MediaFault) ↔ (end ≡ work.MediaFault)
      → (ended ≢ ends.MediaFault → ended ≢ ends.NoMemory → AllAnswer last.state.names last.state.base last.state.history (keys_from 0 readers said) told)
      → TellsEnd ended cut text (work_text (faults_from 1 (λ caller. None) said) last.state.history fates (entries (records last.state.base last.state.history)) told) (flat_map done_lines last.state.history ++ media_line)
      → TurnsOn (JointWork Knows callers readers input ended cut text) core ended last
  joint_turns tells_all ended cut text whole fault answered tells_work = record {
    turns = worked.turns;
    runs = runs tells_all;
    does = joint_work tells_all ended cut text whole fault answered tells_work;
    continues = worked.since.continues tells_all;
    alive = λ unfailed. worked.dead ∙ no_fault end (λ is. unfailed (fault.1 is));
  }
