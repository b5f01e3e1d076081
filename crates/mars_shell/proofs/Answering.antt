-- What comes of one line, given what comes of its call.
use Rattle.std.proofs.Common.{◌≡◌, ℕ, Bool, true, List, [], ◌∷◌, ◌++◌, Result, Ok, Err, inl, inr, refl, sym, ap, subst, ◌∙◌}
use Rattle.std.specs.Prelude.{IsTrue}
use Rattle.std.proofs.lemmas.List.{append-nil}
use Rattle.history.specs.declared.call.Call.{Call}
use Rattle.history.specs.declared.call.Reply.{Reply}
use Rattle.history.specs.declared.call.Reply.TheVariants as said
use Rattle.caller_steps.specs.Core.{CoreView, Steps, Continues}
use Rattle.caller_steps.specs.Room.{Limits}
use Rattle.caller_steps.specs.Run.{Turn}
use Rattle.caller_steps.specs.State.{State}
use Rattle.caller_steps.specs.Step.{Runs}
use Rattle.caller_steps.proofs.Continuing.{continues_none, continues_step}
use Rattle.caller_steps.proofs.Running.{turns_on, turns_tell, turns_of_runs}
use Rattle.script_text.specs.Line.{LineSays}
use Rattle.script_text.specs.Replies.{reply_line, bad_line}
use Rattle.script_text.specs.declared.line.Line.{Line}
use Rattle.script_text.specs.declared.line.Line.TheVariants.{Nothing, Told, Bad}
use Rattle.script_run.specs.Answers.{Answers}
use Rattle.script_run.specs.declared.responder.Stop.{Stop}
use Rattle.script_run.specs.declared.responder.Stop.TheVariants.{Media, NoMemory}
use Rattle.mars_shell.specs.Lines.{Replied}
use Rattle.mars_shell.specs.Tally.{Goes}
use Rattle.mars_shell.specs.Standing.{Progress, callers_of, line_script, IsReady, Stands, Comes}

-- what a responder answers
abbrev pub Answer : Type 0
Answer = Result (Unit {0}) Stop

-- a reply that ends the script is told as such
pub stopped : (caller : ℕ) (reply : Reply) (text : List ℕ) (fault : Stop) → (let r : Answer = Err fault in Goes caller reply r) → (let r : Answer = Err fault in Replied caller reply text text r)
stopped caller reply text (Media number) ends = ends
stopped caller reply text NoMemory ends = inl ends

module _ (core : CoreView) (callers n : ℕ) (line : List ℕ) (progress : Progress) (ready : IsReady callers core) (stands : Stands core progress) where
  says_here : (what : Line) → LineSays callers line what → LineSays (callers_of progress) line what
  says_here what says = subst (λ (k : ℕ). LineSays k line what) (ready.callers_are ∙ sym (ap (λ (l : Limits). l.callers) stands.limits_are)) says

  no_turn : Comes core progress core progress
  no_turn = record { more = []; turns_are = sym (append-nil progress.turns); runs = refl; continues = continues_none core stands.sound stands.safe }

  -- a line that is passed over, and one that is refused
  pub passed_over : (text : List ℕ) → text ≡ [] → LineSays callers line Nothing → Answers line_script (Stands core) (Comes core progress core) progress n line text (let r : Answer = Ok tt in r)
  passed_over text is says = (progress, (refl, inl (says_here Nothing says, is, refl)), stands, no_turn)

  pub refused : (text : List ℕ) → text ≡ bad_line n → LineSays callers line Bad → Answers line_script (Stands core) (Comes core progress core) progress n line text (let r : Answer = Ok tt in r)
  refused text is says = (progress, (refl, inr (inl (says_here Bad says, is, refl))), stands, no_turn)

  pub refused_short : (text : List ℕ) → LineSays callers line Bad → Answers line_script (Stands core) (Comes core progress core) progress n line text (let r : Answer = Err NoMemory in r)
  refused_short text says = (progress, (refl, inr (bad_line n, inr (inl (says_here Bad says, refl, refl)))), no_turn)

  module _ (tells : Bool) (told : IsTrue tells) (later : CoreView) (caller : ℕ) (call : Call) (reply : Reply) (says : LineSays callers line (Told caller call)) (steps : Steps tells caller call core later reply) where
    abbrev after : Progress
    after = record { start = progress.start; turns = progress.turns ++ (caller, call, reply) ∷ []; state = later.state }

    on : Continues core later
    on = continues_step tells caller call core later reply stands.sound steps told

    come : Comes core progress later after
    come = record { more = (caller, call, reply) ∷ []; turns_are = refl; runs = (later.state, steps.step told, refl); continues = on }

    -- the turns with this one
    led : Runs progress.start.limits progress.start.state (progress.turns ++ (caller, call, reply) ∷ []) later.state
    led =
        let limits = progress.start.limits in
        let one : Runs limits progress.state ((caller, call, reply) ∷ []) later.state =
        subst (λ (l : Limits). Runs l progress.state ((caller, call, reply) ∷ []) later.state) (sym stands.limits_are)
        (subst (λ (s : State). Runs core.limits s ((caller, call, reply) ∷ []) later.state) (sym stands.state_is) (later.state, steps.step told, refl)) in
        turns_tell true limits progress.start.state later.state (progress.turns ++ (caller, call, reply) ∷ []) refl (turns_on true limits progress.start.state progress.state later.state progress.turns ((caller, call, reply) ∷ [])
        (turns_of_runs limits progress.start.state progress.state progress.turns stands.runs) (turns_of_runs limits progress.state later.state ((caller, call, reply) ∷ []) one))

    stand : Stands later after
    stand = record { limits_are = stands.limits_are ∙ sym steps.limits; state_is = refl; runs = led; sound = on.sound; safe = on.now }

    -- a turn that is told with another caller or reply
    as_told : (c : ℕ) (r : Reply) → c ≡ caller → reply ≡ r → progress.turns ++ (caller, call, reply) ∷ [] ≡ progress.turns ++ (c, call, r) ∷ []
    as_told c r same is = ap (λ (turn : Turn). progress.turns ++ turn ∷ []) (λ i. (sym same i, call, is i))

    -- a call of a caller, whose reply was written or not
    pub called : (before text : List ℕ) (result : Answer) → before ≡ [] → Replied caller reply before text result → Answers line_script (Stands later) (Comes core progress later) progress n line text result
    called before text (Ok x) none replied =
        (after, (refl, inr (inr (caller, reply, (call, says_here (Told caller call) says, refl), replied.0, replied.1 ∙ ap (λ (front : List ℕ). front ++ reply_line caller reply) none))), stand, come)
    called before text (Err (Media number)) none replied =
        (after, (refl, (call, subst (λ (c : ℕ). LineSays (callers_of progress) line (Told c call)) (sym replied.0) (says_here (Told caller call) says), as_told number said.Media replied.0 replied.1)), come)
    called before text (Err NoMemory) none (inl short) = (after, (refl, inl (caller, (call, says_here (Told caller call) says, as_told caller said.NoMemory refl short))), come)
    called before text (Err NoMemory) none (inr goes) = (after, (refl, inr (reply_line caller reply, inr (inr (caller, reply, (call, says_here (Told caller call) says, refl), goes, refl)))), come)
