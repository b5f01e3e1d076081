-- Behind a drawn script no caller has a transaction.
use Rattle.std.proofs.Common.{◌≡◌, ◌≢◌, ◌⊎◌, inl, inr, ℕ, zero, suc, Bool, true, false, cond, List, [], ◌∷◌, ◌++◌, map, refl, sym, ap, subst, ◌∙◌}
use Rattle.std.specs.Prelude.{IsTrue, IsFalse, ◌||◌, ◌/◌, ◌%◌, nat_eq, nat_le, if◌then◌else◌, Option, Some, None}
use Rattle.std.specs.List.{All}
use Rattle.std.specs.Map.{update}
use Rattle.std.proofs.lemmas.Bool.{false≢true, cases_eq, eq-eqb, ne_eqb, cases_Bool}
use Rattle.std.proofs.lemmas.Map.{update_here, update_apart}
use Rattle.std.proofs.lemmas.List.Elements.{All-head, All-tail}
use Rattle.history.specs.Table.{Granted}
use Rattle.history.specs.declared.call.Call.{Call}
use Rattle.history.specs.declared.call.Call.TheVariants.{Begin, Table, Control}
use Rattle.history.specs.declared.call.Control.TheVariants.{Commit, Abort, Offer, Settle, Purge}
use Rattle.history.specs.declared.call.Reply.{Reply}
use Rattle.history.specs.declared.call.Reply.TheVariants as told
use Rattle.caller_steps.specs.State as state
use Rattle.caller_steps.specs.State.{State, unoffered}
use Rattle.caller_steps.specs.Room.{Limits}
use Rattle.caller_steps.specs.Run.{Turn}
use Rattle.caller_steps.specs.Step.{StepOf, Step, Runs}
use Rattle.caller_steps.specs.Fate.{is_refusal, is_media, Stays, EndsWith, Moves}
use Rattle.caller_steps.proofs.Fates.{step_moves}
use Rattle.drill_gen.specs.Draws.{drawn_on}
use Rattle.drill_gen.specs.Drill.{drawn_from, alone, paired, in_turn, drill}
use Rattle.drill_gen.specs.declared.transaction.Transaction.{Transaction}
use Rattle.mars_shell.specs.Lines.{goes_on}
use Rattle.mars_shell.specs.Made.{without_reply, GoOn}
use Rattle.mars_shell.proofs.Making.{no_fault}

-- no caller has offered anything
abbrev pub AllUnoffered : State → Type 0
AllUnoffered s = (c : ℕ) → s.offers c ≡ unoffered

-- calls such as those of a drawn script: none offers, settles or purges
abbrev is_drawn : Call → Bool
is_drawn Begin = true
is_drawn (Table call) = true
is_drawn (Control Commit) = true
is_drawn (Control Abort) = true
is_drawn (Control control) = false

abbrev ends : Call → Bool
ends (Control Commit) = true
ends (Control Abort) = true
ends call = false

abbrev pub AreDrawn : List (ℕ × Call) → Type 0
AreDrawn [] = Unit {0}
AreDrawn (turn ∷ turns) = IsTrue (is_drawn turn.1) × AreDrawn turns

-- whether a caller has no transaction behind these calls
abbrev pub rests : ℕ → Bool → List (ℕ × Call) → Bool
rests c idle [] = idle
rests c idle (turn ∷ turns) = rests c (if nat_eq turn.0 c then ends turn.1 else idle) turns

-- ---- one step

module _ (limits : Limits) (old : State) (t : ℕ) (call : Call) (reply : Reply) (new : State) (goes : IsTrue (goes_on reply)) (free : AllUnoffered old) (alive : old.is_dead ≡ false) (step : Step limits old t call reply new) where
  moves : Moves limits.callers old t call reply new
  moves = step_moves limits old t call reply new step

  acts : StepOf limits false unoffered (old.live t) old t call reply new
  acts = subst (λ (x : Bool × state.Offer). StepOf limits x.0 x.1 (old.live t) old t call reply new) (λ i. (alive i, free t i)) step.acts

  -- a transaction ends at a commit or an abort
  ended : (o : Option Granted) → old.live t ≡ o → (what : Call) → IsTrue (ends what) → StepOf limits false unoffered o old t what reply new → new.live t ≡ None
  ended None none (Control Commit) is says = ap (λ (s : State). s.live t) says.1 ∙ none
  ended None none (Control Abort) is says = ap (λ (s : State). s.live t) says.1 ∙ none
  ended (Some calls) some (Control Commit) is (inl says) = absurd (false≢true (ap goes_on (sym says.0) ∙ goes))
  ended (Some calls) some (Control Commit) is (inr (inl commits)) = ap (λ (s : State). s.live t) commits.3 ∙ update_here old.live t None
  ended (Some calls) some (Control Commit) is (inr (inr doubts)) = absurd (false≢true (ap goes_on (sym doubts.1) ∙ goes))
  ended (Some calls) some (Control Abort) is done = ap (λ (s : State). s.live t) done.1 ∙ update_here old.live t None
  ended o is-live Begin is says = absurd (false≢true is)
  ended o is-live (Table call) is says = absurd (false≢true is)
  ended o is-live (Control Offer) is says = absurd (false≢true is)
  ended o is-live (Control Settle) is says = absurd (false≢true is)
  ended o is-live (Control Purge) is says = absurd (false≢true is)

  pub ended_now : IsTrue (ends call) → new.live t ≡ None
  ended_now is = ended (old.live t) refl call is acts

  unsettled : (what : Call) → IsTrue (is_drawn what) → what ≡ Control Settle → ⊥
  unsettled what drawn same = false≢true (ap is_drawn (sym same) ∙ drawn)

  pub others_stay : IsTrue (is_drawn call) → (other : ℕ) → other ≢ t → Stays old new other
  others_stay drawn other apart = elim (moves.others other apart) [
    | inl stays ↦ stays
    | inr ends_with ↦ absurd (unsettled call drawn ends_with.settles)
  ]

  own_offer : (what : Call) → IsTrue (is_drawn what) → (b : Bool) → is_refusal reply ≡ b → Moves limits.callers old t what reply new → new.offers t ≡ unoffered
  own_offer what drawn true is m = ap (λ (f : ℕ → state.Offer). f t) (m.refused is (no_fault reply goes)).1 ∙ free t
  own_offer Begin drawn false is m = (m.own is).1
  own_offer (Table call) drawn false is m = (m.own is).1
  own_offer (Control Commit) drawn false is m = (m.own is).1
  own_offer (Control Abort) drawn false is m = (m.own is).1
  own_offer (Control Offer) drawn false is m = absurd (false≢true drawn)
  own_offer (Control Settle) drawn false is m = absurd (false≢true drawn)
  own_offer (Control Purge) drawn false is m = absurd (false≢true drawn)

  pub still_free : IsTrue (is_drawn call) → AllUnoffered new
  still_free drawn c = elim (cases_eq c t) [
    | inl same ↦ subst (λ (n : ℕ). new.offers n ≡ unoffered) (sym same) (own_offer call drawn (is_refusal reply) refl moves)
    | inr apart ↦ (others_stay drawn c apart).offer ∙ free c
  ]

  pub lives_on : new.is_dead ≡ false
  lives_on = moves.dead ∙ ap (λ (b : Bool). b || is_media reply) alive ∙ no_fault reply goes

-- ---- the turns of a drawn script

pub turns_free : (limits : Limits) (old : State) (turns : List Turn) (new : State) → Runs limits old turns new → GoOn turns → AreDrawn (map without_reply turns) → AllUnoffered old → old.is_dead ≡ false → AllUnoffered new
turns_free limits old [] new runs goes drawn free alive = subst AllUnoffered (sym runs) free
turns_free limits old (turn ∷ turns) new runs goes drawn free alive =
    let here = All-head (λ (t : Turn). IsTrue (goes_on t.2)) turn turns goes in
    turns_free limits runs.0 turns new runs.2 (All-tail (λ (t : Turn). IsTrue (goes_on t.2)) turn turns goes) drawn.1 (still_free limits old turn.0 turn.1 turn.2 runs.0 here free alive runs.1 drawn.0) (lives_on limits old turn.0 turn.1 turn.2 runs.0 here free alive runs.1)

pub turns_rest : (c : ℕ) (limits : Limits) (old : State) (turns : List Turn) (new : State) (idle : Bool) → Runs limits old turns new → GoOn turns → AreDrawn (map without_reply turns) → AllUnoffered old → old.is_dead ≡ false
    → (idle ≡ true → old.live c ≡ None) → rests c idle (map without_reply turns) ≡ true → new.live c ≡ None
turns_rest c limits old [] new idle runs goes drawn free alive none is = ap (λ (s : State). s.live c) runs ∙ none is
turns_rest c limits old (turn ∷ turns) new idle runs goes drawn free alive none is =
    let here = All-head (λ (t : Turn). IsTrue (goes_on t.2)) turn turns goes in
    turns_rest c limits runs.0 turns new (if nat_eq turn.0 c then ends turn.1 else idle) runs.2 (All-tail (λ (t : Turn). IsTrue (goes_on t.2)) turn turns goes) drawn.1
    (still_free limits old turn.0 turn.1 turn.2 runs.0 here free alive runs.1 drawn.0) (lives_on limits old turn.0 turn.1 turn.2 runs.0 here free alive runs.1)
    (elim (cases_eq turn.0 c) [
      | inl same ↦ λ ended. subst (λ (n : ℕ). runs.0.live n ≡ None) same (ended_now limits old turn.0 turn.1 turn.2 runs.0 here free alive runs.1 (sym (ap (λ (b : Bool). cond b (ends turn.1) idle) (eq-eqb turn.0 c same)) ∙ ended))
      | inr apart ↦ λ was. (others_stay limits old turn.0 turn.1 turn.2 runs.0 here free alive runs.1 drawn.0 c (λ e. apart (sym e))).live ∙ none (sym (ap (λ (b : Bool). cond b (ends turn.1) idle) (ne_eqb turn.0 c apart)) ∙ was)
    ])
    is

-- ---- the script

rests-append : (c : ℕ) (idle : Bool) (xs ys : List (ℕ × Call)) → rests c idle (xs ++ ys) ≡ rests c (rests c idle xs) ys
rests-append c idle [] ys = refl
rests-append c idle (turn ∷ xs) ys = rests-append c (if nat_eq turn.0 c then ends turn.1 else idle) xs ys

drawn-append : (xs ys : List (ℕ × Call)) → AreDrawn xs → AreDrawn ys → AreDrawn (xs ++ ys)
drawn-append [] ys one other = other
drawn-append (turn ∷ xs) ys one other = (one.0, drawn-append xs ys one.1 other)

-- an end is an abort or a commit
end_ends : (b : Bool) → ends (Control (if b then Abort else Commit)) ≡ true
end_ends true = refl
end_ends false = refl

end_drawn : (b : Bool) → is_drawn (Control (if b then Abort else Commit)) ≡ true
end_drawn true = refl
end_drawn false = refl

last_ends : (x : ℕ) → ends (Control (drawn_from x).end) ≡ true
last_ends x = end_ends (nat_eq (drawn_on x 5 / 65536 % 8) 0)

last_drawn : (x : ℕ) → is_drawn (Control (drawn_from x).end) ≡ true
last_drawn x = end_drawn (nat_eq (drawn_on x 5 / 65536 % 8) 0)

-- by whether the caller is the one, and, of two, whether it is the other
alone_by : (one : Bool) (e f g h : Bool) → e ≡ true → (if one then e else (if one then f else (if one then g else (if one then h else true)))) ≡ true
alone_by true e f g h is = is
alone_by false e f g h is = refl

paired_by : (one other : Bool) (e f g h i j k l : Bool) → e ≡ true → f ≡ true
    → (if other then e else (if one then f else (if other then g else (if one then h else (if other then i else (if one then j else (if other then k else (if one then l else true)))))))) ≡ true
paired_by one true e f g h i j k l is also = is
paired_by true false e f g h i j k l is also = also
paired_by false false e f g h i j k l is also = refl

alone_rests : (c x : ℕ) → rests c true (alone (drawn_from x)) ≡ true
alone_rests c x = alone_by (nat_eq 0 c) (ends (Control (drawn_from x).end)) (ends (Table (drawn_from x).second)) (ends (Table (drawn_from x).first)) (ends Begin) (last_ends x)

paired_rests : (c x y : ℕ) → rests c true (paired (drawn_from x) (drawn_from y)) ≡ true
paired_rests c x y = paired_by (nat_eq 0 c) (nat_eq 1 c) (ends (Control (drawn_from y).end)) (ends (Control (drawn_from x).end)) (ends (Table (drawn_from y).second)) (ends (Table (drawn_from x).second)) (ends (Table (drawn_from y).first)) (ends (Table (drawn_from x).first))
    (ends Begin) (ends Begin) (last_ends y) (last_ends x)

in_turn_rests : (c : ℕ) (pairs : Bool) (x count : ℕ) → rests c true (in_turn pairs x count) ≡ true
in_turn_rests c pairs x zero = refl
in_turn_rests c true x (suc zero) = rests-append c true (alone (drawn_from x)) [] ∙ alone_rests c x
in_turn_rests c true x (suc (suc count)) = rests-append c true (paired (drawn_from x) (drawn_from (drawn_on x 5))) (in_turn true (drawn_on x 10) count)
    ∙ ap (λ (b : Bool). rests c b (in_turn true (drawn_on x 10) count)) (paired_rests c x (drawn_on x 5)) ∙ in_turn_rests c true (drawn_on x 10) count
in_turn_rests c false x (suc count) = rests-append c true (alone (drawn_from x)) (in_turn false (drawn_on x 5) count)
    ∙ ap (λ (b : Bool). rests c b (in_turn false (drawn_on x 5) count)) (alone_rests c x) ∙ in_turn_rests c false (drawn_on x 5) count

in_turn_drawn : (pairs : Bool) (x count : ℕ) → AreDrawn (in_turn pairs x count)
in_turn_drawn pairs x zero = tt
in_turn_drawn true x (suc zero) = (refl, (refl, (refl, (last_drawn x, tt))))
in_turn_drawn true x (suc (suc count)) = (refl, (refl, (refl, (refl, (refl, (refl, (last_drawn x, (last_drawn (drawn_on x 5), in_turn_drawn true (drawn_on x 10) count))))))))
in_turn_drawn false x (suc count) = (refl, (refl, (refl, (last_drawn x, in_turn_drawn false (drawn_on x 5) count))))

pub drill_rests : (c seed count callers : ℕ) → rests c true (drill seed count callers) ≡ true
drill_rests c seed count callers = in_turn_rests c (nat_le 2 callers) seed count

pub drill_drawn : (seed count callers : ℕ) → AreDrawn (drill seed count callers)
drill_drawn seed count callers = in_turn_drawn (nat_le 2 callers) seed count

-- and so nobody is live behind all of them
module _ (limits : Limits) (old : State) (turns : List Turn) (new : State) (seed count callers : ℕ) (runs : Runs limits old turns new) (goes : GoOn turns) (whole : map without_reply turns ≡ drill seed count callers)
    (alive : old.is_dead ≡ false) (none : (c : ℕ) → old.live c ≡ None) (free : AllUnoffered old) where
  drawn : AreDrawn (map without_reply turns)
  drawn = subst AreDrawn (sym whole) (drill_drawn seed count callers)

  pub all_free : AllUnoffered new
  all_free = turns_free limits old turns new runs goes drawn free alive

  pub all_rest : (c : ℕ) → new.live c ≡ None
  all_rest c = turns_rest c limits old turns new true runs goes drawn free alive (λ _. none c) (ap (rests c true) whole ∙ drill_rests c seed count callers)
