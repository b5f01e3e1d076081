-- Runs of a core: one after another, and what they leave of the callers that they do not name.
use Rattle.std.proofs.Common.{◌≡◌, ◌≢◌, ◌||◌, ◌⊎◌, inl, inr, ℕ, ◌≤◌, Bool, true, false, List, [], ◌∷◌, ◌++◌, length, map, refl, sym, ap, ◌∙◌, subst, arith, eq-eqb, ne_eqb, append_assoc}
use Rattle.std.specs.Prelude.{nat_eq, IsTrue, filter, cond}
use Rattle.std.proofs.lemmas.Bool.{true≢false, eqb-false}
use Rattle.std.proofs.lemmas.List.{append-nil, map-append}
use Rattle.std.proofs.lemmas.List.Elements.{filter-append}
use Rattle.history.specs.declared.call.Call.{Call}
use Rattle.history.specs.declared.call.Reply.{Reply}
use Rattle.history.specs.declared.call.Reply.TheVariants.{Dead}
use Rattle.history.specs.declared.transaction.Done.{Done}
use Rattle.caller_steps.specs.State.{State, commits_of}
use Rattle.caller_steps.specs.Offers.{is_offered}
use Rattle.caller_steps.specs.Room.{Limits}
use Rattle.caller_steps.specs.Step.{Step, StepOf, Runs}
use Rattle.caller_steps.specs.Fate.{is_media, Stays, EndsWith}
use Rattle.caller_steps.specs.Prefix.{Grows}
use Rattle.caller_steps.specs.Run.{Turn, Heard, Goes, GoesAlong, AreOf, turns_of, has_fault, HasNoOthers, LastTurn}
use Rattle.caller_steps.proofs.Fates.{step_moves}
use Rattle.caller_steps.proofs.Continuing.{grows_none, grows_on, after_grows}

-- The turns of a caller are those of the front and then those of the rest.
pub lines_append : (caller : ℕ) (xs ys : List Turn) → turns_of caller (xs ++ ys) ≡ turns_of caller xs ++ turns_of caller ys
lines_append caller xs ys =
    ap (λ (l : List Turn). map (λ (turn : Turn). (turn.1, turn.2)) l) (filter-append (λ (turn : Turn). nat_eq turn.0 caller) xs ys)
    ∙ map-append (λ (turn : Turn). (turn.1, turn.2)) (filter (λ (turn : Turn). nat_eq turn.0 caller) xs) (filter (λ (turn : Turn). nat_eq turn.0 caller) ys)

-- A turn is its caller's
pub line_here : (caller : ℕ) (call : Call) (reply : Reply) (turns : List Turn) → turns_of caller ((caller, call, reply) ∷ turns) ≡ (call, reply) ∷ turns_of caller turns
line_here caller call reply turns =
    ap (λ b. map (λ (turn : Turn). (turn.1, turn.2)) (cond b ((caller, call, reply) ∷ filter (λ (turn : Turn). nat_eq turn.0 caller) turns) (filter (λ (turn : Turn). nat_eq turn.0 caller) turns))) (eq-eqb caller caller refl)

-- and no other's.
pub line_apart : (caller : ℕ) (turn : Turn) (turns : List Turn) → turn.0 ≢ caller → turns_of caller (turn ∷ turns) ≡ turns_of caller turns
line_apart caller turn turns apart =
    ap (λ b. map (λ (turn : Turn). (turn.1, turn.2)) (cond b (turn ∷ filter (λ (turn : Turn). nat_eq turn.0 caller) turns) (filter (λ (turn : Turn). nat_eq turn.0 caller) turns))) (ne_eqb turn.0 caller apart)

pub last_here : (caller : ℕ) (call : Call) (reply : Reply) (turns : List Turn) → turns_of caller (turns ++ (caller, call, reply) ∷ []) ≡ turns_of caller turns ++ (call, reply) ∷ []
last_here caller call reply turns = lines_append caller turns ((caller, call, reply) ∷ []) ∙ ap (λ (l : Heard). turns_of caller turns ++ l) (line_here caller call reply [])

pub last_apart : (caller : ℕ) (turn : Turn) (turns : List Turn) → turn.0 ≢ caller → turns_of caller (turns ++ turn ∷ []) ≡ turns_of caller turns
last_apart caller turn turns apart = lines_append caller turns (turn ∷ []) ∙ ap (λ (l : Heard). turns_of caller turns ++ l) (line_apart caller turn [] apart) ∙ append-nil (turns_of caller turns)

-- if the turns begin with one of a caller, that caller has one
pub none_first : (caller : ℕ) (turn : Turn) (turns : List Turn) → turns_of caller (turn ∷ turns) ≡ [] → (turn.0 ≢ caller) × (turns_of caller turns ≡ [])
none_first caller turn turns none = go (nat_eq turn.0 caller) refl
  where
    go : (b : Bool) → nat_eq turn.0 caller ≡ b → (turn.0 ≢ caller) × (turns_of caller turns ≡ [])
    go true is = absurd (let e : (turn.1, turn.2) ∷ turns_of caller turns ≡ [] = sym (ap (λ b. map (λ (turn : Turn). (turn.1, turn.2)) (cond b (turn ∷ filter (λ (turn : Turn). nat_eq turn.0 caller) turns) (filter (λ (turn : Turn). nat_eq turn.0 caller) turns))) is) ∙ none in let l = ap length e in omega arith)
    go false is = (eqb-false turn.0 caller is, sym (line_apart caller turn turns (eqb-false turn.0 caller is)) ∙ none)

pub all_of_append : (callers : ℕ) (xs ys : List Turn) → AreOf callers xs → AreOf callers ys → AreOf callers (xs ++ ys)
all_of_append callers [] ys a b = b
all_of_append callers (x ∷ xs) ys a b = (a.0, all_of_append callers xs ys a.1 b)

-- A caller beyond all of these has no turn.
pub none_beyond : (callers caller : ℕ) (turns : List Turn) → AreOf callers turns → callers ≤ caller → turns_of caller turns ≡ []
none_beyond callers caller [] all le = refl
none_beyond callers caller (turn ∷ turns) all le = line_apart caller turn turns (λ e. let l = all.0 in omega arith) ∙ none_beyond callers caller turns all.1 le

module _ (tells : Bool) (limits : Limits) where
  -- One run after another is a run,
  pub turns_on : (first mid now : State) (xs ys : List Turn) → GoesAlong tells limits first xs mid → GoesAlong tells limits mid ys now → GoesAlong tells limits first (xs ++ ys) now
  turns_on first mid now [] ys a b = subst (λ s. GoesAlong tells limits s ys now) a b
  turns_on first mid now (x ∷ xs) ys a b = (a.0, a.1, turns_on a.0 mid now xs ys a.2 b)

  -- and a run can be cut at any turn.
  pub turns_cut : (first now : State) (xs ys : List Turn) → GoesAlong tells limits first (xs ++ ys) now → (mid : State) × GoesAlong tells limits first xs mid × GoesAlong tells limits mid ys now
  turns_cut first now [] ys a = (first, refl, a)
  turns_cut first now (x ∷ xs) ys a = let c = turns_cut a.0 now xs ys a.2 in (c.0, (a.0, a.1, c.1), c.2)

  pub turns_one : (first old new : State) (turns : List Turn) (caller : ℕ) (call : Call) (reply : Reply) → GoesAlong tells limits first turns old → Goes tells limits old caller call reply new → GoesAlong tells limits first (turns ++ (caller, call, reply) ∷ []) new
  turns_one first old new turns caller call reply a goes = turns_on first old new turns ((caller, call, reply) ∷ []) a (new, goes, refl)

  -- What holds at the beginning, and after each turn if it held before, holds at the end.
  pub turns_keep : (P : List Turn → State → Type 0) → ((before : List Turn) (turn : Turn) (old new : State) → P before old → Goes tells limits old turn.0 turn.1 turn.2 new → P (before ++ turn ∷ []) new)
      → (before turns : List Turn) (old now : State) → P before old → GoesAlong tells limits old turns now → P (before ++ turns) now
  turns_keep P step before [] old now p a = subst (λ (x : List Turn × State). P x.0 x.1) (λ i. (sym (append-nil before) i, sym a i)) p
  turns_keep P step before (turn ∷ turns) old now p a =
      subst (λ (l : List Turn). P l now) (append_assoc before (turn ∷ []) turns) (turns_keep P step (before ++ turn ∷ []) turns a.0 now (step before turn old a.0 p a.1) a.2)

  goes_grows : (old new : State) (turn : Turn) → Goes tells limits old turn.0 turn.1 turn.2 new → Grows old.history new.history
  goes_grows old new turn goes = subst (λ h. Grows old.history h) (sym goes.moves.history) (after_grows limits.callers old turn.0 turn.1 turn.2)

  -- The history only grows,
  pub turns_grow : (first now : State) (turns : List Turn) → GoesAlong tells limits first turns now → Grows first.history now.history
  turns_grow first now [] a = subst (λ (s : State). Grows first.history s.history) (sym a) (grows_none first.history)
  turns_grow first now (turn ∷ turns) a = grows_on first.history a.0.history now.history (goes_grows first a.0 turn a.1) (turns_grow a.0 now turns a.2)

  -- the base stays,
  pub turns_base : (first now : State) (turns : List Turn) → GoesAlong tells limits first turns now → now.base ≡ first.base
  turns_base first now [] a = ap (λ (s : State). s.base) a
  turns_base first now (turn ∷ turns) a = turns_base a.0 now turns a.2 ∙ a.1.moves.base

  -- and so do the names,
  pub turns_names : (first now : State) (turns : List Turn) → GoesAlong tells limits first turns now → now.names ≡ first.names
  turns_names first now [] a = ap (λ (s : State). s.names) a
  turns_names first now (turn ∷ turns) a = turns_names a.0 now turns a.2 ∙ a.1.moves.names

  or_nothing : (b : Bool) → b ≡ (b || false)
  or_nothing true = refl
  or_nothing false = refl

  or_on : (a b c : Bool) → ((a || b) || c) ≡ (a || (b || c))
  or_on true b c = refl
  or_on false b c = refl

  -- the core is dead exactly if it was or if a turn reports a fault of the medium,
  pub turns_dead : (first now : State) (turns : List Turn) → GoesAlong tells limits first turns now → now.is_dead ≡ (first.is_dead || has_fault turns)
  turns_dead first now [] a = ap (λ (s : State). s.is_dead) a ∙ or_nothing first.is_dead
  turns_dead first now (turn ∷ turns) a = turns_dead a.0 now turns a.2 ∙ ap (λ b. b || has_fault turns) a.1.moves.dead ∙ or_on first.is_dead (is_media turn.2) (has_fault turns)

  -- and a dead core stays as it is.
  pub turns_still : (first now : State) (turns : List Turn) → GoesAlong tells limits first turns now → IsTrue first.is_dead → now ≡ first
  turns_still first now [] a dead = a
  turns_still first now (turn ∷ turns) a dead =
      let same = (a.1.dead dead).1 in turns_still a.0 now turns a.2 (ap (λ (s : State). s.is_dead) same ∙ dead) ∙ same

  -- A caller that no turn names, and that has offered nothing, has the same transactions as before.
  pub turns_of_others : (caller : ℕ) (first now : State) (turns : List Turn) → GoesAlong tells limits first turns now → turns_of caller turns ≡ [] → is_offered (first.offers caller) ≡ false → Stays first now caller
  turns_of_others caller first now [] a none free = record { live = ap (λ (s : State). s.live caller) a; offer = ap (λ (s : State). s.offers caller) a; mine = ap (λ (s : State). commits_of caller s.history) a }
  turns_of_others caller first now (turn ∷ turns) a none free =
      let parts = none_first caller turn turns none in
      let here = still (a.1.moves.others caller (λ e. parts.0 (sym e))) in
      let more = turns_of_others caller a.0 now turns a.2 parts.1 (ap is_offered here.offer ∙ free) in
      record { live = more.live ∙ here.live; offer = more.offer ∙ here.offer; mine = more.mine ∙ here.mine }
    where
      still : Stays first a.0 caller ⊎ EndsWith limits.callers first turn.0 turn.1 turn.2 a.0 caller → Stays first a.0 caller
      still (inl stays) = stays
      still (inr ends) = absurd (true≢false (sym (ap is_offered ends.its) ∙ free))

  -- So only the callers of turns have any.
  pub turns_no_others : (callers : ℕ) (first now : State) (turns : List Turn) → GoesAlong tells limits first turns now → AreOf callers turns → HasNoOthers callers first → HasNoOthers callers now
  turns_no_others callers first now turns a all none caller le =
      let before = none caller le in
      let same = turns_of_others caller first now turns a (none_beyond callers caller turns all le) (ap is_offered before.2) in
      (same.mine ∙ before.0, same.live ∙ before.1, same.offer ∙ before.2)

  -- A run of a core that tells its records is one of steps.
  pub turns_tell : (first now : State) (turns : List Turn) → IsTrue tells → GoesAlong tells limits first turns now → Runs limits first turns now
  turns_tell first now [] told a = a
  turns_tell first now (turn ∷ turns) told a = (a.0, a.1.step told, turns_tell a.0 now turns told a.2)

  -- The last turn: at the beginning,
  pub turn_none : (caller : ℕ) (first : State) → LastTurn tells limits caller [] first.history first [] first
  turn_none caller first = record { after = []; mid = first; turns_are = refl; until = refl; since = refl; none = refl; shown = refl }

  -- after the caller's own,
  pub turn_own : (caller : ℕ) (first now : State) (turns : List Turn) → GoesAlong tells limits first turns now → LastTurn tells limits caller turns now.history first turns now
  turn_own caller first now turns a = record { after = []; mid = now; turns_are = sym (append-nil turns); until = a; since = refl; none = refl; shown = refl }

  -- and after another's.
  pub turn_other : (caller : ℕ) (past : List Turn) (seen : List Done) (first old new : State) (turns : List Turn) (other : ℕ) (call : Call) (reply : Reply) → other ≢ caller → Goes tells limits old other call reply new
      → LastTurn tells limits caller past seen first turns old → LastTurn tells limits caller past seen first (turns ++ (other, call, reply) ∷ []) new
  turn_other caller past seen first old new turns other call reply ne goes t = record {
    after = t.after ++ (other, call, reply) ∷ [];
    mid = t.mid;
    turns_are = ap (λ (l : List Turn). l ++ (other, call, reply) ∷ []) t.turns_are ∙ append_assoc past t.after ((other, call, reply) ∷ []);
    until = t.until;
    since = turns_one t.mid old new t.after other call reply t.since goes;
    none = last_apart caller (other, call, reply) t.after ne ∙ t.none;
    shown = t.shown;
  }

  module _ (caller : ℕ) (past : List Turn) (seen : List Done) (first now : State) (turns : List Turn) (t : LastTurn tells limits caller past seen first turns now) where
    -- the whole run
    pub turn_run : GoesAlong tells limits first turns now
    turn_run = subst (λ (l : List Turn). GoesAlong tells limits first l now) (sym t.turns_are) (turns_on first t.mid now past t.after t.until t.since)

    -- what it was told
    pub turn_told : turns_of caller past ≡ turns_of caller turns
    turn_told = sym (append-nil (turns_of caller past)) ∙ ap (λ (l : Heard). turns_of caller past ++ l) (sym t.none) ∙ sym (lines_append caller past t.after) ∙ ap (turns_of caller) (sym t.turns_are)

    pub turn_grows : Grows seen now.history
    turn_grows = subst (λ (h : List Done). Grows h now.history) (sym t.shown) (turns_grow t.mid now t.after t.since)

    -- since then the caller's transactions are the same, unless one is offered
    pub turn_commits : is_offered (t.mid.offers caller) ≡ false → commits_of caller seen ≡ commits_of caller now.history
    turn_commits free = ap (commits_of caller) t.shown ∙ sym (turns_of_others caller t.mid now t.after t.since t.none free).mine

-- What a step does is what is known of a call of a core that tells its records.
dead_if : (limits : Limits) (dead : Bool) (old : State) (caller : ℕ) (call : Call) (reply : Reply) (new : State)
    → StepOf limits dead (old.offers caller) (old.live caller) old caller call reply new → old.is_dead ≡ dead → IsTrue old.is_dead → (reply ≡ Dead) × (new ≡ old)
dead_if limits true old caller call reply new s is dead = s
dead_if limits false old caller call reply new s is dead = absurd (true≢false (sym dead ∙ is))

pub goes_of_step : (limits : Limits) (old : State) (caller : ℕ) (call : Call) (reply : Reply) (new : State) → Step limits old caller call reply new → Goes true limits old caller call reply new
goes_of_step limits old caller call reply new step = record {
  moves = step_moves limits old caller call reply new step;
  dead = λ dead. dead_if limits old.is_dead old caller call reply new step.acts refl dead;
  step = λ told. step;
}

pub turns_of_runs : (limits : Limits) (first now : State) (turns : List Turn) → Runs limits first turns now → GoesAlong true limits first turns now
turns_of_runs limits first now [] r = r
turns_of_runs limits first now (turn ∷ turns) r = (r.0, goes_of_step limits first turn.0 turn.1 turn.2 r.0 r.1, turns_of_runs limits r.0 now turns r.2)
