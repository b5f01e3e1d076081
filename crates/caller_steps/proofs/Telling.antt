-- Where in a run a caller was told something.
use Rattle.std.proofs.Common.{◌≡◌, ◌≢◌, ℕ, ◌<◌, ⊎_elim, Bool, true, List, [], ◌∷◌, ◌++◌, length, refl, sym, ap, ◌∙◌, subst, arith}
use Rattle.std.specs.List.{list_any}
use mathlib.Core.Logic.{dite}
use native.Mathlib.Decide.{ℕ_discrete}
use Rattle.std.proofs.lemmas.Bool.{true≢false, or_cases, or_left, or_right}
use Rattle.history.specs.declared.call.Call.{Call}
use Rattle.history.specs.declared.call.Reply.{Reply}
use Rattle.caller_steps.specs.Run.{Turn, Heard, AreOf, turns_of, IsTold}
use Rattle.caller_steps.proofs.Running.{line_here, line_apart}

heads : {X : Type 0} (x y : X) (xs ys : List X) → x ∷ xs ≡ y ∷ ys → x ≡ y
heads x y xs ys e = cc

tails : {X : Type 0} (x y : X) (xs ys : List X) → x ∷ xs ≡ y ∷ ys → xs ≡ ys
tails x y xs ys e = cc

module _ (caller : ℕ) where
  mine_first : (turn : Turn) (turns : List Turn) → turn.0 ≡ caller → turns_of caller (turn ∷ turns) ≡ (turn.1, turn.2) ∷ turns_of caller turns
  mine_first turn turns is = subst (λ (n : ℕ). turns_of n (turn ∷ turns) ≡ (turn.1, turn.2) ∷ turns_of n turns) is (line_here turn.0 turn.1 turn.2 turns)

  behind : (turn : Turn) (turns : List Turn) (entry : Call × Reply) (front back : Heard) → turn.0 ≢ caller → IsTold caller front entry back turns → IsTold caller front entry back (turn ∷ turns)
  behind turn turns entry front back ne t = record {
    before = turn ∷ t.before;
    after = t.after;
    turns_are = ap (λ (l : List Turn). turn ∷ l) t.turns_are;
    front_is = line_apart caller turn t.before ne ∙ t.front_is;
    back_is = t.back_is;
  }

  -- Each of a caller's turns has its place in the run.
  pub told_at : (turns : List Turn) (front back : Heard) (entry : Call × Reply) → turns_of caller turns ≡ front ++ entry ∷ back → IsTold caller front entry back turns
  told_at [] [] back entry e = absurd (let l = ap length e in omega arith)
  told_at [] (x ∷ front) back entry e = absurd (let l = ap length e in omega arith)
  told_at (turn ∷ turns) [] back entry e = dite (ℕ_discrete turn.0 caller)
      (λ (is : turn.0 ≡ caller).
      let both = sym (mine_first turn turns is) ∙ e in
      let same : (turn.1, turn.2) ≡ entry = heads (turn.1, turn.2) entry (turns_of caller turns) back both in record {
        before = [];
        after = turns;
        turns_are = (λ i. (is i, (same i).0, (same i).1) ∷ turns);
        front_is = refl;
        back_is = tails (turn.1, turn.2) entry (turns_of caller turns) back both;
      })
      (λ (ne : turn.0 ≢ caller). behind turn turns entry [] back ne (told_at turns [] back entry (sym (line_apart caller turn turns ne) ∙ e)))
  told_at (turn ∷ turns) (x ∷ front) back entry e = dite (ℕ_discrete turn.0 caller)
      (λ (is : turn.0 ≡ caller).
      let both = sym (mine_first turn turns is) ∙ e in
      let same : (turn.1, turn.2) ≡ x = heads (turn.1, turn.2) x (turns_of caller turns) (front ++ entry ∷ back) both in
      let t = told_at turns front back entry (tails (turn.1, turn.2) x (turns_of caller turns) (front ++ entry ∷ back) both) in record {
        before = turn ∷ t.before;
        after = t.after;
        turns_are = ap (λ (l : List Turn). turn ∷ l) t.turns_are;
        front_is = mine_first turn t.before is ∙ (λ i. same i ∷ t.front_is i);
        back_is = t.back_is;
      })
      (λ (ne : turn.0 ≢ caller). behind turn turns entry (x ∷ front) back ne (told_at turns (x ∷ front) back entry (sym (line_apart caller turn turns ne) ∙ e)))

module _ (p : Call × Reply → Bool) where
  abbrev test : Turn → Bool
  test turn = p (turn.1, turn.2)

  -- What some turn of a run is, some caller was told,
  pub told_by_some : (callers : ℕ) (turns : List Turn) → AreOf callers turns → list_any (λ (turn : Turn). p (turn.1, turn.2)) turns ≡ true → (caller : ℕ) × (caller < callers) × (list_any p (turns_of caller turns) ≡ true)
  told_by_some callers [] all e = absurd (true≢false (sym e))
  told_by_some callers (turn ∷ turns) all e = ⊎_elim
      (λ here. (turn.0, all.0, ap (list_any p) (line_here turn.0 turn.1 turn.2 turns) ∙ or_left (p (turn.1, turn.2)) (list_any p (turns_of turn.0 turns)) here))
      (λ there. let t = told_by_some callers turns all.1 there in (t.0, t.1, more turn turns t.0 t.2))
      (or_cases (p (turn.1, turn.2)) (list_any (λ (turn : Turn). p (turn.1, turn.2)) turns) e)
    where
      more : (turn : Turn) (turns : List Turn) (caller : ℕ) → list_any p (turns_of caller turns) ≡ true → list_any p (turns_of caller (turn ∷ turns)) ≡ true
      more turn turns caller e = dite (ℕ_discrete turn.0 caller)
          (λ (is : turn.0 ≡ caller). ap (list_any p) (mine_first caller turn turns is) ∙ or_right (p (turn.1, turn.2)) (list_any p (turns_of caller turns)) e)
          (λ (ne : turn.0 ≢ caller). ap (list_any p) (line_apart caller turn turns ne) ∙ e)

  -- and what a caller was told is a turn.
  pub some_line : (caller : ℕ) (turns : List Turn) → list_any p (turns_of caller turns) ≡ true → list_any (λ (turn : Turn). p (turn.1, turn.2)) turns ≡ true
  some_line caller [] e = absurd (true≢false (sym e))
  some_line caller (turn ∷ turns) e = dite (ℕ_discrete turn.0 caller)
      (λ (is : turn.0 ≡ caller). ⊎_elim
      (λ here. or_left (p (turn.1, turn.2)) (list_any (λ (turn : Turn). p (turn.1, turn.2)) turns) here)
      (λ there. or_right (p (turn.1, turn.2)) (list_any (λ (turn : Turn). p (turn.1, turn.2)) turns) (some_line caller turns there))
      (or_cases (p (turn.1, turn.2)) (list_any p (turns_of caller turns)) (sym (ap (list_any p) (mine_first caller turn turns is)) ∙ e)))
      (λ (ne : turn.0 ≢ caller). or_right (p (turn.1, turn.2)) (list_any (λ (turn : Turn). p (turn.1, turn.2)) turns) (some_line caller turns (sym (ap (list_any p) (line_apart caller turn turns ne)) ∙ e)))
