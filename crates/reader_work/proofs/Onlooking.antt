-- The pass that makes no call, beside those of callers.
use Rattle.std.proofs.Common.{◌≡◌, ℕ, zero, suc, ◌+◌, ◌<◌, Bool, true, false, nat_eq, List, [], ◌∷◌, ◌++◌, map, filter, get_or, length, length-append, inl, inr, refl, sym, ap, ◌∙◌, subst, arith}
use Rattle.std.specs.Prelude.{if◌then◌else◌}
use Rattle.std.proofs.lemmas.Bool.{cases_eq, eqb-false}
use Rattle.std.proofs.lemmas.List.{get_or_append_left}
use mathlib.Core.List.{IsPrefix}
use Rattle.history.specs.declared.call.Call.{Call}
use Rattle.history.specs.declared.call.Reply.{Reply}
use Rattle.caller_steps.specs.Core.{CoreView}
use Rattle.caller_steps.specs.State.{State}
use Rattle.caller_steps.specs.Run.{Turn, AreOf, turns_of}
use Rattle.caller_steps.proofs.Running.{turn_grows}
use Rattle.mars_manager.specs.declared.setup.Setup.{Setup}
use Rattle.mars_manager.specs.declared.view.Known.{Known}
use Rattle.mars_manager.specs.declared.view.Met.{Met}
use Rattle.mars_manager.specs.Asked.{AreMet, HaveAsked}
use Rattle.mars_manager.specs.Pass.{PassView, Fits, AreSo, newcomer, known_of, times}
use Rattle.mars_manager.proofs.Calls.{told_all}
use Rattle.caller_work.proofs.Whole.{times_at}
use Rattle.snapshot_readers.specs.Feeds.{fed}
use Rattle.snapshot_readers.specs.declared.feed.Feed.{Feed}
use Rattle.reader_work.specs.News.{IsBehind, IsOnlooker}

-- turns of one caller more, which has made none, are turns of the others
pub without : (n : ℕ) (turns : List Turn) → AreOf (n + 1) turns → turns_of n turns ≡ [] → AreOf n turns
without n [] of none = tt
without n (turn ∷ turns) of none = tested (nat_eq turn.0 n) refl none (without n turns of.1)
  where
    others : List Turn
    others = filter (λ (t : Turn). nat_eq t.0 n) turns

    tested : (b : Bool) → nat_eq turn.0 n ≡ b → map {B = Call × Reply} (λ (t : Turn). (t.1, t.2)) (if b then turn ∷ others else others) ≡ [] → (turns_of n turns ≡ [] → AreOf n turns) → AreOf n (turn ∷ turns)
    tested true is empty rest = absurd (cc empty)
    tested false is empty rest = (omega (arith, of.0, eqb-false turn.0 n is), rest empty)

module _ {C : Type 0} where
  -- before its first look the pass knows nothing, and nothing was fed
  pub first_news : (feed : Feed) (setup : Setup C) (number : ℕ) (known : Known C) → fed feed ≡ [] → known ≡ newcomer setup number → IsBehind feed known × IsOnlooker known.number known
  first_news feed setup number known none is = rw (is, none) (refl, record { number_is = refl; silent = refl; unlocked = refl })

  pub so_first : (tells : Bool) (show : C → CoreView) (setup : Setup C) (turns : List Turn) (state : State) (passes : List (PassView C)) (last : PassView C) → AreSo tells show setup turns state (passes ++ last ∷ []) → AreSo tells show setup turns state passes
  so_first tells show setup turns state [] last so = tt
  so_first tells show setup turns state (pass ∷ passes) last so = (so.0, so_first tells show setup turns state passes last so.1)

  pub so_last : (tells : Bool) (show : C → CoreView) (setup : Setup C) (turns : List Turn) (state : State) (passes : List (PassView C)) (last : PassView C) → AreSo tells show setup turns state (passes ++ last ∷ []) → Fits tells show setup turns state last.known
  so_last tells show setup turns state [] last so = so.0
  so_last tells show setup turns state (pass ∷ passes) last so = so_last tells show setup turns state passes last so.1

  met_first : (met : ℕ → List Met) (passes : List (PassView C)) (last : PassView C) → AreMet met (passes ++ last ∷ []) → AreMet met passes
  met_first met [] last are = tt
  met_first met (pass ∷ passes) last are = (are.0, met_first met passes last are.1)

  met_last : (met : ℕ → List Met) (passes : List (PassView C)) (last : PassView C) → AreMet met (passes ++ last ∷ []) → last.known.met ≡ met last.known.number
  met_last met [] last are = are.0
  met_last met (pass ∷ passes) last are = met_last met passes last are.1

  -- what the callers asked for, without the onlooker, who asked for nothing
  pub asked_by : (n : ℕ) (passes : List (PassView C)) (last : PassView C) → IsOnlooker n last.known → HaveAsked (n + 1) (passes ++ last ∷ []) → HaveAsked n passes
  asked_by n passes last looks asked = record {
    met = asked.met;
    each = met_first asked.met passes last asked.each;
    strangers = λ m far. elim (cases_eq m n) [
      | inl e ↦ ap asked.met (e ∙ sym looks.number_is) ∙ sym (met_last asked.met passes last asked.each) ∙ looks.unlocked
      | inr ne ↦ asked.strangers m (omega (arith, far, ne))
    ];
    caused = asked.caused;
  }

  -- the turns are those of the callers alone
  pub turns_by : (tells : Bool) (show : C → CoreView) (setup : Setup C) (turns : List Turn) (state : State) (n : ℕ) (known : Known C) → IsOnlooker n known → Fits tells show setup turns state known → AreOf (n + 1) turns → AreOf n turns
  turns_by tells show setup turns state n known looks fits of =
      without n turns of (ap (λ (m : ℕ). turns_of m turns) (sym looks.number_is) ∙ sym (told_all tells show setup turns state known fits) ∙ looks.silent)

  -- what it has seen is a front of the history
  pub seen_front : (tells : Bool) (show : C → CoreView) (setup : Setup C) (turns : List Turn) (state : State) (known : Known C) → Fits tells show setup turns state known → IsPrefix known.seen state.history
  seen_front tells show setup turns state known fits =
      let grows = turn_grows tells (show setup.first).limits known.number known.past known.seen (show setup.first).state state turns fits.last in
      (grows.more, sym grows.is)

  -- a pass in its place
  pub at_last : (passes : List (PassView C)) (last p : PassView C) (n : ℕ) → n ≡ length passes → get_or (passes ++ last ∷ []) n p ≡ last
  at_last [] last p zero is = refl
  at_last [] last p (suc n) is = absurd (omega (arith, is))
  at_last (pass ∷ passes) last p zero is = absurd (omega (arith, is))
  at_last (pass ∷ passes) last p (suc n) is = at_last passes last p n (omega (arith, is))

  -- the passes of all callers and the last one are there
  pub each_there : (front : List (PassView C)) (last nobody : PassView C) → ((k : ℕ) → k < length front → (get_or front k nobody).known.number ≡ k) → last.known.number ≡ length front → (caller : ℕ) → caller < length front + 1
      → 0 < times caller (map known_of (front ++ last ∷ []))
  each_there front last nobody numbers is caller within =
      let there = times_at (front ++ last ∷ []) caller nobody (omega (arith, within, length-append front (last ∷ []))) in elim (cases_eq caller (length front)) [
        | inl e ↦ subst (λ (n : ℕ). 0 < times n (map known_of (front ++ last ∷ []))) (ap (λ (p : PassView C). p.known.number) (at_last front last nobody caller e) ∙ is ∙ sym e) there
        | inr ne ↦ (let less : caller < length front = omega (arith, within, ne) in
            subst (λ (n : ℕ). 0 < times n (map known_of (front ++ last ∷ []))) (ap (λ (p : PassView C). p.known.number) (get_or_append_left front (last ∷ []) nobody caller less) ∙ numbers caller less) there)
      ]
