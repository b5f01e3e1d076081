-- What a call says that was made in a turn, whatever is given back after it, and one that was refused by the word of a stripe.
use Rattle.std.proofs.Common.{◌≡◌, ℕ, ◌+◌, Bool, false, List, [], ◌∷◌, ◌++◌, inl, refl, sym, ap, ◌∙◌, subst, arith}
use Rattle.std.specs.Prelude.{IsTrue, if◌then◌else◌}
use Rattle.std.proofs.lemmas.Bool.{true≢false}
use mathlib.Core.List.{append-nil}
use Rattle.history.specs.Legal.{IsLegal}
use Rattle.caller_steps.specs.Run.{Heard}
use Rattle.history.specs.declared.call.Call.{Call}
use Rattle.history.specs.declared.call.Reply.{Reply}
use Rattle.history.specs.declared.call.Reply.TheVariants.{Busy}
use Rattle.history.specs.declared.transaction.Done.{Done}
use Rattle.caller_steps.specs.Core.{CoreView}
use Rattle.caller_steps.specs.Fate.{is_busy}
use Rattle.caller_steps.specs.Prefix.{Grows}
use Rattle.caller_steps.proofs.Continuing.{grows_same}
use Rattle.stripe_words.specs.declared.hold.Hold.{Hold}
use Rattle.mars_manager.specs.declared.view.Known.{Known}
use Rattle.mars_manager.specs.Asked.{Meets}
use Rattle.mars_manager.specs.declared.view.Met.{Met}
use Rattle.mars_manager.specs.Locks.{with_holds, steps_of, HasReadied, IsBusyBy, IsRefusedFor}
use Rattle.mars_manager.specs.Pass.{told_of}
use Rattle.mars_manager.specs.Seat.{HasMade}
use Rattle.mars_manager.specs.Sharing.{IsLegalIn, SeesOwn, mine_of}

-- a call that came of a turn is one of the steps
one_step : (call : Call) (reply : Reply) → is_busy reply ≡ false → steps_of ((call, reply) ∷ []) ≡ (call, reply) ∷ []
one_step call (Busy holder) sure = absurd (true≢false sure)
one_step call reply sure = refl

module _ {C : Type 0} where
  -- a call that was made, but for its step and for the stripes that the pass has after it
  pub record IsMadeSo (tells : Bool) (show : C → CoreView) (was : Known C) (call : Call) (reply : Reply) (asked now : Known C) : Type 0 where
    pub told : told_of now ≡ told_of was ++ steps_of ((call, reply) ∷ [])
    pub seen : Grows was.seen now.seen
    pub legal : IsTrue tells → IsLegalIn show now
    pub busy : IsBusyBy call reply was now
    pub met : now.met ≡ asked.met
    pub once : now.tries ≡ was.tries + (if is_busy reply then 0 else 1)
    pub same : (now.number ≡ was.number) × (now.setup ≡ was.setup)

  in_nobodys_way : (call : Call) (reply : Reply) (was now : Known C) → is_busy reply ≡ false → IsBusyBy call reply was now
  in_nobodys_way call (Busy holder) was now sure = absurd (true≢false sure)
  in_nobodys_way call reply was now sure = tt

  pub made_so : (tells : Bool) (show : C → CoreView) (k k1 k2 k3 : Known C) (call : Call) (reply : Reply) (holds : List Hold) → HasReadied call k k1 → HasMade tells show k1 call reply k2 → k3 ≡ with_holds holds k2 → IsMadeSo tells show k call reply k1 k3
  made_so tells show k k1 k2 k3 call reply holds r m e =
      let was : k1.seen ≡ k.seen = ap (λ (j : Known C). j.seen) r.same in
      let seen : k2.seen ≡ k3.seen = ap (λ (j : Known C). j.seen) (sym e) in
      let setup : k2.setup ≡ k3.setup = ap (λ (j : Known C). j.setup) (sym e) in
      let before : told_of k1 ≡ told_of k = ap (λ (j : Known C). told_of j) r.same in
      let tries : k1.tries ≡ k.tries = ap (λ (j : Known C). j.tries) r.same in
      record {
        told = ap (λ (j : Known C). told_of j) e ∙ m.told ∙ ap (λ (told : Heard). told ++ (call, reply) ∷ []) before ∙ ap (λ (one : Heard). told_of k ++ one) (sym (one_step call reply m.sure));
        seen = subst (λ (p : List Done × List Done). Grows p.0 p.1) (λ i. (was i, seen i)) m.seen;
        legal = λ tells setup' is. subst (λ (history : List Done). IsLegal (show setup'.first).state.base history) seen (m.legal tells setup' (setup ∙ is));
        busy = in_nobodys_way call reply k k3 m.sure;
        met = ap (λ (j : Known C). j.met) e ∙ m.met;
        once = ap (λ (j : Known C). j.tries) e ∙ m.tries ∙ ap (λ (n : ℕ). n + 1) tries ∙ ap (λ (b : Bool). k.tries + (if b then 0 else 1)) (sym m.sure);
        same = (ap (λ (j : Known C). j.number) e ∙ m.number ∙ ap (λ (j : Known C). j.number) r.same, sym setup ∙ m.setup ∙ ap (λ (j : Known C). j.setup) r.same);
      }

  pub meets_so : (Holds : Met → Type 0) (k k1 k3 : Known C) → k3.met ≡ k1.met → Meets Holds k k1 → Meets Holds k k3
  meets_so Holds k k1 k3 met s = record { more = s.more; is = met ∙ s.is; each = s.each }

  -- what is refused by the word of a stripe only looked at words
  pub record IsHeldUp (was now : Known C) : Type 0 where
    pub told : told_of now ≡ told_of was ++ []
    pub seen : Grows was.seen now.seen
    pub own : SeesOwn was now
    pub once : now.tries ≡ was.tries + 0
    pub holds : now.holds ≡ was.holds
    pub same : (now.number ≡ was.number) × (now.setup ≡ was.setup)

  pub held_up : (k k1 : Known C) (call : Call) (holder : ℕ) → IsRefusedFor call holder k k1 → IsHeldUp k k1
  held_up k k1 call holder refused =
      let is = refused.refused.is in
      let tries : k1.tries ≡ k.tries = ap (λ (j : Known C). j.tries) is in
      record {
        told = ap (λ (j : Known C). told_of j) is ∙ sym (append-nil (told_of k));
        seen = grows_same k.seen k1.seen (ap (λ (j : Known C). j.seen) is);
        own = inl (ap (λ (j : Known C). mine_of j) is);
        once = omega (arith, tries);
        holds = ap (λ (j : Known C). j.holds) is;
        same = (ap (λ (j : Known C). j.number) is, ap (λ (j : Known C). j.setup) is);
      }
