-- What is left for last, once it is done.
use Rattle.std.proofs.Common.{◌≡◌, ◌⊎◌, inl, inr, ℕ, Bool, true, List, [], ◌∷◌, ◌++◌, append_assoc, length, drop, Option, Some, None, refl, sym, ap, ◌∙◌, subst}
use Rattle.history.specs.declared.call.Reply.{Reply}
use Rattle.history.specs.declared.call.Reply.TheVariants as says
use Rattle.std.specs.Prelude.{option_map, is_some, if◌then◌else◌}
use Rattle.std.proofs.lemmas.List.{append-nil}
use Rattle.caller_steps.specs.Run.{Heard}
use Rattle.mars_manager.specs.Pass.{PassView, names_in, names_of}
use Rattle.mars_manager.specs.declared.view.Met.{Met}
use Rattle.mars_manager.specs.Locks.{steps_of}
use Rattle.mars_manager.specs.Sharing.{MarsView}
use Rattle.caller_work.specs.declared.stop.Stop.{Stop}
use Rattle.caller_work.specs.declared.stop.Stop.TheVariants as stop
use Rattle.caller_plans.specs.declared.plan.Plan.{Plan}
use Rattle.caller_plans.specs.declared.fate.Fate.{Fate}
use Rattle.caller_work.specs.declared.tries.Tries.{Tries}
use Rattle.caller_work.specs.declared.tries.Tries.TheVariants.{NoLimit}
use Rattle.caller_work.specs.declared.worker.Worker.{Worker}
use Rattle.caller_work.specs.declared.end.WorkEnd.{WorkEnd}
use Rattle.caller_work.specs.declared.end.WorkEnd.TheVariants as work
use Rattle.caller_work.specs.Standing.{stop_for}
use Rattle.caller_work.specs.Tries.{Works}
use Rattle.caller_work.specs.Asked.{IsToldOf}
use Rattle.caller_work.specs.Worked.{end_of, worse}
use Rattle.caller_work.specs.Crew.{IsLeft, IsDone, WentOn, WentInOrder, left_over}
use Rattle.caller_work.proofs.Asking.{told_both}
use Rattle.caller_work.proofs.Adding.{steps_both}
use Rattle.caller_work.proofs.TriesLemmas.{endless}
use Rattle.caller_work.proofs.Ending.{worth_same, worth_now, left_busy, whole_none}

-- the reply at which a locked key stopped a worker
busy_at : (stopped : Option Reply) (holder : ℕ) → option_map stop_for stopped ≡ Some (stop.Busy holder) → stopped ≡ Some (says.Busy holder)
busy_at None holder is = absurd (cc)
busy_at (Some (says.Busy other)) holder is = cc
busy_at (Some says.Fine) holder is = absurd (cc)
busy_at (Some reply) holder is = absurd (cc)

none_at : (stopped : Option Reply) → option_map stop_for stopped ≡ None → stopped ≡ None
none_at None is = refl
none_at (Some reply) is = absurd (cc)

module _ {C : Type 0} (mars : MarsView C) (caller : ℕ) (was now : Worker C) (end next : WorkEnd) (order longer : List ℕ) (left : IsLeft mars caller was) where
  pub table_now : WentOn end was now next order longer → now.pass.table ≡ mars.table
  table_now (inl (why, same, is, noted)) = ap (λ (w : Worker C). w.pass.table) same ∙ left.table
  table_now (inr (all, some, worked, is, noted)) = worked.works.same.table ∙ left.table

  -- all work comes to its end only if all had so far
  pub all_before : WentOn end was now next order longer → next ≡ work.All → end ≡ work.All
  all_before (inl (why, same, is, noted)) all = sym is ∙ all
  all_before (inr (before, some, worked, is, noted)) all = before

  module _ (done others : WorkEnd) (worth : end ≡ worse done (worse others (end_of was.stop))) where
    pub worth_next : WentOn end was now next order longer → next ≡ worse (worse done (end_of now.stop)) others
    worth_next (inl (why, same, is, noted)) = is ∙ worth_same done others was.stop now.stop end worth (sym (ap (λ (w : Worker C). w.stop) same))
    worth_next (inr (all, some, worked, is, noted)) = is ∙ worth_now done others was.stop now.stop end worth all

    pub done_next : WentOn end was now next order longer → (stopped : Option Reply) × (now.stop ≡ option_map stop_for stopped) × IsDone next caller was.tries was.plans now.fates.items stopped now.pass
    done_next (inl (why, same, is, noted)) = (
      left.stopped,
      ap (λ (w : Worker C). w.stop) same ∙ left.stop_is,
      subst (λ (w : Worker C). IsDone next caller was.tries was.plans w.fates.items left.stopped w.pass) (sym same) (record {
        number = left.number;
        works = (left.works.0, left.works.1, inl left.works.2);
        asked = left.asked;
        whole = λ all. none_at left.stopped (sym left.stop_is ∙ none why (sym is ∙ all));
      }),
    )
      where
        none : ((end ≡ work.All → ⊥) ⊎ (was.stop ≡ None)) → end ≡ work.All → was.stop ≡ None
        none (inl never) all = absurd (never all)
        none (inr stops) all = stops
    done_next (inr (all, some, worked, is, noted)) =
        let held = left_busy done others was.stop now.stop end worth all some in
        let late = drop (length was.fates.items) was.plans in (
          worked.stopped,
          worked.stop_is,
          record {
            number = worked.works.same.number ∙ left.number;
            works = (
              left.works.0 ++ worked.works.more,
              worked.works.told ∙ ap (λ (l : Heard). l ++ steps_of worked.works.more) left.works.1 ∙ sym (steps_both left.works.0 worked.works.more),
              inr (
                left.works.0,
                worked.works.more,
                was.fates.items,
                worked.made,
                held.0,
                refl,
                worked.fates,
                subst (λ (s : Option Reply). Works was.tries was.plans left.works.0 was.fates.items s) (busy_at left.stopped held.0 (sym left.stop_is ∙ held.1)) left.works.2,
                worked.works.holds,
              ),
            );
            asked = subst (λ (x : List (List ℕ) × List Met). IsToldOf x.0 caller (left.works.0 ++ worked.works.more) x.1) (λ k. (names_in (sym worked.works.same.setup k), sym worked.works.met k))
                (told_both (names_of was.pass.known) caller left.works.0 worked.works.more was.pass.known.met worked.works.steps left.asked (subst (λ n. IsToldOf (names_of was.pass.known) n worked.works.more worked.works.steps) left.number worked.works.tells));
            whole = λ ended. none_at worked.stopped (sym worked.stop_is ∙ whole_none now.stop
                (λ holder stops. endless late worked.works.more worked.made holder
                (subst (λ (s : Option Reply). Works NoLimit late worked.works.more worked.made s) (busy_at worked.stopped holder (sym worked.stop_is ∙ stops)) worked.works.holds))
                (sym is ∙ ended));
          },
        )

  -- what was done before stays done
  pub done_then : WentOn end was now next order longer → (n : ℕ) (tries : Tries) (plans : List Plan) (fates : List Fate) (stopped : Option Reply) (pass : PassView C) → IsDone end n tries plans fates stopped pass → IsDone next n tries plans fates stopped pass
  done_then went n tries plans fates stopped pass done = record { number = done.number; works = done.works; asked = done.asked; whole = λ all. done.whole (all_before went all) }

-- the last workers leave over what comes first
pub left_parts : {C : Type 0} (xs ys : List (Worker C)) → left_over (xs ++ ys) ≡ left_over ys ++ left_over xs
left_parts [] ys = sym (append-nil (left_over ys))
left_parts (worker ∷ xs) ys =
    ap (λ (l : List ℕ). l ++ (if is_some worker.stop then worker.caller ∷ [] else [])) (left_parts xs ys) ∙ append_assoc (left_over ys) (left_over xs) (if is_some worker.stop then worker.caller ∷ [] else [])

some_is : {A : Type 0} (o : Option A) → (o ≡ None → ⊥) → is_some o ≡ true
some_is None never = absurd (never refl)
some_is (Some x) never = refl

-- one more worker
pub in_order_next : {C : Type 0} (was now : Worker C) (end next : WorkEnd) (order longer : List ℕ) (gone : List (Worker C)) → WentOn end was now next order longer → WentInOrder end gone order → WentInOrder next (was ∷ gone) longer
in_order_next {C} was now end next order longer gone (inl (why, same, is, noted)) went =
    let more : List ℕ = if is_some was.stop then was.caller ∷ [] else [] in record {
      others = went.others ++ more;
      is = ap (λ (l : List ℕ). l ++ more) went.is ∙ append_assoc order went.others more ∙ ap (λ (l : List ℕ). l ++ (went.others ++ more)) (sym noted);
      all = λ ended. ap (λ (l : List ℕ). l ++ more) (went.all (sym is ∙ ended)) ∙ none why (sym is ∙ ended);
    }
  where
    none : ((end ≡ work.All → ⊥) ⊎ (was.stop ≡ None)) → end ≡ work.All → (if is_some was.stop then was.caller ∷ [] else []) ≡ []
    none (inl never) all = absurd (never all)
    none (inr stops) all = ap (λ (s : Option Stop). if is_some s then was.caller ∷ [] else []) stops
in_order_next {C} was now end next order longer gone (inr (all, some, worked, is, noted)) went = record {
  others = [];
  is = ap (λ (b : Bool). left_over gone ++ (if b then was.caller ∷ [] else [])) (some_is was.stop some)
      ∙ ap (λ (l : List ℕ). l ++ was.caller ∷ []) (went.is ∙ ap (λ (l : List ℕ). order ++ l) (went.all all) ∙ append-nil order) ∙ sym noted ∙ sym (append-nil longer);
  all = λ _. refl;
}
