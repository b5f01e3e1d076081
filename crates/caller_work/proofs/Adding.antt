-- What a pass was told grows by one list after another.
use Rattle.std.proofs.Common.{◌≡◌, ℕ, List, subst, [], ◌∷◌, ◌++◌, append_assoc, refl, sym, ap, ◌∙◌}
use Rattle.std.proofs.lemmas.List.{append-nil}
use Rattle.caller_steps.specs.Run.{Heard}
use Rattle.history.specs.declared.call.Call.{Call}
use Rattle.history.specs.declared.call.Reply.{Reply}
use Rattle.std.specs.Prelude.{not}
use Rattle.std.proofs.lemmas.List.Elements.{filter-append, All-nil, All-cons, All-append, All-push}
use Rattle.caller_steps.specs.Fate.{is_busy}
use Rattle.mars_manager.specs.declared.view.Known.{Known}
use Rattle.mars_manager.specs.Pass.{PassView, names_in, names_of, told_of}
use Rattle.mars_manager.specs.declared.view.Met.{Met}
use Rattle.mars_manager.specs.Locks.{steps_of, IsAgain, IsBusyBy}
use Rattle.mars_manager.specs.Asked.{IsStepOf, Meets}
use Rattle.caller_work.specs.declared.gate.Place.{Place}
use Rattle.caller_work.specs.Standing.{IsSame, Adds, Tells}
use Rattle.caller_work.specs.Telling.{AllMore}
use Rattle.caller_work.specs.Asked.{IsToldOf}
use Rattle.caller_work.proofs.Asking.{told_none, told_one, told_both}

-- the replies that came of turns, of one list after another
pub steps_both : (xs ys : Heard) → steps_of (xs ++ ys) ≡ steps_of xs ++ steps_of ys
steps_both xs ys = filter-append (λ (entry : Call × Reply). not (is_busy entry.1)) xs ys

module _ {C : Type 0} where
  -- one call of a pass adds one reply
  pub adds_one : (was now : PassView C) (call : Call) (reply : Reply) → (now.known.number ≡ was.known.number) × (now.known.setup ≡ was.known.setup) → told_of now.known ≡ told_of was.known ++ steps_of ((call, reply) ∷ []) → now.table ≡ was.table
      → (m : Meets (IsStepOf (names_of was.known) call) was.known now.known) → ((n : ℕ) × (last : Known C) × IsAgain n was.known last × IsBusyBy call reply last now.known)
      → (Holds : Heard → Type 0) → Holds ((call, reply) ∷ []) → Adds was now Holds
  adds_one was now call reply same told table met busy Holds holds = record {
    same = record { table = table; number = same.0; setup = same.1 };
    more = (call, reply) ∷ [];
    told = told;
    steps = met.more;
    met = met.is;
    tells = told_one was.known now.known call reply met busy;
    holds = holds;
  }

  pub same_none : (pass : PassView C) → IsSame pass pass
  same_none pass = record { table = refl; number = refl; setup = refl }

  pub same_on : (was mid now : PassView C) → IsSame was mid → IsSame mid now → IsSame was now
  same_on was mid now one other = record { table = other.table ∙ one.table; number = other.number ∙ one.number; setup = other.setup ∙ one.setup }

  -- nothing was told
  pub adds_none : (pass : PassView C) (Holds : Heard → Type 0) → Holds [] → Adds pass pass Holds
  adds_none pass Holds holds = record { same = same_none pass; more = []; told = sym (append-nil (told_of pass.known)); steps = []; met = sym (append-nil pass.known.met); tells = told_none (names_of pass.known) pass.known.number; holds = holds }

  -- one list after another
  pub adds_on : (was mid now : PassView C) (First Second Both : Heard → Type 0) → Adds was mid First → Adds mid now Second
      → ((xs ys : Heard) → First xs → Second ys → Both (xs ++ ys)) → Adds was now Both
  adds_on was mid now First Second Both one other both = record {
    same = same_on was mid now one.same other.same;
    more = one.more ++ other.more;
    told = other.told ∙ ap (λ (l : Heard). l ++ steps_of other.more) one.told ∙ append_assoc (told_of was.known) (steps_of one.more) (steps_of other.more) ∙ ap (λ (l : Heard). told_of was.known ++ l) (sym (steps_both one.more other.more));
    steps = one.steps ++ other.steps;
    met = other.met ∙ ap (λ (l : List Met). l ++ other.steps) one.met ∙ append_assoc was.known.met one.steps other.steps;
    tells = told_both (names_of was.known) was.known.number one.more other.more one.steps other.steps one.tells (subst (λ (x : List (List ℕ) × ℕ). IsToldOf x.0 x.1 other.more other.steps) (λ k. (names_in (one.same.setup k), one.same.number k)) other.tells);
    holds = both one.more other.more one.holds other.holds;
  }

  pub adds_as : (was now : PassView C) (One Other : Heard → Type 0) → ((xs : Heard) → One xs → Other xs) → Adds was now One → Adds was now Other
  adds_as was now One Other so adds = record { same = adds.same; more = adds.more; told = adds.told; steps = adds.steps; met = adds.met; tells = adds.tells; holds = so adds.more adds.holds }

module _ {C : Type 0} {Knows : Place → Type 0} where
  -- nothing was told to anybody
  pub tells_none : (pass : PassView C) (before : List Place) (Holds : Heard → List Place → Type 0) → Holds [] [] → Tells Knows pass pass before before Holds
  tells_none pass before Holds holds = record { places = []; told = sym (append-nil before); known = All-nil Knows; adds = adds_none pass (λ more. Holds more []) holds }

  -- no gate was told
  pub tells_quiet : (was now : PassView C) (before : List Place) (Holds : Heard → List Place → Type 0) → Adds was now (λ more. Holds more []) → Tells Knows was now before before Holds
  tells_quiet was now before Holds adds = record { places = []; told = sym (append-nil before); known = All-nil Knows; adds = adds }

  -- a gate was told one place
  pub tells_place : (was now : PassView C) (before after : List Place) (place : Place) (Holds : Heard → List Place → Type 0) → after ≡ before ++ place ∷ [] → Knows place → Adds was now (λ more. Holds more (place ∷ []))
      → Tells Knows was now before after Holds
  tells_place was now before after place Holds told knows adds = record { places = place ∷ []; told = told; known = All-cons Knows place [] knows (All-nil Knows); adds = adds }

  -- one list after another
  pub tells_on : (was mid now : PassView C) (before between after : List Place) (First Second Both : Heard → List Place → Type 0) → Tells Knows was mid before between First → Tells Knows mid now between after Second
      → ((xs ys : Heard) (ps qs : List Place) → First xs ps → Second ys qs → Both (xs ++ ys) (ps ++ qs)) → Tells Knows was now before after Both
  tells_on was mid now before between after First Second Both one other both = record {
    places = one.places ++ other.places;
    told = other.told ∙ ap (λ (l : List Place). l ++ other.places) one.told ∙ append_assoc before one.places other.places;
    known = All-append Knows one.places other.places one.known other.known;
    adds = adds_on was mid now (λ more. First more one.places) (λ more. Second more other.places) (λ more. Both more (one.places ++ other.places)) one.adds other.adds
        (λ xs ys first second. both xs ys one.places other.places first second);
  }

  pub tells_as : (was now : PassView C) (before after : List Place) (One Other : Heard → List Place → Type 0) → ((xs : Heard) (ps : List Place) → One xs ps → Other xs ps) → Tells Knows was now before after One → Tells Knows was now before after Other
  tells_as was now before after One Other so tells = record { places = tells.places; told = tells.told; known = tells.known; adds = adds_as was now (λ more. One more tells.places) (λ more. Other more tells.places) (λ xs one. so xs tells.places one) tells.adds }

  -- a gate is told one place more at the end
  pub tells_then : (was now : PassView C) (before between after : List Place) (place : Place) (One Other : Heard → List Place → Type 0) → after ≡ between ++ place ∷ [] → Knows place → ((xs : Heard) (ps : List Place) → One xs ps → Other xs (ps ++ place ∷ []))
      → Tells Knows was now before between One → Tells Knows was now before after Other
  tells_then was now before between after place One Other is knows so tells = record {
    places = tells.places ++ place ∷ [];
    told = is ∙ ap (λ (l : List Place). l ++ place ∷ []) tells.told ∙ append_assoc before tells.places (place ∷ []);
    known = All-push Knows tells.places place tells.known knows;
    adds = adds_as was now (λ more. One more tells.places) (λ more. Other more (tells.places ++ place ∷ [])) (λ xs one. so xs tells.places one) tells.adds;
  }

  -- so all that was told is known
  pub told_more : (was now : PassView C) (before after : List Place) (Holds : Heard → List Place → Type 0) → Tells Knows was now before after Holds → AllMore Knows before after
  told_more was now before after Holds tells = record { places = tells.places; is = tells.told; all = tells.known }

-- of one list after another
pub more_on : (Knows : Place → Type 0) (before between after : List Place) → AllMore Knows before between → AllMore Knows between after → AllMore Knows before after
more_on Knows before between after one other = record {
  places = one.places ++ other.places;
  is = other.is ∙ ap (λ (l : List Place). l ++ other.places) one.is ∙ append_assoc before one.places other.places;
  all = All-append Knows one.places other.places one.all other.all;
}
