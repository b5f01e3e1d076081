use Rattle.std.proofs.Common.{ℕ, ◌≡◌, Some, length, get_or, slice_get, refl, sym, ap, ◌∙◌}
use Rattle.std.proofs.lemmas.Option.{slice_get_read}
use Rattle.std.specs.Prelude.{Result, Ok, Err, OnOk}
use Rattle.caller_plans.specs.declared.draft.Draft.{Draft}
use Rattle.caller_plans.specs.Plans.{after_call}
use Rattle.caller_plans.proofs.Drafting.{takes_stray, takes_added}
use Rattle.caller_plans.proofs.script.Reading.hear.Goals as goal

both : {E P Q R : Type 0} (r : Result (Unit {0}) E) → (P → Q → R) → OnOk r P → OnOk r Q → OnOk r R
both (Ok x) makes p q = makes p q
both (Err e) makes p q = p

pub returns-then-is_stray : goal.returns-then-is_stray
returns-then-is_stray c =
    let drafts = c.args.self.now.drafts.items in
    let draft = c.index.result.now in
    let at = slice_get_read drafts (length drafts) c.args.caller draft refl c.requires (c.index.ensures ∙ ap (λ (i : ℕ). get_or drafts i draft) c.from.ensures) in
    takes_stray c.args.number c.args.caller c.args.call.now c.args.self.now _ draft at (sym c.is_stray.ensures ∙ c.if-is_stray.true) c.in_ok-push.ensures.ok refl refl

pub returns : goal.returns
returns c =
    let drafts = c.args.self.now.drafts.items in
    let draft = c.index.result.now in
    let changed = c.index_mut.result.now in
    let at : slice_get drafts c.args.caller ≡ Some draft = slice_get_read drafts (length drafts) c.args.caller draft refl c.requires (c.index.ensures ∙ ap (λ (i : ℕ). get_or drafts i draft) c.from.ensures) in
    let now : slice_get drafts c.args.caller ≡ Some changed = slice_get_read drafts (length drafts) c.args.caller changed refl c.requires (c.index_mut.ensures.value ∙ ap (λ (i : ℕ). get_or drafts i changed) c.from-2.ensures) in
    let same : changed ≡ draft = cc in
    both c.add.result
    (λ plans begun. rw c.from-2.ensures (takes_added c.args.number c.args.caller c.args.call.now c.args.self.now _ changed now c.add.new.self
    (ap (λ (d : Draft). (after_call d.begun c.args.call.now).0) same ∙ (sym c.is_stray.ensures ∙ c.if-is_stray.false)) refl refl refl plans begun))
    c.add.ensures.plans c.add.ensures.begun
