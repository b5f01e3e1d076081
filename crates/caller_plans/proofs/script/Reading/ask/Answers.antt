use Rattle.std.proofs.Common.{ℕ, ◌≡◌, Some, List, length, get_or, set, slice_get, refl, ap, ◌∙◌}
use Rattle.std.proofs.lemmas.Option.{slice_get_read}
use Rattle.history.specs.declared.key.Key.{Key}
use Rattle.caller_plans.proofs.Drafting.{takes_asked}
use Rattle.caller_plans.proofs.script.Reading.ask.Goals as goal

pub returns : goal.returns
returns c = λ number.
    let asks = c.args.self.now.asks.items in
    let was = c.index_mut.result.now in
    let at : slice_get asks c.args.reader ≡ Some was = slice_get_read asks (length asks) c.args.reader was refl c.requires (c.index_mut.ensures.value ∙ ap (λ (i : ℕ). get_or asks i was) c.from.ensures) in
    rw c.from.ensures (takes_asked number c.args.reader c.args.key.now c.args.self.now _ was at refl refl (ap (λ (keys : List Key). set asks c.args.reader keys) c.in_ok-push.ensures.ok))
