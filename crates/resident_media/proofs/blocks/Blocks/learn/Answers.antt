use Rattle.std.proofs.Common.{◌≡◌, ◌<◌, List, Bool, true, false, get_or, subst, sym, ap, ◌∙◌, arith}
use Rattle.std.proofs.lemmas.Result.{on_ok_weaker}
use Rattle.resident_media.specs.Blocks.{Kept, AreKnown, IsMarked}
use Rattle.resident_media.proofs.Counts.{learns_fetched}
use Rattle.resident_media.proofs.blocks.Blocks.learn.Goals as goal

pub returns-clause-learns : goal.returns-clause-learns
returns-clause-learns g c =
    let was = (g.M.Media.view c.args.inner.now).moment in
    let now = (g.M.Media.view c.fetch.new.inner).moment in
    let old = c.args.self.now.known in
    let new = c.fetch.new.self.known in
    let from = c.first_unknown-from.result in
    let to = c.behind_unknown-to.result in
    let flags : c.self.inside.known.items ≡ old = ap (λ (k : Kept). k.known) c.self.view_is in
    let first_is : c.deref.result.now ≡ old = c.deref.ensures.value ∙ flags in
    let second_is : c.deref-2.result.now ≡ old = c.deref-2.ensures.value ∙ flags in
    let front : AreKnown old c.args.first from = subst (λ (l : List Bool). AreKnown l c.args.first from) first_is c.first_unknown-from.ensures.before in
    let rear : AreKnown old to c.args.end = subst (λ (l : List Bool). AreKnown l to c.args.end) second_is c.behind_unknown-to.ensures.after in
    let low : from < c.args.end = omega (arith, c.if-from-end.false, c.first_unknown-from.ensures.high) in
    let none : get_or old from false ≡ false = ap (λ (l : List Bool). get_or l from false) (sym first_is) ∙ c.first_unknown-from.ensures.there low in
    on_ok_weaker c.fetch.result
    (λ (marks : IsMarked from to true old new). learns_fetched was now c.args.first from to c.args.end old new (omega (arith, c.behind_unknown-to.ensures.high, c.requires.few)) c.behind_unknown-to.ensures.low marks front rear none (omega (arith, c.fetch.ensures.called.ticks.next)))
    c.fetch.ensures.known
