use Rattle.std.proofs.Common.{◌≡◌, [], length, refl, subst}
use Rattle.std.specs.Prelude.{IsTrue, OnOk}
use Rattle.mars_base.specs.Bytes.{range}
use Rattle.resident_media.specs.Past.{newest}
use Rattle.resident_media.specs.Blocks.{Holds}
use Rattle.resident_media.proofs.Steps.{step_of, does_called, does_either, moves_either, holds_either, wide_either, lies_after, steady_called, steady_either}
use Rattle.resident_media.proofs.resident_media.ResidentMediaMedia.read.Goals as goal

pub returns-then-not-has-clause-does : goal.returns-then-not-has-clause-does
returns-then-not-has-clause-does g c =
    let s = step_of g.M.Media.tells g.M.Media.view c.args.self.now c.tick.new.self _ c.tick.result _ c.tick.ensures c.in_ok-tick.was c.self.view_is in
    let was = newest c.self.inside.notes.said in
    does_called g.M.Media.tells g.M.Media.view g.M.Media.steady g.met.M.Media.only_now c.args.self.now _ s [] was.unsettled was.spared was c.read.new.self c.read.result refl (λ i out prior. prior) c.read.ensures.does

pub returns-then-not-has-clause-steady : goal.returns-then-not-has-clause-steady
returns-then-not-has-clause-steady g c =
    let s = step_of g.M.Media.tells g.M.Media.view c.args.self.now c.tick.new.self _ c.tick.result _ c.tick.ensures c.in_ok-tick.was c.self.view_is in
    steady_called g.M.Media.tells g.M.Media.view g.M.Media.steady g.met.M.Media.only_now c.args.self.now _ s (λ n. n) (newest c.self.inside.notes.said) c.read.new.self c.read.result refl (λ n k. refl) c.read.ensures.ticks c.read.ensures.steady

pub invariant_of-self-2 : goal.invariant_of-self-2
invariant_of-self-2 g c =
    let s = step_of g.M.Media.tells g.M.Media.view c.args.self.now c.tick.new.self _ c.tick.result _ c.tick.ensures c.in_ok-tick.was c.self.view_is in
    let r = c.read-2 in
    let was = newest c.self.inside.notes.said in
    let moves = moves_either g.M.Media.tells g.M.Media.view g.M.Media.steady g.met.M.Media.only_now c.args.self.now _ s r.new.inner r.result r.ensures.called in
    let holds : IsTrue g.M.Media.tells → Holds c.self.inside.blocks (g.M.Media.view c.self.inside.inner).content.bytes → Holds r.new.self (g.M.Media.view r.new.inner).content.bytes = λ told h.
    holds_either g.M.Media.tells g.M.Media.view g.M.Media.steady g.met.M.Media.only_now c.args.self.now _ s r.new.self r.new.inner r.result r.ensures.called told (r.ensures.holds told (g.met.M.Media.long c.self.inside.inner told) h) in
    lies_after g.M.Media.tells g.M.Media.view g.M.Media.steady g.met.M.Media.only_now c.args.self.now _ s r.new.inner c.self.inside.blocks r.new.self _ _ was.unsettled was.spared was refl moves c.self.invariant r.ensures.len r.ensures.capacity
    (wide_either g.M.Media.tells g.M.Media.view g.M.Media.steady g.met.M.Media.only_now c.args.self.now _ s r.new.inner r.result r.ensures.called c.self.invariant.wide) holds

pub returns-clause-bytes : goal.returns-clause-bytes
returns-clause-bytes g c told =
    let s = step_of g.M.Media.tells g.M.Media.view c.args.self.now c.tick.new.self _ c.tick.result _ c.tick.ensures c.in_ok-tick.was c.self.view_is in
    let r = c.read-2 in
    subst (λ m. OnOk r.result (r.new.buf ≡ range (g.M.Media.view m).content.bytes c.args.at (length c.args.buf.now))) s.inner
    (r.ensures.bytes told (c.self.invariant.holds told) (g.met.M.Media.long c.self.inside.inner told))

pub returns-clause-does : goal.returns-clause-does
returns-clause-does g c =
    let s = step_of g.M.Media.tells g.M.Media.view c.args.self.now c.tick.new.self _ c.tick.result _ c.tick.ensures c.in_ok-tick.was c.self.view_is in
    does_either g.M.Media.tells g.M.Media.view g.M.Media.steady g.met.M.Media.only_now c.args.self.now _ s c.read-2.new.inner c.read-2.result c.read-2.ensures.called

pub returns-clause-steady : goal.returns-clause-steady
returns-clause-steady g c =
    let s = step_of g.M.Media.tells g.M.Media.view c.args.self.now c.tick.new.self _ c.tick.result _ c.tick.ensures c.in_ok-tick.was c.self.view_is in
    steady_either g.M.Media.tells g.M.Media.view g.M.Media.steady g.met.M.Media.only_now c.args.self.now _ s c.read-2.new.inner c.read-2.result c.read-2.ensures.called
