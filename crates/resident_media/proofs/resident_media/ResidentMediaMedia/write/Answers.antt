use Rattle.std.proofs.Common.{◌≡◌, ◌+◌, ◌/◌, ◌≤◌, ◌∙◌, ℕ, [], ◌∷◌, List, Bool, length, refl, sym, ap, subst, arith}
use Rattle.std.specs.Prelude.{IsTrue}
use Rattle.resident_media.specs.Past.{Past, newest}
use Rattle.resident_media.specs.Blocks.{Kept, Holds, StaysOutside, end_block}
use Rattle.resident_media.specs.Resident.{Resident}
use Rattle.resident_media.proofs.Counts.{outside_covered}
use Rattle.resident_media.proofs.Kept.{put_there}
use Rattle.resident_media.proofs.Steps.{step_of, does_called, does_served, written_served, moves_called, wide_written, lies_after, steady_called}
use Rattle.resident_media.proofs.resident_media.ResidentMediaMedia.write.Goals as goal

pub returns-then-shows-clause-written : goal.returns-then-shows-clause-written
returns-then-shows-clause-written g c told =
    let s = step_of g.M.Media.tells g.M.Media.view c.args.self.now c.tick.new.self _ c.tick.result _ c.tick.ensures c.in_ok-tick.was c.self.view_is in
    let bytes = c.args.bytes.now in
    let content = (g.M.Media.view c.self.inside.inner).content.bytes in
    let there = c.shows.ensures.0 c.if-shows.true in
    let size : (g.M.Media.view c.self.inside.inner).size ≡ (g.M.Media.view c.args.self.now.inner).size = ap (λ x. (g.M.Media.view x).size) s.inner in
    let within : c.args.at + length bytes ≤ length content = omega (arith, c.requires, size, g.met.M.Media.long c.self.inside.inner told) in
    written_served g.M.Media.tells g.M.Media.view g.M.Media.steady g.met.M.Media.only_now c.args.self.now _ s c.args.at bytes (newest c.with_spared-self-inside.result.said) (ap (λ (p : Past). p.unsettled) c.with_spared-self-inside.ensures)
    (put_there c.self.inside.blocks content c.args.at bytes there.0 within there.1 there.2 (c.self.invariant.holds told))

pub returns-then-shows-clause-does : goal.returns-then-shows-clause-does
returns-then-shows-clause-does g c =
    let s = step_of g.M.Media.tells g.M.Media.view c.args.self.now c.tick.new.self _ c.tick.result _ c.tick.ensures c.in_ok-tick.was c.self.view_is in
    let was = newest c.self.inside.notes.said in
    let count = length c.args.bytes.now in
    does_served g.M.Media.tells g.M.Media.view g.M.Media.steady g.met.M.Media.only_now c.args.self.now _ s ((c.args.at, length c.args.bytes.now) ∷ []) ((c.args.at, count) ∷ was.unsettled) (was.spared + count) (newest c.with_spared-self-inside.result.said) c.self.inside.inner _ c.with_spared-self-inside.ensures
    (λ i out prior. (out.0, prior)) (refl, refl)

pub invariant_of-self-in-Ok : goal.invariant_of-self-in-Ok
invariant_of-self-in-Ok g c =
    let s = step_of g.M.Media.tells g.M.Media.view c.args.self.now c.tick.new.self _ c.tick.result _ c.tick.ensures c.in_ok-tick.was c.self.view_is in
    let after = c.write.new.self in
    let bytes = c.args.bytes.now in
    let count = length bytes in
    let was = newest c.self.inside.notes.said in
    let content = (g.M.Media.view c.self.inside.inner).content.bytes in
    let moves = moves_called g.M.Media.tells g.M.Media.view g.M.Media.steady g.met.M.Media.only_now c.args.self.now _ s ((c.args.at, length c.args.bytes.now) ∷ []) after _ c.in-Ok.ensures.does c.in-Ok.ensures.ticks in
    let size : (g.M.Media.view c.self.inside.inner).size ≡ (g.M.Media.view c.args.self.now.inner).size = ap (λ x. (g.M.Media.view x).size) s.inner in
    let holds : IsTrue g.M.Media.tells → Holds c.self.inside.blocks content → Holds c.put.new.self (g.M.Media.view after).content.bytes = λ told h.
    let fits : c.args.at + count ≤ length content = omega (arith, c.requires, size, g.met.M.Media.long c.self.inside.inner told) in
    subst (λ (l : List ℕ). Holds c.put.new.self l) (sym (ap (λ x. x.bytes) (c.in-Ok.ensures.written told))) (c.put.ensures.holds content fits h) in
    lies_after g.M.Media.tells g.M.Media.view g.M.Media.steady g.met.M.Media.only_now c.args.self.now _ s after c.self.inside.blocks c.put.new.self _ _ ((c.args.at, count) ∷ was.unsettled) was.spared (newest c.with_write-self-inside.result.said) c.with_write-self-inside.ensures
    moves c.self.invariant c.put.ensures.len (omega arith) (wide_written g.M.Media.tells g.M.Media.view g.M.Media.steady g.met.M.Media.only_now c.args.self.now _ s c.args.at count after _ c.in-Ok.ensures.does c.self.invariant.wide) holds

pub returns-in-Ok-clause-does : goal.returns-in-Ok-clause-does
returns-in-Ok-clause-does g c =
    let s = step_of g.M.Media.tells g.M.Media.view c.args.self.now c.tick.new.self _ c.tick.result _ c.tick.ensures c.in_ok-tick.was c.self.view_is in
    let was = newest c.self.inside.notes.said in
    does_called g.M.Media.tells g.M.Media.view g.M.Media.steady g.met.M.Media.only_now c.args.self.now _ s ((c.args.at, length c.args.bytes.now) ∷ []) ((c.args.at, length c.args.bytes.now) ∷ was.unsettled) was.spared (newest c.with_write-self-inside.result.said) c.write.new.self _ c.with_write-self-inside.ensures
    (λ i out prior. (out.0, prior)) c.in-Ok.ensures.does

pub returns-in-Ok-clause-others : goal.returns-in-Ok-clause-others
returns-in-Ok-clause-others g c =
    let blocks = c.self.inside.blocks in
    let now = c.put.new.self in
    let at = c.args.at in
    let count = length c.args.bytes.now in
    let same : blocks.known ≡ c.args.self.now.kept.known = ap (λ (r : Resident g.row.M.Denot). r.kept.known) c.self.view_is ∙ ap (λ (k : Kept). k.known) c.tick.ensures.kept in
    subst (λ (l : List Bool). StaysOutside (at / 16384) (end_block at count) l now.known) same (outside_covered at count blocks.len blocks.known now.known c.put.ensures.known)

pub returns-in-Err-clause-does : goal.returns-in-Err-clause-does
returns-in-Err-clause-does g c =
    let s = step_of g.M.Media.tells g.M.Media.view c.args.self.now c.tick.new.self _ c.tick.result _ c.tick.ensures c.in_ok-tick.was c.self.view_is in
    let was = newest c.self.inside.notes.said in
    does_called g.M.Media.tells g.M.Media.view g.M.Media.steady g.met.M.Media.only_now c.args.self.now _ s ((c.args.at, length c.args.bytes.now) ∷ []) ((c.args.at, length c.args.bytes.now) ∷ was.unsettled) was.spared (newest c.with_write-self-inside.result.said) c.write.new.self _ c.with_write-self-inside.ensures
    (λ i out prior. (out.0, prior)) c.in-Err.ensures.does

pub returns-in-Err-clause-steady : goal.returns-in-Err-clause-steady
returns-in-Err-clause-steady g c =
    let s = step_of g.M.Media.tells g.M.Media.view c.args.self.now c.tick.new.self _ c.tick.result _ c.tick.ensures c.in_ok-tick.was c.self.view_is in
    let count = length c.args.bytes.now in
    steady_called g.M.Media.tells g.M.Media.view g.M.Media.steady g.met.M.Media.only_now c.args.self.now _ s (λ more. count + more) (newest c.with_write-self-inside.result.said) c.write.new.self _ (ap (λ (p : Past). p.spared) c.with_write-self-inside.ensures) (λ n k. omega arith)
    c.in-Err.ensures.ticks c.in-Err.ensures.steady
