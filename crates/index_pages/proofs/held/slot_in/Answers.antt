use Rattle.std.proofs.Common.{◌≡◌, ◌+◌, ◌-◌, ◌*◌, ◌<◌, ℕ, List, Option, length, take, drop, ◌∙◌, ap, subst, arith}
use Rattle.std.proofs.lemmas.List.{length-take, take_all}
use Rattle.std.specs.Array.{IsFirstChunk}
use Rattle.std.specs.Borrow.{Bor}
use Rattle.std.specs.Prelude.{MatchOption}
use Rattle.record_slots.specs.Slots.{slot_said}
use Rattle.index_pages.proofs.held.slot_in.Goals as goal

pub returns : goal.returns
returns c =
    let page = c.args.page.now in
    let at = c.args.i * 64 in
    let count : at + 64 - at ≡ 64 = omega arith in
    let same : at ≡ 64 * c.args.i = omega arith in
    let part = take (at + 64 - at) (drop at page) in
    let chunk : IsFirstChunk part c.unwrap.result.now 64 =
    subst (λ (o : Option (Bor (List ℕ))). MatchOption o (length part < 64) (λ y. IsFirstChunk part y.now 64)) c.unwrap.ensures c.first_chunk.ensures.cases in
    c.read_slot.ensures ∙ ap (λ (l : List ℕ). slot_said l) (chunk.same ∙ take_all 64 part (omega (arith, length-take (at + 64 - at) (drop at page))) ∙ ap (λ (n : ℕ). take n (drop at page)) count ∙ ap (λ (k : ℕ). take 64 (drop k page)) same)
