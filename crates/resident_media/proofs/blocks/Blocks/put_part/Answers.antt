use Rattle.std.proofs.Common.{◌≡◌, ◌+◌, ◌-◌, ◌/◌, ◌<◌, ℕ, List, true, length, get_or, set, sym, ◌∙◌, ap, subst, arith}
use Rattle.std.proofs.lemmas.List.{get_or_default}
use Rattle.std.specs.Vec.{vec_capacity}
use borrow.Rule.Slice.PartMut.{put_mid}
use Rattle.resident_media.specs.Blocks.{Kept, IsPut, spot}
use Rattle.resident_media.proofs.Parts.{back}
use Rattle.resident_media.proofs.Putting.{part_put, part_long}
use Rattle.resident_media.proofs.blocks.Blocks.put_part.Goals as goal

pub returns-clause-bytes : goal.returns-clause-bytes
returns-clause-bytes c =
    let at = c.args.at in
    let block = at / 16384 in
    let part = c.args.part.now in
    let kept : Kept = record { len = c.self.inside.len; room = c.self.inside.room.items; places = c.self.inside.places.items; known = c.self.inside.known.items } in
    let capacity = vec_capacity c.self.inside.room in
    let lt : block < length kept.places = omega (arith, c.requires.some, c.requires.within, c.self.invariant.all, c.self.invariant.long, ap (λ (k : Kept). k.len) c.self.view_is) in
    let place : get_or kept.places block 0 ≡ c.index-place.result.now = get_or_default kept.places block 0 c.index-place.result.now lt ∙ sym c.index-place.ensures in
    let some : 0 < get_or kept.places block 0 = omega (arith, place, c.if-place-eq0.false) in
    let start = c.spot-from.result in
    let there : start ≡ spot kept.places at = c.spot-from.ensures ∙ ap (λ (l : List ℕ). spot l at) c.deref.ensures.value in
    let count : start + length part - start ≡ length part = omega arith in
    let same : put_mid start (start + length part - start) c.deref_mut.result.now c.copy_from_slice.new.self ≡ put_mid (spot kept.places at) (length part) kept.room part =
    ap (λ (n : ℕ). put_mid start n c.deref_mut.result.now c.copy_from_slice.new.self) count
    ∙ ap (λ (l : List ℕ). put_mid start (length part) l c.copy_from_slice.new.self) c.deref_mut.ensures.value
    ∙ ap (put_mid start (length part) kept.room) c.copy_from_slice.ensures.after
    ∙ ap (λ (n : ℕ). put_mid n (length part) kept.room part) there in
    let whole : length (put_mid start (start + length part - start) c.deref_mut.result.now c.copy_from_slice.new.self) ≡ length kept.room =
    ap (λ (l : List ℕ). length l) same ∙ part_long kept capacity at part c.self.invariant some c.requires.one in
    let next : Kept = record { len = kept.len; room = put_mid (spot kept.places at) (length part) kept.room part; places = kept.places; known = set kept.known block true } in
    let all : IsPut at (length part) part c.args.self.now next = subst (λ (k : Kept). IsPut at (length part) part k next) c.self.view_is (part_put kept capacity at part c.self.invariant some c.requires.one) in
    subst (λ (l : List ℕ). IsPut at (length part) part c.args.self.now (record { len = kept.len; room = l; places = kept.places; known = set kept.known block true }))
    (sym (back kept.room _ c.self.inside.room.len c.self.inside.room.ok.0 whole ∙ same)) all
