use Rattle.std.proofs.Common.{◌≡◌, ◌+◌, ◌++◌, ◌/◌, ◌<◌, ℕ, List, true, length, get_or, set, ◌∙◌, ap, subst, arith}
use Rattle.std.specs.Prelude.{IsOk}
use Rattle.std.specs.Vec.{vec_capacity}
use Rattle.resident_media.specs.Blocks.{Kept}
use Rattle.resident_media.specs.Placing.{Appends}
use Rattle.resident_media.proofs.Places.{spare, appended}
use Rattle.resident_media.proofs.blocks.Blocks.append.Goals as goal

pub invariant_of-self : goal.invariant_of-self
invariant_of-self c =
    let kept : Kept = record { len = c.self.inside.len; room = c.self.inside.room.items; places = c.self.inside.places.items; known = c.self.inside.known.items } in
    let capacity = vec_capacity c.self.inside.room in
    let lt : c.args.block < length kept.known = omega (arith, c.requires.there, ap (λ (k : Kept). length k.known) c.self.view_is) in
    let none : get_or kept.places c.args.block 0 ≡ 0 = ap (λ (k : Kept). get_or k.places c.args.block 0) c.self.view_is ∙ c.requires.placeless in
    let there = spare kept capacity c.self.invariant c.args.block lt none in
    let ok : IsOk c.extend_from_slice.result = c.extend_from_slice.ensures.succeeds (omega (arith, there, c.self.inside.room.ok.0, c.requires.fits)) in
    let first = rw ok at c.extend_from_slice.ensures.items in
    let ok_next : IsOk c.extend_from_slice-2.result = c.extend_from_slice-2.ensures.succeeds (omega (arith, there, rw ok at c.extend_from_slice.ensures.len, c.extend_from_slice.ensures.capacity, c.zeros.ensures, c.requires.fits, c.self.inside.room.ok.0)) in
    let second = rw ok_next at c.extend_from_slice-2.ensures.items in
    (appended kept capacity c.self.invariant c.args.block lt none c.args.bytes.now c.zeros.result.now c.extend_from_slice-2.new.self.items (c.len-from.result / 16384 + 1) (vec_capacity c.extend_from_slice-2.new.self)
    (second ∙ ap (λ (l : List ℕ). l ++ c.zeros.result.now) first) (omega (arith, c.self.inside.room.ok.0)) (omega (arith, c.zeros.ensures, c.requires.fits))
    (omega (arith, c.extend_from_slice.ensures.capacity, c.extend_from_slice-2.ensures.capacity))).0

pub returns : goal.returns
returns c =
    let kept : Kept = record { len = c.self.inside.len; room = c.self.inside.room.items; places = c.self.inside.places.items; known = c.self.inside.known.items } in
    let capacity = vec_capacity c.self.inside.room in
    let lt : c.args.block < length kept.known = omega (arith, c.requires.there, ap (λ (k : Kept). length k.known) c.self.view_is) in
    let none : get_or kept.places c.args.block 0 ≡ 0 = ap (λ (k : Kept). get_or k.places c.args.block 0) c.self.view_is ∙ c.requires.placeless in
    let there = spare kept capacity c.self.invariant c.args.block lt none in
    let ok : IsOk c.extend_from_slice.result = c.extend_from_slice.ensures.succeeds (omega (arith, there, c.self.inside.room.ok.0, c.requires.fits)) in
    let first = rw ok at c.extend_from_slice.ensures.items in
    let ok_next : IsOk c.extend_from_slice-2.result = c.extend_from_slice-2.ensures.succeeds (omega (arith, there, rw ok at c.extend_from_slice.ensures.len, c.extend_from_slice.ensures.capacity, c.zeros.ensures, c.requires.fits, c.self.inside.room.ok.0)) in
    let second = rw ok_next at c.extend_from_slice-2.ensures.items in
    subst (λ (k : Kept). Appends c.args.block c.args.bytes.now k (record { len = kept.len; room = c.extend_from_slice-2.new.self.items; places = set kept.places c.args.block (c.len-from.result / 16384 + 1); known = set kept.known c.args.block true })) c.self.view_is
    (appended kept capacity c.self.invariant c.args.block lt none c.args.bytes.now c.zeros.result.now c.extend_from_slice-2.new.self.items (c.len-from.result / 16384 + 1) (vec_capacity c.extend_from_slice-2.new.self)
    (second ∙ ap (λ (l : List ℕ). l ++ c.zeros.result.now) first) (omega (arith, c.self.inside.room.ok.0)) (omega (arith, c.zeros.ensures, c.requires.fits))
    (omega (arith, c.extend_from_slice.ensures.capacity, c.extend_from_slice-2.ensures.capacity))).1
