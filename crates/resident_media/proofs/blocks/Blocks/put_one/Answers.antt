use Rattle.std.proofs.Common.{◌≡◌, ◌+◌, ◌-◌, ◌/◌, ◌<◌, ℕ, List, false, length, get_or, sym, ◌∙◌, ap, subst, arith}
use Rattle.std.specs.Vec.{vec_capacity}
use borrow.Rule.Slice.PartMut.{put_mid}
use Rattle.resident_media.specs.Blocks.{Covers, Kept, IsPut, spot}
use Rattle.resident_media.proofs.Parts.{back}
use Rattle.resident_media.proofs.Putting.{covers_known, known_put, part_long}
use Rattle.resident_media.proofs.blocks.Blocks.put_one.Goals as goal

pub returns-clause-known : goal.returns-clause-known
returns-clause-known c =
    subst (λ (k : Kept). Covers c.args.at (length c.args.bytes.now) c.args.self.now.len c.args.self.now.known k.known) (sym c.self.view_is)
    (covers_known c.args.at (length c.args.bytes.now) c.args.self.now.len c.args.self.now.known c.requires.one c.requires.known)

pub returns-clause-bytes : goal.returns-clause-bytes
returns-clause-bytes c =
    let at = c.args.at in
    let block = at / 16384 in
    let bytes = c.args.bytes.now in
    let kept : Kept = record { len = c.self.inside.len; room = c.self.inside.room.items; places = c.self.inside.places.items; known = c.self.inside.known.items } in
    let capacity = vec_capacity c.self.inside.room in
    let seen = ap (λ (k : Kept). get_or k.known block false) c.self.view_is ∙ c.requires.known in
    let some : 0 < get_or kept.places block 0 = c.self.invariant.placed block seen in
    let start = c.spot-from.result in
    let there : start ≡ spot kept.places at = c.spot-from.ensures ∙ ap (λ (l : List ℕ). spot l at) c.deref.ensures.value in
    let count : start + length bytes - start ≡ length bytes = omega arith in
    let same : put_mid start (start + length bytes - start) c.deref_mut.result.now c.copy_from_slice.new.self ≡ put_mid (spot kept.places at) (length bytes) kept.room bytes =
    ap (λ (n : ℕ). put_mid start n c.deref_mut.result.now c.copy_from_slice.new.self) count
    ∙ ap (λ (l : List ℕ). put_mid start (length bytes) l c.copy_from_slice.new.self) c.deref_mut.ensures.value
    ∙ ap (put_mid start (length bytes) kept.room) c.copy_from_slice.ensures.after
    ∙ ap (λ (n : ℕ). put_mid n (length bytes) kept.room bytes) there in
    let whole : length (put_mid start (start + length bytes - start) c.deref_mut.result.now c.copy_from_slice.new.self) ≡ length kept.room =
    ap (λ (l : List ℕ). length l) same ∙ part_long kept capacity at bytes c.self.invariant some c.requires.one in
    let next : Kept = record { len = kept.len; room = put_mid (spot kept.places at) (length bytes) kept.room bytes; places = kept.places; known = kept.known } in
    let all : IsPut at (length bytes) bytes c.args.self.now next = subst (λ (k : Kept). IsPut at (length bytes) bytes k next) c.self.view_is (known_put kept capacity at bytes c.self.invariant some c.requires.one) in
    subst (λ (l : List ℕ). IsPut at (length bytes) bytes c.args.self.now (record { len = kept.len; room = l; places = kept.places; known = kept.known }))
    (sym (back kept.room _ c.self.inside.room.len c.self.inside.room.ok.0 whole ∙ same)) all
