use Rattle.std.proofs.Common.{◌/◌, ◌<◌, inl, List, Bool, length, refl, sym, ◌∙◌, subst, arith}
use Rattle.std.specs.Vec.{vec_capacity}
use Rattle.resident_media.specs.Blocks.{Kept, Stands, Covers}
use Rattle.resident_media.proofs.Spots.{not_both}
use Rattle.resident_media.proofs.Places.{unknown_placeless}
use Rattle.resident_media.proofs.Putting.{put_none, put_appended, covers_none, covers_set}
use Rattle.resident_media.proofs.blocks.Blocks.put_first.Goals as goal

pub returns-then-not-is_whole-clause-known : goal.returns-then-not-is_whole-clause-known
returns-then-not-is_whole-clause-known c =
    covers_none c.args.at (length c.args.part.now) c.args.self.now.len (c.args.at / 16384) c.args.self.now.known c.requires.some c.requires.one c.requires.within refl
    (λ is. not_both (sym c.if-not-is_whole.true ∙ c.is_whole.ensures.1 is))

pub returns-then-not-is_whole-clause-bytes : goal.returns-then-not-is_whole-clause-bytes
returns-then-not-is_whole-clause-bytes c =
    let before : Stands c.args.self.now (vec_capacity c.self.inside.room) = subst (λ (k : Kept). Stands k (vec_capacity c.self.inside.room)) c.self.view_is c.self.invariant in
    put_none c.args.at c.args.part.now c.args.self.now c.requires.one (unknown_placeless c.args.self.now (vec_capacity c.self.inside.room) (c.args.at / 16384) before c.requires.placeless)

pub returns-clause-known : goal.returns-clause-known
returns-clause-known c =
    let before : Stands c.args.self.now (vec_capacity c.self.inside.room) = subst (λ (k : Kept). Stands k (vec_capacity c.self.inside.room)) c.self.view_is c.self.invariant in
    let lt : c.args.at / 16384 < length c.args.self.now.known = omega (arith, before.all, c.requires.some, c.requires.within) in
    subst (λ (l : List Bool). Covers c.args.at (length c.args.part.now) c.args.self.now.len c.args.self.now.known l) (sym c.append.ensures.known)
    (covers_set c.args.at (length c.args.part.now) c.args.self.now.len (c.args.at / 16384) c.args.self.now.known c.requires.some c.requires.one c.requires.within refl lt (inl (c.is_whole.ensures.0 c.if-not-is_whole.false)))

pub returns-clause-bytes : goal.returns-clause-bytes
returns-clause-bytes c =
    let before : Stands c.args.self.now (vec_capacity c.self.inside.room) = subst (λ (k : Kept). Stands k (vec_capacity c.self.inside.room)) c.self.view_is c.self.invariant in
    put_appended c.args.self.now c.append.new.self (vec_capacity c.self.inside.room) c.args.at c.args.part.now before (c.is_whole.ensures.0 c.if-not-is_whole.false).0 (omega (arith, c.requires.one)) c.append.ensures
