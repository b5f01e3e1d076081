use Rattle.std.proofs.Common.{ℕ, suc, ◌≡◌, ◌∷◌, ◌-◌, arith, subst}
use Rattle.std.specs.Prelude.{◌↔◌}
use Rattle.mirror.specs.Rest.{BytesRest, IsPartsRest}
use Rattle.mirror.proofs.Numbers.{byte_more, byte_last, both_ways}
use Rattle.mirror.proofs.place.take_byte.Goals as goal

pub returns-then-left-gt1-clause-same : goal.returns-then-left-gt1-clause-same
returns-then-left-gt1-clause-same c shape shaped bytes =
    let is : suc (c.args.left - 1) ≡ c.args.left = omega (arith, c.if-left-gt1.true) in
    subst (λ (n : ℕ). BytesRest n (IsPartsRest shape c.args.parts) (c.args.byte ∷ bytes) ↔ BytesRest (c.args.left - 1) (IsPartsRest shape c.args.parts) bytes) is
    (byte_more (IsPartsRest shape c.args.parts) (c.args.left - 1) c.args.byte bytes c.ranges.byte.fits)

pub returns-clause-same : goal.returns-clause-same
returns-clause-same c shape shaped bytes =
    let is : 1 ≡ c.args.left = omega (arith, c.if-left-gt1.false, c.requires) in
    both_ways
    (subst (λ (n : ℕ). BytesRest n (IsPartsRest shape c.args.parts) (c.args.byte ∷ bytes) ↔ IsPartsRest shape c.args.parts bytes) is
    (byte_last (IsPartsRest shape c.args.parts) c.args.byte bytes c.ranges.byte.fits))
    (c.after_part.ensures.same shape shaped bytes)

pub returns-then-left-gt1-clause-ready : goal.returns-then-left-gt1-clause-ready
returns-then-left-gt1-clause-ready c shape entries = (omega (arith, c.if-left-gt1.true), entries)
