use Rattle.std.proofs.Common.{◌≡◌, ◌-◌, ◌<◌, min, ap, arith, length, take, refl}
use Rattle.std.proofs.lemmas.List.{length-take-le}
use Rattle.resident_media.specs.Blocks.{Kept}
use Rattle.resident_media.proofs.Kept.{holds_put}
use Rattle.resident_media.proofs.blocks.Blocks.put.Goals as goal

pub returns-clause-holds : goal.returns-clause-holds
returns-clause-holds c content fits holds =
    let at = c.args.at in
    let bytes = c.args.bytes.now in
    let count = c.min-count.result in
    let len : c.self.inside.len ≡ c.args.self.now.len = ap (λ (k : Kept). k.len) c.self.view_is in
    let far : at < c.args.self.now.len = omega (arith, c.if-at-self.false, len) in
    let few : count ≡ min (length bytes) (c.args.self.now.len - at) = omega (arith, c.min-count.ensures, len) in
    let long : length (take count bytes) ≡ count = length-take-le count bytes (omega (arith, few)) in
    holds_put at count (take count bytes) c.args.self.now c.put_all.new.self long c.put_all.ensures.len c.put_all.ensures.known c.put_all.ensures.bytes content bytes fits far few refl holds

pub returns-then-knows_one-clause-holds : goal.returns-then-knows_one-clause-holds
returns-then-knows_one-clause-holds c content fits holds =
    let at = c.args.at in
    let bytes = c.args.bytes.now in
    let count = c.min-count.result in
    let len : c.self.inside.len ≡ c.args.self.now.len = ap (λ (k : Kept). k.len) c.self.view_is in
    let far : at < c.args.self.now.len = omega (arith, c.if-at-self.false, len) in
    let few : count ≡ min (length bytes) (c.args.self.now.len - at) = omega (arith, c.min-count.ensures, len) in
    let long : length (take count bytes) ≡ count = length-take-le count bytes (omega (arith, few)) in
    holds_put at count (take count bytes) c.args.self.now c.put_one.new.self long c.put_one.ensures.len c.put_one.ensures.known c.put_one.ensures.bytes content bytes fits far few refl holds
