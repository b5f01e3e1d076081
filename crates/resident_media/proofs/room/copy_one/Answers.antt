use Rattle.std.proofs.Common.{◌≡◌, ◌+◌, ◌-◌, ℕ, List, ◌∙◌, ap, arith, length, get_or, take, drop}
use Rattle.mars_base.specs.Bytes.{range}
use Rattle.pcm_media.proofs.Ranges.{get_or-range}
use Rattle.resident_media.specs.Blocks.{spot}
use Rattle.resident_media.proofs.Spots.{spot_on}
use Rattle.resident_media.proofs.room.copy_one.Goals as goal

pub returns : goal.returns
returns c i lt =
    let room = c.args.room.now in
    let from = c.spot-from.result in
    let n = length c.args.buf.now in
    let count : from + n - from ≡ n = omega arith in
    let is : c.copy_from_slice.new.self ≡ range room from n = c.copy_from_slice.ensures.after ∙ ap (λ (k : ℕ). take k (drop from room)) count in
    let here : spot c.args.places.now (c.args.at + i) ≡ spot c.args.places.now c.args.at + i = spot_on c.args.places.now c.args.at i (omega (arith, lt, c.requires.one)) in
    ap (λ (l : List ℕ). get_or l i 0) is ∙ get_or-range room from n i lt ∙ ap (λ (k : ℕ). get_or room k 0) (omega (arith, here, c.spot-from.ensures))
