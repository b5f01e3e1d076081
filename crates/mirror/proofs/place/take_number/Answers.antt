use Rattle.std.proofs.Common.{◌≡◌, ◌+◌, arith}
use Rattle.mirror.specs.Rest.{AfterPartCount, behind}
use Rattle.mirror.proofs.Numbers.{number_whole, first_same}
use Rattle.mirror.proofs.Parting.{rise_most}
use Rattle.mirror.proofs.place.take_number.Goals as goal

pub returns-then-from : goal.returns-then-from
returns-then-from c bytes r =
    let same : c.args.byte ≡ r.number = first_same c.args.byte r.number bytes r.rest r.is in
    let groups = (number_whole (AfterPartCount c.args.shape (behind c.args.groups r.number)) 2 r.rest r.after).1.after in
    let most = rise_most c.args.shape (r.number + 1) groups.list (omega (arith, r.most)) groups.rise groups.good in
    omega (arith, most, groups.count, same, c.if-from.true, c.from.ensures, c.from-2.ensures, c.from-3.ensures)
