use Rattle.std.proofs.Common.{length, refl, sym, ◌∙◌, ap, arith}
use Rattle.array_shape.specs.Logged.{ranges_of}
use Rattle.eaw_face.specs.Command.{log_read}
use Rattle.eaw_face.specs.State.{range_at, part_at}
use Rattle.memory_eaw.specs.Plain.{Plain}
use Rattle.memory_eaw.specs.Shown.{plain_of}
use Rattle.mirror.specs.Log.{log_at}
use Rattle.memory_eaw.proofs.Doing.{log_len_is, ranges_is, parts_is}
use Rattle.memory_eaw.proofs.Commands.{does_looked}
use Rattle.memory_eaw.proofs.eaw.MemoryEawEawStore.log_read.Goals as goal

pub read_part-requires-clause-pos : goal.read_part-requires-clause-pos
read_part-requires-clause-pos c =
    let self = c.args.self.now in
    let known = c.in_ok-check_live.ensures.live.1 in
    omega (arith, c.requires known, log_len_is (plain_of self) self.sound c.args.tid known.small, ap (λ (p : Plain). length (log_at p.logs c.args.tid).parts) c.in_ok-call.ensures.done.1)

pub returns-clause-does : goal.returns-clause-does
returns-clause-does c =
    let self = c.args.self.now in
    let live = c.in_ok-check_live.ensures.live in
    does_looked c.read_part.result (plain_of self) (plain_of c.call.new.self) (log_read c.args.tid) (live.0, live.1, tt) c.in_ok-call.ensures.done.1 refl refl

pub returns-clause-part : goal.returns-clause-part
returns-clause-part c =
    let self = c.args.self.now in
    let known = c.in_ok-check_live.ensures.live.1 in
    c.read_part.ensures.range
    ∙ ap (λ (p : Plain). range_at (ranges_of (log_at p.logs c.args.tid).parts) c.args.pos) c.in_ok-call.ensures.done.1
    ∙ sym (ap (λ rs. range_at rs c.args.pos) (ranges_is (plain_of self) self.sound c.args.tid known.small))

pub returns-clause-bytes : goal.returns-clause-bytes
returns-clause-bytes c =
    let self = c.args.self.now in
    let known = c.in_ok-check_live.ensures.live.1 in
    c.read_part.ensures.bytes
    ∙ ap (λ (p : Plain). (part_at (log_at p.logs c.args.tid).parts c.args.pos).1) c.in_ok-call.ensures.done.1
    ∙ sym (ap (λ ps. (part_at ps c.args.pos).1) (parts_is (plain_of self) self.sound c.args.tid known.small))
