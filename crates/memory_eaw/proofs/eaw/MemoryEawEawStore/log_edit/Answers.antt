use Rattle.std.proofs.Common.{◌+◌, ◌≤◌, length, ◌∙◌, ap, arith}
use Rattle.array_shape.specs.Logged.{ranges_of}
use Rattle.eaw_face.specs.State.{edited, range_at}
use Rattle.memory_eaw.specs.Plain.{Plain}
use Rattle.memory_eaw.specs.Shown.{plain_of}
use Rattle.mirror.specs.Log.{log_at}
use Rattle.memory_eaw.specs.Steps.{relogged}
use Rattle.memory_eaw.proofs.Doing.{log_len_is, ranges_is}
use Rattle.memory_eaw.proofs.Commands.{does_edited}
use Rattle.memory_eaw.proofs.eaw.MemoryEawEawStore.log_edit.Goals as goal

pub edit_part-requires-clause-pos : goal.edit_part-requires-clause-pos
edit_part-requires-clause-pos c =
    let self = c.args.self.now in
    let known = c.in_ok-check_live.ensures.live.1 in
    omega (arith, c.requires.pos known, log_len_is (plain_of self) self.sound c.args.tid known.small, ap (λ (p : Plain). length (log_at p.logs c.args.tid).parts) c.in_ok-call.ensures.done.1)

pub edit_part-requires-clause-within : goal.edit_part-requires-clause-within
edit_part-requires-clause-within c =
    let self = c.args.self.now in
    let known = c.in_ok-check_live.ensures.live.1 in
    omega (
      arith,
      c.requires.within known,
      ap (λ rs. (range_at rs c.args.pos).1) (ranges_is (plain_of self) self.sound c.args.tid known.small),
      ap (λ (p : Plain). (range_at (ranges_of (log_at p.logs c.args.tid).parts) c.args.pos).1) c.in_ok-call.ensures.done.1,
    )

pub returns-clause-does : goal.returns-clause-does
returns-clause-does c =
    let self = c.args.self.now in
    let known = c.in_ok-check_live.ensures.live.1 in
    let within : c.args.at + length c.args.bytes.now ≤ (range_at (ranges_of (log_at self.logs.items c.args.tid).parts) c.args.pos).1 =
    omega (arith, c.requires.within known, ap (λ rs. (range_at rs c.args.pos).1) (ranges_is (plain_of self) self.sound c.args.tid known.small)) in
    does_edited (plain_of self) self.sound c.args.tid known.small c.in_ok-check_live.ensures.live.0 (plain_of c.edit_part.new.self) known c.args.pos c.args.at c.args.bytes.now within
    (c.edit_part.ensures ∙ ap (λ (p : Plain). relogged c.args.tid (log_at p.logs c.args.tid).is_live (edited c.args.pos c.args.at c.args.bytes.now (log_at p.logs c.args.tid).parts) p) c.in_ok-call.ensures.done.1)
