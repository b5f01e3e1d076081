use Rattle.std.proofs.Common.{◌≡◌, ◌∙◌, refl, arith}
use Rattle.std.proofs.lemmas.Result.{err_from_is_err_and}
use Rattle.eaw_face.specs.Command.{partial_abort}
use Rattle.eaw_face.specs.declared.fault.EawFault.TheVariants.{Media}
use Rattle.eaw_device.specs.Opens.{Opens}
use Rattle.eaw_device.specs.Sound.{view_of}
use Rattle.eaw_device.proofs.Doing.{lacking, lacking_other, found}
use Rattle.eaw_device.proofs.Commits.{its_len, abort_sound, partial_done}
use Rattle.eaw_device.proofs.device.EawEawStore.partial_abort.Goals as goal

pub returns-in_err-at : goal.returns-in_err-at
returns-in_err-at g c =
    let m = g.M.Media in
    let s = c.args.self.now in
    let store = view_of (m.view s.media) s.shape s.logs.items s.late s.is_dead in
    let fault = c.in_err-at.field-0.0 in
    let cause = c.in_err-at.ensures.cause in
    let p = err_from_is_err_and c.from_residual.result c.from_residual.ensures.1 in
    rw (p.1, p.2) (record {
      does = lacking m.tells (Opens s.shape) (partial_abort c.args.tid c.args.offset) store c.args.tid (λ u lacks is. (lacks, is)) fault cause;
      due = λ is. absurd (lacking_other store c.args.tid fault cause (let same : fault ≡ Media = cc in same));
      idle = refl;
      costs = record { done = λ exact. tt; most = omega arith };
      refused = refl;
    })

pub truncate-requires-clause-kept : goal.truncate-requires-clause-kept
truncate-requires-clause-kept g c =
    let m = g.M.Media in
    let s = c.args.self.now in
    (found m.tells (m.view s.media) s.shape s.logs.items s.late s.is_dead s.sound c.in_ok-at.ensures.alive c.args.tid c.in_ok-at.at c.index_mut.result.now c.in_ok-at.ensures.at c.in_ok-at.ensures.live c.index_mut.ensures.value).kept

pub invariant_of-self : goal.invariant_of-self
invariant_of-self g c =
    let m = g.M.Media in
    let s = c.args.self.now in
    let there = found m.tells (m.view s.media) s.shape s.logs.items s.late s.is_dead s.sound c.in_ok-at.ensures.alive c.args.tid c.in_ok-at.at c.index_mut.result.now c.in_ok-at.ensures.at c.in_ok-at.ensures.live c.index_mut.ensures.value in
    record {
      sound = abort_sound m.tells (m.view s.media) s.shape s.logs.items s.late s.is_dead s.sound c.in_ok-at.ensures.alive c.args.tid c.in_ok-at.ensures.live c.index_mut.result.now there
          c.truncate.new.self c.truncate.ensures.kept c.args.offset c.truncate.ensures.entries c.in_ok-at.at c.in_ok-at.ensures.at;
      depth = c.args.self.now.depth;
    }

pub returns-clause-does : goal.returns-clause-does
returns-clause-does g c =
    let m = g.M.Media in
    let s = c.args.self.now in
    let there = found m.tells (m.view s.media) s.shape s.logs.items s.late s.is_dead s.sound c.in_ok-at.ensures.alive c.args.tid c.in_ok-at.at c.index_mut.result.now c.in_ok-at.ensures.at c.in_ok-at.ensures.live c.index_mut.ensures.value in
    partial_done m.tells (m.view s.media) s.shape s.logs.items s.late s.is_dead s.sound c.in_ok-at.ensures.alive c.args.tid c.in_ok-at.ensures.live c.index_mut.result.now there
    c.truncate.new.self c.truncate.ensures.kept c.args.offset c.truncate.ensures.entries c.in_ok-at.at c.in_ok-at.ensures.at (c.truncate.ensures.live ∙ there.live)

pub truncate-requires-clause-len : goal.truncate-requires-clause-len
truncate-requires-clause-len g c =
    let m = g.M.Media in
    let s = c.args.self.now in
    let there = found m.tells (m.view s.media) s.shape s.logs.items s.late s.is_dead s.sound c.in_ok-at.ensures.alive c.args.tid c.in_ok-at.at c.index_mut.result.now c.in_ok-at.ensures.at c.in_ok-at.ensures.live c.index_mut.ensures.value in
    omega (arith, c.requires, its_len m.tells (m.view s.media) (m.view s.media) s.shape s.logs.items s.late s.is_dead s.sound c.in_ok-at.ensures.alive c.args.tid c.in_ok-at.ensures.live c.index_mut.result.now there)

pub returns-clause-due : goal.returns-clause-due
returns-clause-due g c = λ is. cc

pub returns-clause-idle : goal.returns-clause-idle
returns-clause-idle g c = refl

pub returns-clause-refused : goal.returns-clause-refused
returns-clause-refused g c = tt
