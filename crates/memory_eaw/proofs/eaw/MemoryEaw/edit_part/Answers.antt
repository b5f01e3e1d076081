use Rattle.std.proofs.Common.{◌<◌, length, sym, subst, arith}
use Rattle.memory_eaw.specs.Log.{IsSoundLog}
use Rattle.memory_eaw.specs.Shown.{plain_of}
use Rattle.memory_eaw.proofs.Sound.{sound_set, sound_read, sound_edited}
use Rattle.mirror.proofs.Parts.{log_is}
use Rattle.memory_eaw.proofs.eaw.MemoryEaw.edit_part.Goals as goal

pub invariant_of-self : goal.invariant_of-self
invariant_of-self c =
    let self = c.args.self.now in
    let log = c.index_mut.result.now in
    let lt : c.args.tid < length self.logs.items = omega (arith, self.sound.numbers) in
    let at : c.from.result < length self.logs.items = omega (arith, c.from.ensures) in
    let is = log_is self.logs.items c.args.tid c.from.result log lt c.from.ensures c.index_mut.ensures.value in
    let sound = sound_read self.shape self.logs.items c.from.result log self.sound.logs at c.index_mut.ensures.value in
    record {
      sound = sound_set (plain_of self) self.sound c.from.result c.edit.new.self
          (subst (IsSoundLog self.shape) (sym c.edit.ensures)
          (sound_edited self.shape log sound c.args.pos c.args.at c.args.bytes.now (rw (← is) at c.requires.pos) (rw (← is) at c.requires.within)));
    }
