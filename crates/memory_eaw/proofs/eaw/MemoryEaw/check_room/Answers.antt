use Rattle.std.proofs.Common.{◌≡◌, ◌<◌, length, refl, sym, ◌∙◌, ap, arith, below_more}
use Rattle.array_shape.specs.Parts.{parts_of_write}
use Rattle.array_shape.specs.Logged.{ranges_of}
use Rattle.eaw_face.specs.State.{listed, count_on}
use Rattle.mirror.specs.Log.{Log}
use Rattle.memory_eaw.specs.Shown.{shown}
use Rattle.mirror.proofs.Parts.{count_on-write}
use Rattle.mirror.proofs.Parts.{log_is}
use Rattle.eaw_face.proofs.Rooms.{unfit_told}
use Rattle.memory_eaw.proofs.Views.{ranges_are}
use Rattle.memory_eaw.proofs.eaw.MemoryEaw.check_room.Goals as goal
use Rattle.memory_eaw.proofs.eaw.MemoryEaw.check_room.Goals.{After-count_range-needed}

module _ (c : After-count_range-needed) where
  lt : c.args.tid < length c.args.self.now.logs.items
  lt = omega (arith, c.args.self.now.sound.numbers)

  held : c.count_on-held.result ≡ count_on c.args.self.now.shape c.loop-logger.logger (listed ((shown c.args.self.now).ranges c.args.tid))
  held =
      c.count_on-held.ensures
      ∙ ap (λ (log : Log). count_on c.args.self.now.shape c.loop-logger.logger (ranges_of log.parts)) (log_is c.args.self.now.logs.items c.args.tid c.from.result c.index-log.result.now lt c.from.ensures c.index-log.ensures)
      ∙ sym (ap (count_on c.args.self.now.shape c.loop-logger.logger) (ranges_are c.args.self.now.shape c.args.self.now.logs.items c.args.self.now.sound.logs c.args.tid lt))

  needed : c.count_range-needed.result ≡ count_on c.args.self.now.shape c.loop-logger.logger (ranges_of (parts_of_write c.args.addr c.args.bytes.now))
  needed = c.count_range-needed.ensures ∙ sym (count_on-write c.args.self.now.shape c.loop-logger.logger c.args.addr c.args.bytes.now)

pub returns-then-from-clause-full : goal.returns-then-from-clause-full
returns-then-from-clause-full c =
    let at = (goal.at.returns-then-from-clause-full c).After-count_range-needed in
    record {
      g = c.loop-logger.logger;
      h = c.count_on-held.result;
      n = c.count_range-needed.result;
      fault_is = refl;
      first = unfit_told c.args.self.now.shape (listed ((shown c.args.self.now).ranges c.args.tid)) (ranges_of (parts_of_write c.args.addr c.args.bytes.now)) c.loop-logger.logger c.count_on-held.result c.count_range-needed.result
          (record { logger = omega arith; held_is = held at; needed_is = needed at; full = omega arith; before = c.loop-logger.invariant });
    }

pub loop-logger-preserved : goal.loop-logger-preserved
loop-logger-preserved c =
    let at = (goal.at.loop-logger-preserved c).After-count_range-needed in
    below_more _ _ c.loop-logger.invariant (omega (arith, held at, needed at))
