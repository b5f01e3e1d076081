use Rattle.std.proofs.Common.{refl, ◌∙◌, ℕ, ◌+◌, ◌<◌, ◌≤◌, length, ap, arith}
use Rattle.array_shape.specs.declared.shape.Shape.{Shape}
use Rattle.std.proofs.lemmas.Result.{err_from_is_err_and}
use Rattle.eaw_face.specs.Command.{log_edit}
use Rattle.eaw_device.specs.Opens.{Opens}
use Rattle.eaw_device.specs.Sound.{view_of}
use Rattle.eaw_device.proofs.Doing.{lacking, found}
use Rattle.eaw_device.proofs.Looks.{look_len, look_range, look_kept, entry_inside, entry_page}
use Rattle.eaw_device.proofs.Edits.{edit_sound, edit_done, edit_failed}
use Rattle.eaw_device.proofs.device.EawEawStore.log_edit.Goals as goal

pub returns-in_err-number : goal.returns-in_err-number
returns-in_err-number g c =
    let m = g.M.Media in
    let s = c.args.self.now in
    let store = view_of (m.view s.media) s.shape s.logs.items s.late s.is_dead in
    let fault = c.in_err-number.field-0.0 in
    let cause = c.in_err-number.ensures.cause in
    let p = err_from_is_err_and c.from_residual.result c.from_residual.ensures.1 in
    rw (p.1, p.2) (record {
      does = lacking m.tells (Opens s.shape) (log_edit c.args.tid c.args.pos c.args.at c.args.bytes.now) store c.args.tid (λ u lacks is. (lacks, is)) fault cause;
      costs = record { done = λ exact. tt; most = omega arith };
      refused = λ ne. refl;
    })

pub index-entry-requires : goal.index-entry-requires
index-entry-requires g c =
    let m = g.M.Media in
    let s = c.args.self.now in
    let len = look_len m.tells (m.view s.media) s.shape s.logs.items s.late s.is_dead s.sound c.args.tid c.in_ok-number.number c.index.result.now c.in_ok-number.ensures.live.small c.in_ok-number.ensures.at c.index.ensures in
    omega (arith, c.requires.pos c.in_ok-number.ensures.live, c.index.result.now.entries.ok.0, len)

pub place-requires : goal.place-requires
place-requires g c =
    let m = g.M.Media in
    let s = c.args.self.now in
    let len = look_len m.tells (m.view s.media) s.shape s.logs.items s.late s.is_dead s.sound c.args.tid c.in_ok-number.number c.index.result.now c.in_ok-number.ensures.live.small c.in_ok-number.ensures.at c.index.ensures in
    let kept = look_kept m.tells (m.view s.media) s.shape s.logs.items s.late s.is_dead s.sound c.args.tid c.in_ok-number.number c.index.result.now c.in_ok-number.ensures.live.small c.in_ok-number.ensures.at c.index.ensures in
    let page = entry_page s.shape s.sound.shaped c.index.result.now kept c.args.pos c.index-entry.result.now (omega (arith, c.requires.pos c.in_ok-number.ensures.live, len)) c.index-entry.ensures in
    omega (arith, page.inside, page.some)

pub edit-requires-clause-entry : goal.edit-requires-clause-entry
edit-requires-clause-entry g c =
    let m = g.M.Media in
    let s = c.args.self.now in
    let len = look_len m.tells (m.view s.media) s.shape s.logs.items s.late s.is_dead s.sound c.args.tid c.in_ok-number.number c.index.result.now c.in_ok-number.ensures.live.small c.in_ok-number.ensures.at c.index.ensures in
    let kept = look_kept m.tells (m.view s.media) s.shape s.logs.items s.late s.is_dead s.sound c.args.tid c.in_ok-number.number c.index.result.now c.in_ok-number.ensures.live.small c.in_ok-number.ensures.at c.index.ensures in
    let inside = entry_inside s.shape s.sound.shaped c.index.result.now kept c.args.pos c.index-entry.result.now (omega (arith, c.requires.pos c.in_ok-number.ensures.live, len)) c.index-entry.ensures in
    omega (arith, inside, ap (λ (shape : Shape). shape.entries) c.new-logger.ensures.shape)

pub overflow_cast-at : goal.overflow_cast-at
overflow_cast-at g c =
    let m = g.M.Media in
    let s = c.args.self.now in
    let e = c.index-entry.result.now in
    let there = found m.tells (m.view s.media) s.shape s.logs.items s.late s.is_dead s.sound c.in_ok-number.ensures.alive c.args.tid c.in_ok-number.number c.index.result.now c.in_ok-number.ensures.at c.in_ok-number.ensures.live c.index.ensures in
    let len = look_len m.tells (m.view s.media) s.shape s.logs.items s.late s.is_dead s.sound c.args.tid c.in_ok-number.number c.index.result.now c.in_ok-number.ensures.live.small c.in_ok-number.ensures.at c.index.ensures in
    let lt : c.args.pos < length c.index.result.now.entries.items = omega (arith, c.requires.pos c.in_ok-number.ensures.live, len) in
    let range = look_range m.tells (m.view s.media) s.shape s.logs.items s.late s.is_dead s.sound c.args.tid c.in_ok-number.number c.index.result.now c.in_ok-number.ensures.live.small c.in_ok-number.ensures.at c.index.ensures c.args.pos c.index-entry.result.now lt c.index-entry.ensures in
    let page = entry_page s.shape s.sound.shaped c.index.result.now there.kept c.args.pos c.index-entry.result.now lt c.index-entry.ensures in
    let inner : c.args.at + length c.args.bytes.now ≤ e.len = omega (arith, c.requires.within c.in_ok-number.ensures.live, ap (λ (r : ℕ × ℕ). r.1) range) in
    omega (arith, inner, page.page)

pub edit-requires-clause-within : goal.edit-requires-clause-within
edit-requires-clause-within g c =
    let m = g.M.Media in
    let s = c.args.self.now in
    let e = c.index-entry.result.now in
    let there = found m.tells (m.view s.media) s.shape s.logs.items s.late s.is_dead s.sound c.in_ok-number.ensures.alive c.args.tid c.in_ok-number.number c.index.result.now c.in_ok-number.ensures.at c.in_ok-number.ensures.live c.index.ensures in
    let len = look_len m.tells (m.view s.media) s.shape s.logs.items s.late s.is_dead s.sound c.args.tid c.in_ok-number.number c.index.result.now c.in_ok-number.ensures.live.small c.in_ok-number.ensures.at c.index.ensures in
    let lt : c.args.pos < length c.index.result.now.entries.items = omega (arith, c.requires.pos c.in_ok-number.ensures.live, len) in
    let range = look_range m.tells (m.view s.media) s.shape s.logs.items s.late s.is_dead s.sound c.args.tid c.in_ok-number.number c.index.result.now c.in_ok-number.ensures.live.small c.in_ok-number.ensures.at c.index.ensures c.args.pos c.index-entry.result.now lt c.index-entry.ensures in
    let page = entry_page s.shape s.sound.shaped c.index.result.now there.kept c.args.pos c.index-entry.result.now lt c.index-entry.ensures in
    let inner : c.args.at + length c.args.bytes.now ≤ e.len = omega (arith, c.requires.within c.in_ok-number.ensures.live, ap (λ (r : ℕ × ℕ). r.1) range) in
    omega (arith, inner, page.page)

pub invariant_of-self : goal.invariant_of-self
invariant_of-self g c =
    let m = g.M.Media in
    let s = c.args.self.now in
    let e = c.index-entry.result.now in
    let there = found m.tells (m.view s.media) s.shape s.logs.items s.late s.is_dead s.sound c.in_ok-number.ensures.alive c.args.tid c.in_ok-number.number c.index.result.now c.in_ok-number.ensures.at c.in_ok-number.ensures.live c.index.ensures in
    let len = look_len m.tells (m.view s.media) s.shape s.logs.items s.late s.is_dead s.sound c.args.tid c.in_ok-number.number c.index.result.now c.in_ok-number.ensures.live.small c.in_ok-number.ensures.at c.index.ensures in
    let lt : c.args.pos < length c.index.result.now.entries.items = omega (arith, c.requires.pos c.in_ok-number.ensures.live, len) in
    let range = look_range m.tells (m.view s.media) s.shape s.logs.items s.late s.is_dead s.sound c.args.tid c.in_ok-number.number c.index.result.now c.in_ok-number.ensures.live.small c.in_ok-number.ensures.at c.index.ensures c.args.pos c.index-entry.result.now lt c.index-entry.ensures in
    let page = entry_page s.shape s.sound.shaped c.index.result.now there.kept c.args.pos c.index-entry.result.now lt c.index-entry.ensures in
    let inner : c.args.at + length c.args.bytes.now ≤ e.len = omega (arith, c.requires.within c.in_ok-number.ensures.live, ap (λ (r : ℕ × ℕ). r.1) range) in
    record {
      sound = edit_sound m.tells (m.view s.media) (m.view c.edit.new.media) s.shape s.logs.items s.late s.is_dead s.sound c.in_ok-number.ensures.alive c.args.tid c.in_ok-number.ensures.live
          c.index.result.now there c.args.pos e lt c.index-entry.ensures c.args.at c.args.bytes.now inner (omega (arith, page.page)) c.new-logger.result.shape c.new-logger.ensures.shape c.new-logger.result.number (c.new-logger.ensures.number ∙ c.place.ensures.logger)
          _ c.in-Ok.ensures.does (λ told. g.met.M.Media.long s.media told ∙ s.sound.sized) c.in-Ok.ensures.cell;
      depth = c.args.self.now.depth;
    }

pub returns-in-Ok-clause-does : goal.returns-in-Ok-clause-does
returns-in-Ok-clause-does g c =
    let m = g.M.Media in
    let s = c.args.self.now in
    let e = c.index-entry.result.now in
    let there = found m.tells (m.view s.media) s.shape s.logs.items s.late s.is_dead s.sound c.in_ok-number.ensures.alive c.args.tid c.in_ok-number.number c.index.result.now c.in_ok-number.ensures.at c.in_ok-number.ensures.live c.index.ensures in
    let len = look_len m.tells (m.view s.media) s.shape s.logs.items s.late s.is_dead s.sound c.args.tid c.in_ok-number.number c.index.result.now c.in_ok-number.ensures.live.small c.in_ok-number.ensures.at c.index.ensures in
    let lt : c.args.pos < length c.index.result.now.entries.items = omega (arith, c.requires.pos c.in_ok-number.ensures.live, len) in
    let range = look_range m.tells (m.view s.media) s.shape s.logs.items s.late s.is_dead s.sound c.args.tid c.in_ok-number.number c.index.result.now c.in_ok-number.ensures.live.small c.in_ok-number.ensures.at c.index.ensures c.args.pos c.index-entry.result.now lt c.index-entry.ensures in
    let page = entry_page s.shape s.sound.shaped c.index.result.now there.kept c.args.pos c.index-entry.result.now lt c.index-entry.ensures in
    let inner : c.args.at + length c.args.bytes.now ≤ e.len = omega (arith, c.requires.within c.in_ok-number.ensures.live, ap (λ (r : ℕ × ℕ). r.1) range) in
    edit_done m.tells (m.view s.media) (m.view c.edit.new.media) s.shape s.logs.items s.late s.is_dead s.sound c.in_ok-number.ensures.alive c.args.tid c.in_ok-number.ensures.live
    c.index.result.now there c.args.pos e lt c.index-entry.ensures c.args.at c.args.bytes.now inner (omega (arith, page.page)) c.new-logger.result.shape c.new-logger.ensures.shape c.new-logger.result.number (c.new-logger.ensures.number ∙ c.place.ensures.logger)
    _ c.in-Ok.ensures.does (λ told. g.met.M.Media.long s.media told ∙ s.sound.sized) c.in-Ok.ensures.cell tt c.in-Ok.ensures.does.cause.kept

pub returns-in-Err-clause-does : goal.returns-in-Err-clause-does
returns-in-Err-clause-does g c =
    let m = g.M.Media in
    let s = c.args.self.now in
    let e = c.index-entry.result.now in
    let there = found m.tells (m.view s.media) s.shape s.logs.items s.late s.is_dead s.sound c.in_ok-number.ensures.alive c.args.tid c.in_ok-number.number c.index.result.now c.in_ok-number.ensures.at c.in_ok-number.ensures.live c.index.ensures in
    let len = look_len m.tells (m.view s.media) s.shape s.logs.items s.late s.is_dead s.sound c.args.tid c.in_ok-number.number c.index.result.now c.in_ok-number.ensures.live.small c.in_ok-number.ensures.at c.index.ensures in
    let lt : c.args.pos < length c.index.result.now.entries.items = omega (arith, c.requires.pos c.in_ok-number.ensures.live, len) in
    let range = look_range m.tells (m.view s.media) s.shape s.logs.items s.late s.is_dead s.sound c.args.tid c.in_ok-number.number c.index.result.now c.in_ok-number.ensures.live.small c.in_ok-number.ensures.at c.index.ensures c.args.pos c.index-entry.result.now lt c.index-entry.ensures in
    let page = entry_page s.shape s.sound.shaped c.index.result.now there.kept c.args.pos c.index-entry.result.now lt c.index-entry.ensures in
    let inner : c.args.at + length c.args.bytes.now ≤ e.len = omega (arith, c.requires.within c.in_ok-number.ensures.live, ap (λ (r : ℕ × ℕ). r.1) range) in
    edit_failed m.tells (m.view s.media) (m.view c.edit.new.media) s.shape s.logs.items s.late s.is_dead s.sound c.in_ok-number.ensures.alive c.args.tid c.in_ok-number.ensures.live
    c.index.result.now there c.args.pos e lt c.index-entry.ensures c.args.at c.args.bytes.now inner (omega (arith, page.page)) c.new-logger.result.shape c.new-logger.ensures.shape c.new-logger.result.number (c.new-logger.ensures.number ∙ c.place.ensures.logger)
    _ c.in-Err.ensures.does (λ told. g.met.M.Media.long s.media told ∙ s.sound.sized) c.in-Err.ensures.does.cause.failed

pub returns-in-Ok-clause-refused : goal.returns-in-Ok-clause-refused
returns-in-Ok-clause-refused g c = tt

pub returns-in-Err-clause-refused : goal.returns-in-Err-clause-refused
returns-in-Err-clause-refused g c = λ ne. absurd (ne refl)
