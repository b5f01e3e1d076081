use Rattle.std.proofs.Common.{refl, ◌≡◌, ◌∙◌, ℕ, List, length, take, drop, sym, ap, arith}
use Rattle.array_shape.specs.declared.shape.Shape.{Shape}
use Rattle.array_shape.specs.Places.{logger_of}
use Rattle.array_shape.specs.Logged.{Part}
use Rattle.array_image.specs.Image.{cell_of, cell_head}
use Rattle.eaw_face.specs.State.{range_at, part_at}
use Rattle.std.proofs.lemmas.Result.{err_from_is_err_and}
use Rattle.eaw_face.specs.Command.{log_read}
use Rattle.eaw_device.specs.Opens.{Opens}
use Rattle.eaw_device.specs.Sound.{view_of}
use Rattle.write_back.specs.Entries.{parts_in}
use Rattle.eaw_device.proofs.Doing.{lacking, found}
use Rattle.eaw_device.proofs.Tables.{parts_there}
use Rattle.eaw_device.proofs.Looks.{look_len, look_range, look_kept, entry_range, entry_part, entry_inside, entry_page, read_sound, log_read_done, log_read_failed}
use Rattle.eaw_device.proofs.Edits.{range_at-ranges_of, take_part}
use Rattle.eaw_device.proofs.Steady.{steady}
use Rattle.eaw_device.proofs.device.EawEawStore.log_read.Goals as goal

pub returns-in_err-at : goal.returns-in_err-at
returns-in_err-at g c =
    let m = g.M.Media in
    let s = c.args.self.now in
    let store = view_of (m.view s.media) s.shape s.logs.items s.late s.is_dead in
    let fault = c.in_err-at.field-0.0 in
    let cause = c.in_err-at.ensures.cause in
    let p = err_from_is_err_and c.from_residual.result c.from_residual.ensures.1 in
    rw (p.1, p.2) (record {
      does = lacking m.tells (Opens s.shape) (log_read c.args.tid) store c.args.tid (λ u lacks is. (lacks, is)) fault cause;
      part = tt;
      bytes = λ told. tt;
      costs = record { done = λ exact. tt; most = omega arith };
      steady = tt;
      refused = λ ne. refl;
      unread = λ ne. refl;
    })

pub index-entry-requires : goal.index-entry-requires
index-entry-requires g c =
    let m = g.M.Media in
    let s = c.args.self.now in
    let len = look_len m.tells (m.view s.media) s.shape s.logs.items s.late s.is_dead s.sound c.args.tid c.in_ok-at.at c.index.result.now c.in_ok-at.ensures.live.small c.in_ok-at.ensures.at c.index.ensures in
    omega (arith, c.requires c.in_ok-at.ensures.live, c.index.result.now.entries.ok.0, len)

pub place-requires : goal.place-requires
place-requires g c =
    let m = g.M.Media in
    let s = c.args.self.now in
    let len = look_len m.tells (m.view s.media) s.shape s.logs.items s.late s.is_dead s.sound c.args.tid c.in_ok-at.at c.index.result.now c.in_ok-at.ensures.live.small c.in_ok-at.ensures.at c.index.ensures in
    let kept = look_kept m.tells (m.view s.media) s.shape s.logs.items s.late s.is_dead s.sound c.args.tid c.in_ok-at.at c.index.result.now c.in_ok-at.ensures.live.small c.in_ok-at.ensures.at c.index.ensures in
    let page = entry_page s.shape s.sound.shaped c.index.result.now kept c.args.pos c.index-entry.result.now (omega (arith, c.requires c.in_ok-at.ensures.live, len)) c.index-entry.ensures in
    omega (arith, page.inside, page.some)

pub read_entry-requires-clause-entry : goal.read_entry-requires-clause-entry
read_entry-requires-clause-entry g c =
    let m = g.M.Media in
    let s = c.args.self.now in
    let len = look_len m.tells (m.view s.media) s.shape s.logs.items s.late s.is_dead s.sound c.args.tid c.in_ok-at.at c.index.result.now c.in_ok-at.ensures.live.small c.in_ok-at.ensures.at c.index.ensures in
    let kept = look_kept m.tells (m.view s.media) s.shape s.logs.items s.late s.is_dead s.sound c.args.tid c.in_ok-at.at c.index.result.now c.in_ok-at.ensures.live.small c.in_ok-at.ensures.at c.index.ensures in
    let inside = entry_inside s.shape s.sound.shaped c.index.result.now kept c.args.pos c.index-entry.result.now (omega (arith, c.requires c.in_ok-at.ensures.live, len)) c.index-entry.ensures in
    omega (arith, inside, ap (λ (shape : Shape). shape.entries) c.new-logger.ensures.shape)

pub invariant_of-self : goal.invariant_of-self
invariant_of-self g c =
    let m = g.M.Media in
    let s = c.args.self.now in
    record { sound = read_sound m.tells (m.view s.media) (m.view c.read_entry.new.media) s.shape s.logs.items s.late s.is_dead s.sound c.in_ok-at.ensures.alive _ c.in-Ok.ensures.does (λ told. g.met.M.Media.long s.media told ∙ s.sound.sized); depth = c.args.self.now.depth }

pub returns-in-Ok-clause-does : goal.returns-in-Ok-clause-does
returns-in-Ok-clause-does g c =
    let m = g.M.Media in
    let s = c.args.self.now in
    log_read_done m.tells (m.view s.media) (m.view c.read_entry.new.media) s.shape s.logs.items s.late s.is_dead s.sound c.in_ok-at.ensures.alive _ c.in-Ok.ensures.does (λ told. g.met.M.Media.long s.media told ∙ s.sound.sized)
    c.args.tid c.in_ok-at.ensures.live (c.index-entry.result.now.addr, c.index-entry.result.now.len) c.in-Ok.ensures.does.cause.kept

pub returns-in-Ok-clause-part : goal.returns-in-Ok-clause-part
returns-in-Ok-clause-part g c =
    let m = g.M.Media in
    let s = c.args.self.now in
    let len = look_len m.tells (m.view s.media) s.shape s.logs.items s.late s.is_dead s.sound c.args.tid c.in_ok-at.at c.index.result.now c.in_ok-at.ensures.live.small c.in_ok-at.ensures.at c.index.ensures in
    look_range m.tells (m.view s.media) s.shape s.logs.items s.late s.is_dead s.sound c.args.tid c.in_ok-at.at c.index.result.now c.in_ok-at.ensures.live.small c.in_ok-at.ensures.at c.index.ensures c.args.pos c.index-entry.result.now
    (omega (arith, c.requires c.in_ok-at.ensures.live, len)) c.index-entry.ensures

pub returns-in-Ok-clause-bytes : goal.returns-in-Ok-clause-bytes
returns-in-Ok-clause-bytes g c = λ told.
    let m = g.M.Media in
    let s = c.args.self.now in
    let image = (m.view s.media).content.bytes in
    let e = c.index-entry.result.now in
    let there = found m.tells (m.view s.media) s.shape s.logs.items s.late s.is_dead s.sound c.in_ok-at.ensures.alive c.args.tid c.in_ok-at.at c.index.result.now c.in_ok-at.ensures.at c.in_ok-at.ensures.live c.index.ensures in
    let len = look_len m.tells (m.view s.media) s.shape s.logs.items s.late s.is_dead s.sound c.args.tid c.in_ok-at.at c.index.result.now c.in_ok-at.ensures.live.small c.in_ok-at.ensures.at c.index.ensures in
    let items = c.index.result.now.entries.items in
    let number : c.new-logger.result.number ≡ logger_of s.shape e.addr = c.new-logger.ensures.number ∙ c.place.ensures.logger in
    let cell = cell_of s.shape image (logger_of s.shape e.addr) c.args.tid e.cell in
    let part = entry_part s.shape image c.args.tid items c.args.pos e (omega (arith, c.requires c.in_ok-at.ensures.live, len)) c.index-entry.ensures in
    let range = entry_range items c.args.pos e (omega (arith, c.requires c.in_ok-at.ensures.live, len)) c.index-entry.ensures ∙ ap (λ (rs : List (ℕ × ℕ)). range_at rs c.args.pos) (sym (there.held told).heads)
    ∙ range_at-ranges_of (parts_in s.shape image c.args.tid items) c.args.pos in
    let many : e.len ≡ length (take (cell_head cell).len (drop 16 cell)) = ap (λ (r : ℕ × ℕ). r.1) range ∙ ap (λ (p : Part). length p.1) part in
    ap (take e.len) (c.in-Ok.ensures.bytes told ∙ (λ i. drop 16 (cell_of (c.new-logger.ensures.shape i) image (number i) c.args.tid e.cell)))
    ∙ take_part e.len (cell_head cell).len (drop 16 cell) many
    ∙ ap (λ (p : Part). p.1) (sym part ∙ ap (λ (ps : List Part). part_at ps c.args.pos) (sym (parts_there s.shape s.logs.items c.args.tid c.index.result.now there.there there.kept image)))

pub returns-in-Err-clause-does : goal.returns-in-Err-clause-does
returns-in-Err-clause-does g c =
    let m = g.M.Media in
    let s = c.args.self.now in
    log_read_failed m.tells (m.view s.media) (m.view c.read_entry.new.media) s.shape s.logs.items s.late s.is_dead s.sound c.in_ok-at.ensures.alive _ c.in-Err.ensures.does (λ told. g.met.M.Media.long s.media told ∙ s.sound.sized)
    c.args.tid c.in_ok-at.ensures.live c.in-Err.ensures.does.cause.failed

pub returns-in-Ok-clause-refused : goal.returns-in-Ok-clause-refused
returns-in-Ok-clause-refused g c = tt

pub returns-in-Ok-clause-unread : goal.returns-in-Ok-clause-unread
returns-in-Ok-clause-unread g c = tt

pub returns-in-Err-clause-part : goal.returns-in-Err-clause-part
returns-in-Err-clause-part g c = tt

pub returns-in-Err-clause-bytes : goal.returns-in-Err-clause-bytes
returns-in-Err-clause-bytes g c = λ told. tt

pub returns-in-Err-clause-refused : goal.returns-in-Err-clause-refused
returns-in-Err-clause-refused g c = λ ne. absurd (ne refl)

pub returns-in-Err-clause-unread : goal.returns-in-Err-clause-unread
returns-in-Err-clause-unread g c = λ ne. absurd (ne refl)

pub returns-in-Ok-clause-steady : goal.returns-in-Ok-clause-steady
returns-in-Ok-clause-steady g c =
    let m = g.M.Media in
    let s = c.args.self.now in
    steady (m.view s.media) (m.view c.read_entry.new.media) s.shape s.logs.items s.late s.is_dead

pub returns-in-Err-clause-steady : goal.returns-in-Err-clause-steady
returns-in-Err-clause-steady g c = tt
