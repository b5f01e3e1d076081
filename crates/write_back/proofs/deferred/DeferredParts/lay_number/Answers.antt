use Rattle.std.proofs.Common.{◌≡◌, ◌/◌, Bool, true, cond, List, [], length, sym, ◌∙◌, subst, arith}
use Rattle.std.specs.Prelude.{All, OnOk, count_by}
use Rattle.std.proofs.lemmas.Bool.{and_cases, and_parts}
use Rattle.mars_base.specs.Bytes.{range}
use Rattle.mars_base.specs.Costs.{Costs}
use Rattle.array_shape.specs.Logged.{applied, ranges_of}
use Rattle.array_shape.specs.NumberSet.{has}
use Rattle.write_back.specs.declared.entry.Entry.{Entry}
use Rattle.write_back.specs.Entries.{IsEntry, parts_in, ranges_in}
use Rattle.write_back.specs.Kept.{lies_on}
use Rattle.write_back.specs.Shown.{entries_of}
use Rattle.write_back.specs.Reading.{meets}
use Rattle.mars_base.proofs.Costing.{costs_all}
use Rattle.write_back.proofs.Away.{number_away, number_count}
use Rattle.write_back.proofs.Keeping.{has_place, read_at}
use Rattle.write_back.proofs.deferred.DeferredParts.lay_number.Goals as goal

pub returns-then-not-has-clause-bytes : goal.returns-then-not-has-clause-bytes
returns-then-not-has-clause-bytes g c told whole long was =
    let s = c.args.self.now in
    let image = (g.M.Media.view c.args.media.now).content.bytes in
    let off = and_cases (lies_on (c.args.addr / 512) (entries_of s c.args.tid)) (has c.args.group c.args.tid) (sym c.requires.numbers ∙ sym c.has.ensures ∙ c.if-not-has.true) in
    was ∙ sym (number_away s.shape image (entries_of s) (c.requires.held told) s.kept.entries c.args.addr (length c.args.buf.now) c.requires.page.page c.args.group c.args.tid whole c.requires.tid long off)

pub returns-then-not-has-clause-costs : goal.returns-then-not-has-clause-costs
returns-then-not-has-clause-costs g c =
    let s = c.args.self.now in
    let off = and_cases (lies_on (c.args.addr / 512) (entries_of s c.args.tid)) (has c.args.group c.args.tid) (sym c.requires.numbers ∙ sym c.has.ensures ∙ c.if-not-has.true) in
    costs_all true _ _ _ _ (omega (arith, number_count s.shape (entries_of s) s.kept.entries c.args.addr (length c.args.buf.now) c.requires.page.page c.args.group c.args.tid off))

-- the number has a part on the page, and is of the group
pub index-requires : goal.index-requires
index-requires g c =
    let s = c.args.self.now in
    let both = and_parts (lies_on (c.args.addr / 512) (entries_of s c.args.tid)) (has c.args.group c.args.tid) (sym c.requires.numbers ∙ sym c.has.ensures ∙ c.if-not-has.false) in
    omega (arith, has_place s.table.items c.args.tid (c.args.addr / 512) both.0, c.from.ensures, s.table.ok.0)

pub lay_entries-requires-clause-entries : goal.lay_entries-requires-clause-entries
lay_entries-requires-clause-entries g c =
    let s = c.args.self.now in
    let both = and_parts (lies_on (c.args.addr / 512) (entries_of s c.args.tid)) (has c.args.group c.args.tid) (sym c.requires.numbers ∙ sym c.has.ensures ∙ c.if-not-has.false) in
    let es = c.deref.ensures.value ∙ read_at s.table.items c.from.result c.args.tid c.index.result.now c.from.ensures (has_place s.table.items c.args.tid (c.args.addr / 512) both.0) c.index.ensures in
    subst (All (IsEntry s.shape)) (sym es) (s.kept.entries c.args.tid)

pub lay_entries-requires-clause-held : goal.lay_entries-requires-clause-held
lay_entries-requires-clause-held g c told =
    let s = c.args.self.now in
    let image = (g.M.Media.view c.args.media.now).content.bytes in
    let both = and_parts (lies_on (c.args.addr / 512) (entries_of s c.args.tid)) (has c.args.group c.args.tid) (sym c.requires.numbers ∙ sym c.has.ensures ∙ c.if-not-has.false) in
    let es = c.deref.ensures.value ∙ read_at s.table.items c.from.result c.args.tid c.index.result.now c.from.ensures (has_place s.table.items c.args.tid (c.args.addr / 512) both.0) c.index.ensures in
    subst (λ (l : List Entry). ranges_of (parts_in s.shape image c.args.tid l) ≡ ranges_in l) (sym es) (c.requires.held told c.args.tid c.requires.tid)

pub returns-clause-bytes : goal.returns-clause-bytes
returns-clause-bytes g c told whole long was =
    let s = c.args.self.now in
    let image = (g.M.Media.view c.args.media.now).content.bytes in
    let both = and_parts (lies_on (c.args.addr / 512) (entries_of s c.args.tid)) (has c.args.group c.args.tid) (sym c.requires.numbers ∙ sym c.has.ensures ∙ c.if-not-has.false) in
    let es = c.deref.ensures.value ∙ read_at s.table.items c.from.result c.args.tid c.index.result.now c.from.ensures (has_place s.table.items c.args.tid (c.args.addr / 512) both.0) c.index.ensures in
    subst (λ (b : Bool). OnOk c.lay_entries.result (c.lay_entries.new.buf ≡ range (applied (cond b (parts_in s.shape image c.args.tid (entries_of s c.args.tid)) []) whole) c.args.addr (length c.args.buf.now))) (sym both.1)
    (subst (λ (l : List Entry). OnOk c.lay_entries.result (c.lay_entries.new.buf ≡ range (applied (parts_in s.shape image c.args.tid l) whole) c.args.addr (length c.args.buf.now))) es (c.lay_entries.ensures.bytes told whole long was))

pub returns-clause-costs : goal.returns-clause-costs
returns-clause-costs g c =
    let s = c.args.self.now in
    let m = g.M.Media in
    let both = and_parts (lies_on (c.args.addr / 512) (entries_of s c.args.tid)) (has c.args.group c.args.tid) (sym c.requires.numbers ∙ sym c.has.ensures ∙ c.if-not-has.false) in
    let es = c.deref.ensures.value ∙ read_at s.table.items c.from.result c.args.tid c.index.result.now c.from.ensures (has_place s.table.items c.args.tid (c.args.addr / 512) both.0) c.index.ensures in
    subst (λ (b : Bool). Costs true (count_by (meets c.args.addr (length c.args.buf.now)) (cond b (entries_of s c.args.tid) [])) (m.view c.args.media.now).moment (m.view c.lay_entries.new.media).moment c.lay_entries.result) (sym both.1)
    (subst (λ (l : List Entry). Costs true (count_by (meets c.args.addr (length c.args.buf.now)) l) (m.view c.args.media.now).moment (m.view c.lay_entries.new.media).moment c.lay_entries.result) es c.lay_entries.ensures.costs)
