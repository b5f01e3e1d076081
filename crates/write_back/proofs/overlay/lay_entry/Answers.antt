use Rattle.std.proofs.Common.{◌≡◌, ℕ, Bool, cond, true, List, length, take, drop, refl, sym, ◌∙◌, ap, arith}
use Rattle.mars_base.proofs.Costing.{costs_all, costs_err}
use Rattle.mars_base.specs.Bytes.{put, range}
use Rattle.array_shape.specs.Places.{logger_of}
use Rattle.array_image.specs.Image.{cell_head, cell_of, cell_part}
use Rattle.write_back.proofs.Laying.{part_away, part_bytes}
use Rattle.write_back.proofs.overlay.lay_entry.Goals as goal

pub returns-then-not-has_byte_of-clause-bytes : goal.returns-then-not-has_byte_of-clause-bytes
returns-then-not-has_byte_of-clause-bytes g c told whole long was =
    let shape = c.args.shape.now in
    let image = (g.M.Media.view c.args.media.now).content.bytes in
    let e = c.args.entry in
    was ∙ sym (part_away whole e (cell_part (cell_of shape image (logger_of shape e.addr) c.args.tid e.cell)) c.args.addr (length c.args.buf.now) (c.requires.held told) (omega (arith, long, c.requires.entry.placed.inside)) (sym c.has_byte_of.ensures ∙ c.if-not-has_byte_of.true))

pub returns-clause-bytes : goal.returns-clause-bytes
returns-clause-bytes g c told whole long was =
    let shape = c.args.shape.now in
    let image = (g.M.Media.view c.args.media.now).content.bytes in
    let e = c.args.entry in
    let n = length c.args.buf.now in
    let cell = cell_of shape image (logger_of shape e.addr) c.args.tid e.cell in
    let shape_is = c.new-logger.ensures.shape in
    let number_is = c.new-logger.ensures.number ∙ c.place.ensures.logger in
    let got : c.read_entry.new.buf ≡ drop 16 cell = c.in_ok-read_entry.ensures.bytes told ∙ (λ i. drop 16 (cell_of (shape_is i) image (number_is i) c.args.tid e.cell)) in
    c.copy_part.ensures whole (omega (arith, long, c.requires.entry.placed.inside)) (omega (arith, long, c.requires.range)) was
    ∙ ap (λ (l : List ℕ). range (put whole e.addr (take e.len l)) c.args.addr n) got
    ∙ ap (λ (d : List ℕ). range d c.args.addr n) (part_bytes whole (drop 16 cell) e (cell_part cell) (cell_head cell).len refl (c.requires.held told))

-- the read of a cell that is met
abbrev counted : Bool → ℕ
counted is_met = cond is_met 1 0

pub returns-then-not-has_byte_of-clause-costs : goal.returns-then-not-has_byte_of-clause-costs
returns-then-not-has_byte_of-clause-costs g c =
    costs_all true _ _ _ _ (omega (arith, ap counted (sym c.has_byte_of.ensures ∙ c.if-not-has_byte_of.true)))

pub returns-in_err-read_entry-clause-costs : goal.returns-in_err-read_entry-clause-costs
returns-in_err-read_entry-clause-costs g c =
    costs_err true _ _ _ c.from_residual.result c.from_residual.ensures.0 (omega (arith, c.read_entry.ensures.costs.most, ap counted (sym c.has_byte_of.ensures ∙ c.if-not-has_byte_of.false)))

pub returns-clause-costs : goal.returns-clause-costs
returns-clause-costs g c =
    costs_all true _ _ _ _ (omega (arith, c.in_ok-read_entry.ensures.costs.done refl, ap counted (sym c.has_byte_of.ensures ∙ c.if-not-has_byte_of.false)))
