use Rattle.std.proofs.Common.{ap, ◌∙◌}
use Rattle.array_shape.specs.Logged.{ranges_of}
use Rattle.write_back.specs.Entries.{parts_in}
use Rattle.write_back.proofs.EntryParts.{parts_in_same, same_if_all}
use Rattle.write_back.proofs.Turning.{in_turn_same}
use Rattle.write_back.proofs.laws.same_cells_same_parts.Goals as goal

pub returns-clause-parts : goal.returns-clause-parts
returns-clause-parts c old new entries queue same =
    let shape = c.args.shape.now in
    in_turn_same shape (λ t. parts_in shape new t (entries t)) (λ t. parts_in shape old t (entries t)) queue (λ t lt has. parts_in_same shape old new t (entries t) (same t lt))

pub returns-clause-held : goal.returns-clause-held
returns-clause-held c old new entries same held t lt = ap ranges_of (parts_in_same c.args.shape.now old new t (entries t) (same t lt)) ∙ held t lt

pub returns-clause-all : goal.returns-clause-all
returns-clause-all c old new entries same all t lt = same_if_all c.args.shape.now old new t c.args.shape.now.in_range lt (entries t) same (all t lt)
