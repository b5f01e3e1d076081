use Rattle.std.proofs.Common.{length, sym, ◌∙◌}
use Rattle.std.specs.Cmp.Lexicographic.{same_text}
use Rattle.std.proofs.lemmas.List.{take-replicate}
use Rattle.image_pieces.proofs.filling.is_zero.Goals as goal

pub returns : goal.returns
returns c = λ is. same_text _ _ (sym is ∙ c.eq.ensures) ∙ take-replicate (length c.args.bytes.now) 65536 0 c.requires
