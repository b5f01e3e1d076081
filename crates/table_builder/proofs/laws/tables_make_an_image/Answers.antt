use Rattle.table_builder.proofs.Making.{image, names, sound}
use Rattle.table_builder.proofs.laws.tables_make_an_image.Goals as goal

pub returns : goal.returns
returns c = λ plan bytes can made. let s = sound plan bytes can made in (image plan bytes can made, s.0, s.1, names plan bytes can made)
