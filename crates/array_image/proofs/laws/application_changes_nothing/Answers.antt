use Rattle.array_image.proofs.Recovery.{applying_stands}
use Rattle.array_image.proofs.laws.application_changes_nothing.Goals as goal

pub returns : goal.returns
returns c old image lawful same = applying_stands c.args.shape.now old image lawful.long lawful.good same lawful
