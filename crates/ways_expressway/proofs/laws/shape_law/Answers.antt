use Rattle.ways_expressway.proofs.ShapeLaws.{shaped}
use Rattle.ways_expressway.proofs.laws.shape_law.Goals as goal

pub returns : goal.returns
returns c = λ job done is. shaped job done is
