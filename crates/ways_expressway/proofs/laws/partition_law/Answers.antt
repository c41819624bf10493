use Rattle.ways_expressway.proofs.PartitionLaws.{merge_all}
use Rattle.ways_expressway.proofs.laws.partition_law.Goals as goal

pub returns : goal.returns
returns c = λ day limits fit tariffs width some number kept. merge_all day fit.in_order tariffs width some number kept
