use Rattle.std.proofs.Common.{◌≡◌, vec_len, All}
use Rattle.ways_audit.proofs.TakenLaws.{IsNew}
use Rattle.ways_audit.proofs.shards.new_shards.Given as goal

abbrev pub invariant-loop : goal.invariant-loop
invariant-loop l = record {
  many : vec_len l.shards ≡ l.counter;
  each : All IsNew l.shards.items;
}
