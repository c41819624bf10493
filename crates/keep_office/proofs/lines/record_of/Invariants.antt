use Rattle.std.proofs.Common.{◌≡◌, ◌≤◌, ◌*◌, length, take}
use Rattle.road_digest.specs.Digests.{Took}
use Rattle.keep_office.specs.Renewed.{history_text}
use Rattle.keep_office.proofs.lines.record_of.Given as goal

-- so many lines were taken and counted
abbrev pub invariant-rows : goal.invariant-rows
invariant-rows l = record {
  took : Took l.digester (history_text l.base (take l.row-index l.rows));
  bytes : l.bytes ≡ length (history_text l.base (take l.row-index l.rows));
  bound : l.bytes ≤ 45 * l.row-index;
}
