use Rattle.std.proofs.Common.{◌≡◌, arith}
use Rattle.tuples_text.proofs.FieldLaws.{plain_form}
use Rattle.tuples_text.specs.Fields.{unused_text}
use Rattle.tuples_text.proofs.plain.plain_report.Goals as goal

pub returns : goal.returns
returns c =
    let end : c.in_ok-pos.rest.now ≡ unused_text = c.is_unused.ensures c.if-not-is_unused.false in
    plain_form c.args.text.now c.in_ok-kind.rest.now c.in_ok-time.rest.now c.in_ok-vid.rest.now c.in_ok-spd.rest.now
    c.in_ok-xway.rest.now c.in_ok-lane.rest.now c.in_ok-dir.rest.now c.in_ok-seg.rest.now c.in_ok-pos.rest.now
    c.in_ok-kind.kind c.in_ok-time.time c.in_ok-vid.vid c.in_ok-spd.spd c.in_ok-xway.xway c.in_ok-lane.lane
    c.in_ok-dir.dir c.in_ok-seg.seg c.in_ok-pos.pos
    c.in_ok-kind.ensures c.in_ok-time.ensures c.in_ok-vid.ensures c.in_ok-spd.ensures c.in_ok-xway.ensures
    c.in_ok-lane.ensures c.in_ok-dir.ensures c.in_ok-seg.ensures c.in_ok-pos.ensures
    end c.if-kind-ne0.false (omega arith) (omega arith) (omega arith) (omega arith) (omega arith) (omega arith)
    (omega arith) (omega arith)
