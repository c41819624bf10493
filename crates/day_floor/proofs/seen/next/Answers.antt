use Rattle.std.proofs.Common.{rules, arith}
use Rattle.road_time.proofs.RunLaws.{last_seen_more}
use Rattle.day_floor.proofs.seen.next.Goals as goal

pub returns-then-last-lt-STOPPED_RUN : goal.returns-then-last-lt-STOPPED_RUN
returns-then-last-lt-STOPPED_RUN c =
    λ own r k e. last_seen_more own r c.args.here c.args.last _ k e (search rules) (omega arith)

pub returns-else-last-lt-STOPPED_RUN : goal.returns-else-last-lt-STOPPED_RUN
returns-else-last-lt-STOPPED_RUN c =
    λ own r k e. last_seen_more own r c.args.here c.args.last 4 k e (search rules) (omega arith)
