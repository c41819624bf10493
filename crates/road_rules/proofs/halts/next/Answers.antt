use Rattle.std.proofs.Common.{rules, arith, ◌∙◌}
use Rattle.road_time.proofs.RunLaws.{last_seen_more}
use Rattle.road_rules.proofs.halts.next.Goals as goal

pub returns-then-seen-lt-STOPPED_RUN : goal.returns-then-seen-lt-STOPPED_RUN
returns-then-seen-lt-STOPPED_RUN c = λ own r k e. last_seen_more own r c.args.here c.in-Some.seen _ (k ∙ c.in-Some.is)
    e (search rules)
    (omega arith)

pub returns-else-seen-lt-STOPPED_RUN : goal.returns-else-seen-lt-STOPPED_RUN
returns-else-seen-lt-STOPPED_RUN c = λ own r k e. last_seen_more own r c.args.here c.in-Some.seen 4 (k ∙ c.in-Some.is)
    e (search rules)
    (omega arith)
