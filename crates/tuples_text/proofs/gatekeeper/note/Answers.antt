use Rattle.std.proofs.Common.{rules}
use Rattle.road_time.proofs.Places.{both_at, kept_at, written_at, same_at, length_at}
use Rattle.tuples_text.proofs.gatekeeper.note.Goals as goal

pub returns-then-count-gt3-clause-judged : goal.returns-then-count-gt3-clause-judged
returns-then-count-gt3-clause-judged c =
    let here = both_at c.args.vid _ _ _ _ c.in-Some.ensures.found.1 c.pair_mut-recent.ensures.value in
    let kept = kept_at c.args.seen.now c.in-Some.at c.args.vid _ c.pair_mut-recent.ensures.unique here in
    search (rules, kept)

pub returns-then-count-gt3-clause-kept : goal.returns-then-count-gt3-clause-kept
returns-then-count-gt3-clause-kept c =
    same_at c.args.seen.now c.in-Some.at c.args.vid _ c.pair_mut-recent.ensures.unique
    (both_at c.args.vid _ _ _ _ c.in-Some.ensures.found.1 c.pair_mut-recent.ensures.value)

pub returns-else-count-gt3-clause-judged : goal.returns-else-count-gt3-clause-judged
returns-else-count-gt3-clause-judged c =
    let here = both_at c.args.vid _ _ _ _ c.in-Some.ensures.found.1 c.pair_mut-recent.ensures.value in
    let kept = kept_at c.args.seen.now c.in-Some.at c.args.vid _ c.pair_mut-recent.ensures.unique here in
    search (rules, kept)

pub returns-else-count-gt3-clause-noted : goal.returns-else-count-gt3-clause-noted
returns-else-count-gt3-clause-noted c = λ v.
    let here = both_at c.args.vid _ _ _ _ c.in-Some.ensures.found.1 c.pair_mut-recent.ensures.value in
    let kept = kept_at c.args.seen.now c.in-Some.at c.args.vid _ c.pair_mut-recent.ensures.unique here in
    let written =
    written_at c.args.seen.now c.in-Some.at c.args.vid _ c.pair_mut-recent.ensures.unique here c.noted.result v in
    search (rules, kept, written)

pub returns-else-count-gt3-clause-number : goal.returns-else-count-gt3-clause-number
returns-else-count-gt3-clause-number c =
    let here = both_at c.args.vid _ _ _ _ c.in-Some.ensures.found.1 c.pair_mut-recent.ensures.value in
    let kept = kept_at c.args.seen.now c.in-Some.at c.args.vid _ c.pair_mut-recent.ensures.unique here in
    let same =
    length_at c.args.seen.now c.in-Some.at c.args.vid _ c.pair_mut-recent.ensures.unique here c.noted.result in
    search (rules, kept, same)
