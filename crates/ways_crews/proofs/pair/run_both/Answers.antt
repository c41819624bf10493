use Rattle.std.proofs.Common.{[], ◌∷◌, arith, false}
use Rattle.ways_crews.proofs.CallerLaws.{idle, all_home}
use Rattle.ways_crews.proofs.ListingLaws.{where_none, where_started, where_finished, where_both, where_first}
use Rattle.ways_crews.proofs.pair.run_both.Goals as goal

pub start_beside-one-requires-clause-room : goal.start_beside-one-requires-clause-room
start_beside-one-requires-clause-room g c = let k = g.C.Crew in
    ([], idle k.out k.number k.holds k.gave _ c.requires.idle, omega arith)

pub start_beside-two-requires-clause-room : goal.start_beside-two-requires-clause-room
start_beside-two-requires-clause-room g c =
    let k = g.C.Crew in
    (_, c.start_beside-one.ensures.out [] (idle k.out k.number k.holds k.gave _ c.requires.idle), omega arith)

pub finish_among-later-requires : goal.finish_among-later-requires
finish_among-later-requires g c =
    let k = g.C.Crew in
    let one = c.start_beside-one.ensures.out [] (idle k.out k.number k.holds k.gave _ c.requires.idle) in
    (_ ∷ [], _, [], c.start_beside-two.ensures.out _ one)

pub finish_among-sooner-requires : goal.finish_among-sooner-requires
finish_among-sooner-requires g c =
    let k = g.C.Crew in
    let one = c.start_beside-one.ensures.out [] (idle k.out k.number k.holds k.gave _ c.requires.idle) in
    let two = c.start_beside-two.ensures.out _ one in
    ([], _, [], c.finish_among-later.ensures.out (_ ∷ []) _ [] two)

pub returns-clause-shape : goal.returns-clause-shape
returns-clause-shape g c =
    let k = g.C.Crew in
    let one = c.start_beside-one.ensures.out [] (idle k.out k.number k.holds k.gave _ c.requires.idle) in
    let two = c.start_beside-two.ensures.out _ one in
    let left = c.finish_among-later.ensures.out (_ ∷ []) _ [] two in
    (c.finish_among-sooner.ensures.shape [] _ [] left, c.finish_among-later.ensures.shape (_ ∷ []) _ [] two)

pub returns-clause-run : goal.returns-clause-run
returns-clause-run g c exact =
    let k = g.C.Crew in
    let one = c.start_beside-one.ensures.out [] (idle k.out k.number k.holds k.gave _ c.requires.idle) in
    let two = c.start_beside-two.ensures.out _ one in
    let left = c.finish_among-later.ensures.out (_ ∷ []) _ [] two in
    (c.finish_among-sooner.ensures.run exact [] _ [] left, c.finish_among-later.ensures.run exact (_ ∷ []) _ [] two)

pub returns-clause-idle : goal.returns-clause-idle
returns-clause-idle g c =
    let k = g.C.Crew in
    let one = c.start_beside-one.ensures.out [] (idle k.out k.number k.holds k.gave _ c.requires.idle) in
    let two = c.start_beside-two.ensures.out _ one in
    let left = c.finish_among-later.ensures.out (_ ∷ []) _ [] two in
    all_home k.out k.number k.holds k.gave _ (c.finish_among-sooner.ensures.out [] _ [] left)

pub returns-clause-all : goal.returns-clause-all
returns-clause-all g c ok_first ok_second =
    let k = g.C.Crew in
    let was = k.jobs c.args.crew.now in
    let none = where_none was (k.out c.args.crew.now) false in
    let one =
    where_started was [] _ _ false _ _ _ _ none c.start_beside-one.ensures.jobs
    c.start_beside-one.ensures.numbers in
    let two =
    where_started was (c.args.first ∷ []) _ _ false _ _ _ _ one c.start_beside-two.ensures.jobs
    c.start_beside-two.ensures.numbers in
    let left =
    where_finished was (c.args.first ∷ c.args.second ∷ []) _ _ false _ _ _ _ two c.finish_among-later.ensures.jobs
    c.finish_among-later.ensures.numbers in
    let home =
    where_finished was (c.args.first ∷ c.args.second ∷ []) _ _ _ _ _ _ _ left c.finish_among-sooner.ensures.jobs
    c.finish_among-sooner.ensures.numbers in
    let out_one = c.start_beside-one.ensures.out [] (idle k.out k.number k.holds k.gave _ c.requires.idle) in
    let out_two = c.start_beside-two.ensures.out _ out_one in
    let out_left = c.finish_among-later.ensures.out (_ ∷ []) _ [] out_two in
    where_both was _ _ _ _ _
    (all_home k.out k.number k.holds k.gave _ (c.finish_among-sooner.ensures.out [] _ [] out_left)) ok_second
    ok_first home

pub returns-clause-first : goal.returns-clause-first
returns-clause-first g c =
    let k = g.C.Crew in
    let was = k.jobs c.args.crew.now in
    let none = where_none was (k.out c.args.crew.now) false in
    let one =
    where_started was [] _ _ false _ _ _ _ none c.start_beside-one.ensures.jobs
    c.start_beside-one.ensures.numbers in
    let two =
    where_started was (c.args.first ∷ []) _ _ false _ _ _ _ one c.start_beside-two.ensures.jobs
    c.start_beside-two.ensures.numbers in
    let left =
    where_finished was (c.args.first ∷ c.args.second ∷ []) _ _ false _ _ _ _ two c.finish_among-later.ensures.jobs
    c.finish_among-later.ensures.numbers in
    let home =
    where_finished was (c.args.first ∷ c.args.second ∷ []) _ _ _ _ _ _ _ left c.finish_among-sooner.ensures.jobs
    c.finish_among-sooner.ensures.numbers in
    where_first was _ _ _ _ home
