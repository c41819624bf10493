use Rattle.std.proofs.Common.{◌≡◌, List, Some, sym, ap, subst}
use Rattle.road_time.specs.Day.{sum_of, charges_to}
use Rattle.day_floor.specs.Operations.{Operation}
use Rattle.day_floor.specs.Boards.{BoardState, board_after}
use Rattle.day_floor.specs.Shown.{shown_by, shown_after, board_on}
use Rattle.day_floor.proofs.LiveLaws.{Shows, shown, live_more}
use Rattle.day_floor.proofs.ShownLaws.{begun_shown}
use Rattle.day_floor.proofs.accounts_laws.live_law.Goals as goal

pub returns-clause-shows : goal.returns-clause-shows
returns-clause-shows c = λ day tariffs number ops live.
    let all : Shows day tariffs number (board_after ops) =
    rw live.whole (shown day tariffs number live.earlier live.steps live.exact) in
    let same : shown_after ops ≡ board_after ops =
    ap board_on
    (subst (λ (xs : List Operation). shown_by xs ≡ Some (board_after xs)) (sym live.whole)
    (begun_shown live.earlier live.steps number)) in
    let shows : Shows day tariffs number (shown_after ops) =
    subst (λ (b : BoardState). Shows day tariffs number b) (sym same) all in
    (shows.of_day, shows.inside, λ vid. ap (λ cs. sum_of (charges_to vid cs)) shows.exact, ap sum_of shows.exact)

pub returns-clause-grows : goal.returns-clause-grows
returns-clause-grows c = λ day later order tariffs number ops live. live_more day later order tariffs number ops live
