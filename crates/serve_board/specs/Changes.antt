-- What a change does to the totals on a page, and the operation that it is.
use Rattle.std.specs.Prelude.{ℕ, true, List, [], ◌∷◌, map, if◌then◌else◌}
use Rattle.std.specs.FinMap.{empty}
use Rattle.day_floor.specs.Operations.{Operation, Begin, Step, Posted, charge_of}
use Rattle.day_floor.specs.declared.publisher.Charged.{Charged}
use Rattle.serve_board.specs.declared.change.Change.{Change}
use Rattle.serve_board.specs.declared.change.Change.TheVariants.{Begins, Charges}
use Rattle.serve_board.specs.declared.page.Page.{Page}
use Rattle.serve_board.specs.declared.page.Post.{Post}
use Rattle.serve_board.specs.declared.page.Post.TheVariants.{Changed, Reached}
use Rattle.serve_board.specs.Totals.{Totals, with_charges, whole_with}

-- the operation that a change is
abbrev pub operation_of : Change → Operation
operation_of (Begins day) = Begin day
operation_of (Charges cs mark) = Step (map charge_of cs.items) mark

-- totals with charges up to a mark more
abbrev pub totals_at : Totals → List Charged → ℕ → Totals
totals_at t cs mark =
    record {
      begun = t.begun;
      number = t.number;
      mark = mark;
      sums = with_charges t.sums cs;
      whole =
          whole_with t.whole cs;
    }

-- totals with one change more: charges before a day began count for nothing
abbrev pub totals_with : Totals → Change → Totals
totals_with t (Begins day) = record { begun = true; number = day; mark = 0; sums = empty; whole = 0 }
totals_with t (Charges cs mark) = if t.begun then totals_at t cs.items mark else t

-- a page with one post more
abbrev pub page_with : Page → Post → Page
page_with p (Changed c) = record { shown = totals_with p.shown c; front = p.front }
page_with p (Reached f) = record { shown = p.shown; front = f }

-- the operations of posts
abbrev pub operations_of : List Post → List Operation
operations_of [] = []
operations_of (Changed c ∷ ps) = operation_of c ∷ operations_of ps
operations_of (Reached f ∷ ps) = operations_of ps

-- what is published on a page, and queued behind it
abbrev pub posted_on : Page → List Post → Posted
posted_on p waiting = record { published = p.front.log; queued = operations_of waiting }
