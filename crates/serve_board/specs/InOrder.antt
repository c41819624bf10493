-- The rule of a board: its page shows a beginning of the history that its writer and readers know.
use Rattle.std.specs.Prelude.{◌≡◌, ℕ, ◌^◌, ◌<◌, List, Option, Some}
use mathlib.Core.Option.{some}
use lib.ListN.{get_elem?}
use Rattle.logbook.specs.Pages.{Book}
use Rattle.day_floor.specs.Boards.{board_after, all_accounts}
use Rattle.day_floor.specs.Shown.{shown_by, shown_after}
use Rattle.serve_board.specs.declared.page.Page.{Page}
use Rattle.serve_board.specs.Totals.{Shows}

-- a page shows what its beginning of the history comes to, and that is below 2^63, as all its steps are
pub record Good (p : Page) : Type 0 where
  pub shows : Shows p.shown (shown_by p.front.log)
  pub fits : all_accounts (shown_after p.front.log) < 2 ^ 63
  pub below : all_accounts (board_after p.front.log) < 2 ^ 63

-- where a history is known, it is the page's
abbrev pub FitsPage : Page → Option Book → Type 0
FitsPage p v = (b : Book) → v ≡ Some b → p.front.book ≡ b

-- the rule of a board: the page is good, and of the history that each knows
pub record Kept (p : Page) (views : List (Option Book)) : Type 0 where
  pub good : Good p
  pub each : (seat : ℕ) (v : Option Book) → get_elem? views seat ≡ some v → FitsPage p v

-- a look: the page is good, and of the history that is known
abbrev pub LooksAtPage : Option Book → Page → Page → Option Book → Type 0
LooksAtPage v x y w = (w ≡ v) × Good y × FitsPage y v

-- the first publication: the writer knows the history
abbrev pub Meets : Option Book → Page → Page → Option Book → Type 0
Meets v x y w = w ≡ Some y.front.book
