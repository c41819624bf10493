-- each step of a board keeps its rule
use Rattle.std.proofs.Common.{◌≡◌, ℕ, ◌^◌, ◌<◌, ◌≢◌, List, [], ◌∷◌, ◌++◌, set, refl, sym, subst, ◌∙◌, ⊎_elim, zero, suc}
use Rattle.std.proofs.Common.{arith, Option, Some, None}
use Rattle.std.proofs.lemmas.List.Sums.{fold-append}
use Rattle.std.specs.List.{fold}
use mathlib.Core.Option.{some, some-ne-none}
use lib.ListN.{get_elem?}
use Rattle.logbook.specs.Pages.{Book}
use Rattle.crossbeam_utils.specs.Register.{TurnsAt, Admits, Forks, Merges}
use Rattle.atomic_table.proofs.Lists.{at_set, at_snoc}
use Rattle.day_floor.specs.Boards.{board_after, all_accounts}
use Rattle.day_floor.specs.Shown.{shown_with, shown_by, shown_after}
use Rattle.day_floor.proofs.ShownLaws.{shown_few}
use Rattle.serve_board.specs.declared.page.Page.{Page}
use Rattle.serve_board.specs.declared.page.Post.{Post}
use Rattle.serve_board.specs.Totals.{Shows, no_totals}
use Rattle.serve_board.specs.Changes.{page_with, operations_of}
use Rattle.serve_board.specs.InOrder.{Good, FitsPage, Kept, LooksAtPage, Meets}
use Rattle.serve_board.proofs.ShowLaws.{shows_posts, shows_nothing}

-- who knows no history fits each page
fits_none : (p : Page) → FitsPage p None
fits_none p b e = absurd (cc e)

-- one view changes, on a good page of the same history
keeps : (x y : Page) (views : List (Option Book)) (seat : ℕ) (w : Option Book) → Kept x views → Good y →
    y.front.book ≡ x.front.book → FitsPage y w → Kept y (set views seat w)
keeps x y views seat w kept good same fit = record {
  good = good;
  each = λ j u e. ⊎_elim (λ (t : (j ≡ seat) × (w ≡ u)). subst (FitsPage y) t.1 fit)
      (λ (t : (j ≢ seat) × (get_elem? views j ≡ some u)). λ b is. same ∙ kept.each j u t.1 b is)
      (at_set views seat j w u e);
}

-- a new view
adds : (x : Page) (views : List (Option Book)) (f : Option Book) → Kept x views → FitsPage x f →
    Kept x (views ++ f ∷ [])
adds x views f kept fit = record {
  good = kept.good;
  each = λ j u e. ⊎_elim (λ (t : get_elem? views j ≡ some u). kept.each j u t)
      (λ (same : f ≡ u). subst (FitsPage x) same fit) (at_snoc views f u j e);
}

-- a page of nothing is good
good_nothing : (p : Page) → p.shown ≡ no_totals → p.front.log ≡ [] → Good p
good_nothing p shown none = record {
  shows = subst (λ ops. Shows p.shown (shown_by ops)) (sym none)
      (subst (λ t. Shows t (shown_by [])) (sym shown) shows_nothing);
  fits = subst (λ ops. all_accounts (shown_after ops) < 2 ^ 63) (sym none) (omega arith);
  below = subst (λ ops. all_accounts (board_after ops) < 2 ^ 63) (sym none) (omega arith);
}

-- a board opens with its writer
pub opens : (p : Page) → p.shown ≡ no_totals → p.front.log ≡ [] → Kept p (None ∷ [])
opens p shown none = record { good = good_nothing p shown none; each = at_first }
  where
    at_first : (j : ℕ) (u : Option Book) → get_elem? (None ∷ []) j ≡ some u → FitsPage p u
    at_first zero u e = subst (FitsPage p) (cc e) (fits_none p)
    at_first (suc j) u e = absurd (some-ne-none u (sym e))

-- a new reader
pub admits : Admits Kept None
admits x views kept = adds x views None kept (fits_none x)

-- a look
pub looks : (seat : ℕ) (v : Option Book) (x : Page) → TurnsAt Kept seat v x x LooksAtPage
looks seat v x views kept at = let fit = kept.each seat v at in
    (v, keeps x x views seat v kept kept.good refl fit, (refl, kept.good, fit))

-- the first publication
pub meets : (seat : ℕ) (v : Option Book) (x y : Page) → y ≡ x → TurnsAt Kept seat v x y Meets
meets seat v x y same =
    subst (λ z. TurnsAt Kept seat v x z Meets) (sym same)
    (λ views kept at.
    (Some x.front.book, keeps x x views seat (Some x.front.book) kept kept.good refl (λ b e. cc e), refl))

-- what the writer knows is told
pub forks : (seat : ℕ) (v : Option Book) → Forks Kept seat v v v
forks seat v x views kept at = let fit = kept.each seat v at in
    adds x (set views seat v) v (keeps x x views seat v kept kept.good refl fit) fit

-- and learned
pub merges : (seat : ℕ) (v : Option Book) (other : ℕ) (w : Option Book) → Merges Kept seat v other w w None
merges seat v other w x views kept at apart there =
    let fit : FitsPage x w =
    ⊎_elim (λ (t : (other ≡ seat) × (w ≡ w)). absurd (apart t.0))
    (λ (t : (other ≢ seat) × (get_elem? views other ≡ some w)). kept.each other w t.1)
    (at_set views seat other w w there) in
    keeps x x (set views seat w) other None (keeps x x views seat w kept kept.good refl fit) kept.good refl
    (fits_none x)

-- a publication
pub publishes : (seat : ℕ) (v : Option Book) (x y : Page) (ps : List Post) → y ≡ fold page_with x ps →
    y.front.book ≡ x.front.book → y.front.log ≡ x.front.log ++ operations_of ps →
    all_accounts (board_after y.front.log) < 2 ^ 63 → TurnsAt Kept seat v x y (λ _ _ _ _. Unit {0})
publishes seat v x y ps is book log below views kept at =
    let shows : Shows y.shown (shown_by (x.front.log ++ operations_of ps)) =
    subst (λ (p : Page). Shows p.shown (shown_by (x.front.log ++ operations_of ps))) (sym is)
    (subst (Shows (fold page_with x ps).shown) (sym (fold-append shown_with None x.front.log (operations_of ps)))
    (shows_posts ps x (shown_by x.front.log) kept.good.shows)) in
    let good : Good y =
    record {
      shows = subst (λ ops. Shows y.shown (shown_by ops)) (sym log) shows;
      fits =
          omega (arith, below, shown_few y.front.log);
      below = below;
    } in
    (v, keeps x y views seat v kept good book (λ b e. book ∙ kept.each seat v at b e), tt)
