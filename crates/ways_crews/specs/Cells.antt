-- The rule of the cells. A cell's word is 0 for free, 1 for ready, 2 for taken and 3 for done, and 4 while
-- the crew has its turn to announce or after it collected.
use Rattle.std.specs.Prelude.{◌≡◌, ◌≢◌, ℕ, ◌+◌, ◌≤◌, ◌<◌, true, List, length, Option, Some, None, slice_index}
use mathlib.Core.Option.{Option as Maybe, none, some}
use lib.ListN.{get_elem?}
use Rattle.atomic_table.specs.Table.{State}
use Rattle.ways_expressway.specs.declared.job.Job.{Job}
use Rattle.ways_expressway.specs.declared.job.Done.{Done}
use Rattle.ways_expressway.specs.Results.{IsResultOf}
use Rattle.ways_crews.specs.declared.cells.Parcel.{Parcel}
use Rattle.ways_crews.specs.declared.cells.Parcel.TheVariants.{Waiting, Finished}
use Rattle.ways_crews.specs.declared.cells.View.{View}
use Rattle.ways_crews.specs.Views.{input_of, CanBeRun}

-- the state of the table, with what each seat knows
abbrev pub St : Type 0
St = State (Option Parcel) View

-- what all find in a slot: a value, or none while a seat has its turn; nothing where there is no slot
abbrev pub Home : Type 0
Home = Maybe (Maybe (Option Parcel))

-- no seat has taken a cell
abbrev pub HasNoTaker : List View → ℕ → Type 0
HasNoTaker views cell = (seat : ℕ) (v : View) (job : Job) → get_elem? views seat ≡ some v → v.taken ≢ Some (cell, job)

-- exactly one seat has taken a cell, with this input
pub record HasOneTaker (views : List View) (cell : ℕ) (job : Job) : Type 0 where
  pub seat : ℕ
  pub view : View
  pub at : get_elem? views seat ≡ some view
  pub has : view.taken ≡ Some (cell, job)
  pub one : (other : ℕ) (v : View) (input : Job) →
      get_elem? views other ≡ some v → v.taken ≡ Some (cell, input) → other ≡ seat

-- A cell, by its word. `home` is what all find in its slot: a value, or none while the crew or the taker has
-- its turn
pub record CellIs (word : ℕ) (home : Home) (input : Option Job) (views : List View) (cell : ℕ) : Type 0 where
  pub known : word ≤ 4
  pub free : word ≡ 0 → (input ≡ None) × (home ≡ some (some None))
  pub ready : word ≡ 1 → (job : Job) × (input ≡ Some job) × (home ≡ some (some (Some (Waiting job)))) × CanBeRun job
  pub taken : word ≡ 2 → (job : Job) × (input ≡ Some job) × (home ≡ some none) × HasOneTaker views cell job
  pub done : word ≡ 3 → (job : Job) × (done : Done) × (input ≡ Some job) × (home ≡ some (some (Some (Finished done))))
      × IsResultOf job done
  pub opened : word ≡ 4 → (input ≡ None) × (home ≡ some none)
  pub untaken : word ≢ 2 → HasNoTaker views cell

-- Each cell is as its word says, by the input that the crew has for it. The crew has the first seat. The stop
-- word stands behind the cells' words, and is 1 as soon as one seat knows so; what stands behind it may be
-- anything
pub record CellRule (s : St) : Type 0 where
  pub crew : View
  pub leads : get_elem? s.views 0 ≡ some crew
  pub inputs : length crew.given ≡ length s.homes
  pub words : length s.words ≡ length s.homes + 4
  pub cells : (cell : ℕ) → cell < length s.homes →
      CellIs (slice_index s.words cell) (get_elem? s.homes cell) (input_of crew cell) s.views cell
  pub stop : slice_index s.words (length s.homes) ≤ 1
  pub stopped : (seat : ℕ) (v : View) → get_elem? s.views seat ≡ some v → v.stopped ≡ true →
      slice_index s.words (length s.homes) ≡ 1
