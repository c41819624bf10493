-- What a reader saw, what a writer published and tells, and what answers say.
use Rattle.std.specs.Prelude.{◌≡◌, ℕ, ◌^◌, ◌<◌, List, [], ◌++◌, refl}
use Rattle.std.specs.Coded.{Coded, code_by, coded×, coded_ℕ, coded_list}
use Rattle.day_floor.specs.Operations.{Operation, Posted}
use Rattle.day_floor.specs.Boards.{BoardState, board_after, account, all_accounts}
use Rattle.serve_board.specs.declared.live.Live.{Live}
use Rattle.serve_board.specs.Codes.{operations_code, posted_code}
use Rattle.serve_board.specs.OperationLog.{Reach, numbers_of}

-- a reader: the numbers that tell of which board it is, and the operations that it saw or was told of
pub record Pass : Type 0 where
  pub board : List ℕ
  pub seen : List Operation

-- a reader is stored as its parts
abbrev pub pass_code : Coded Pass
pass_code = code_by (List ℕ × List Operation) (coded× (coded_list coded_ℕ) operations_code) (λ p. (p.board, p.seen))
    (λ p. record { board = p.0; seen = p.1 }) (λ _. refl)

-- a reader, by the beginning that it has of its board's history
abbrev pub pass_of : Reach → Pass
pass_of r = record { board = numbers_of r.book; seen = r.log }

-- the writer: of which board it is, and what it published and queued
pub record BoardWriting : Type 0 where
  pub board : List ℕ
  pub posted : Posted

-- a writer is stored as its parts
abbrev pub writing_code : Coded BoardWriting
writing_code = code_by (List ℕ × Posted) (coded× (coded_list coded_ℕ) posted_code) (λ w. (w.board, w.posted))
    (λ p. record { board = p.0; posted = p.1 }) (λ _. refl)

-- what a writer tells: of which board it is, and all that is published
pub record Telling : Type 0 where
  pub board : List ℕ
  pub all : List Operation

-- what is told is stored as its parts
abbrev pub telling_code : Coded Telling
telling_code = code_by (List ℕ × List Operation) (coded× (coded_list coded_ℕ) operations_code) (λ t. (t.board, t.all))
    (λ p. record { board = p.0; all = p.1 }) (λ _. refl)

-- what is told, by the beginning of the history that it is
abbrev pub telling_of : Reach → Telling
telling_of r = record { board = numbers_of r.book; all = r.log }

-- nothing is published, and nothing queued
abbrev pub unposted : Posted
unposted = record { published = []; queued = [] }

-- operations begin with others
abbrev pub StartsWith : List Operation → List Operation → Type 0
StartsWith ops first = (rest : List Operation) × (ops ≡ first ++ rest)

-- an answer was given by operations that begin with all that the reader saw or was told of before
pub record Sees (old new : Pass) : Type 0 where
  pub board : new.board ≡ old.board
  pub later : StartsWith new.seen old.seen
  pub fits : all_accounts (board_after new.seen) < 2 ^ 63

-- a vehicle's account on a board
abbrev pub balance_on : BoardState → ℕ → Live
balance_on b vid = record { day = b.number; as_of = b.mark; amount = account b vid }

-- what all vehicles owe on a board
abbrev pub total_on : BoardState → Live
total_on b = record { day = b.number; as_of = b.mark; amount = all_accounts b }

-- operations are all that is published and queued
abbrev pub HasAll : List Operation → Posted → Type 0
HasAll ops p = ops ≡ p.published ++ p.queued

-- all that a reader saw or was told of was published, or is queued
abbrev pub WasPosted : Posted → Pass → Type 0
WasPosted p q = StartsWith (p.published ++ p.queued) q.seen
