-- What who answers sessions, one after another, has seen: of the board by its reader, and of the history of the keeper.
use Rattle.std.specs.Prelude.{◌≡◌, List, [], ◌++◌, refl}
use Rattle.std.specs.Coded.{Coded, code_by, coded×, coded_list}
use Rattle.std.proofs.Common.{ap, sym, ◌∙◌}
use Rattle.std.proofs.lemmas.List.{append_assoc, append-nil}
use Rattle.day_floor.specs.Operations.{Operation}
use Rattle.serve_board.specs.Passes.{Pass, StartsWith, pass_code}
use Rattle.serve_desk.specs.History.{GoesOn}

-- what a reader saw of the board, and what the keeper was up to a place in its history
pub record Seated (K : Type 0) : Type 0 where
  pub reader : Pass
  pub log : List K

-- it, of these
abbrev pub seated : {K : Type 0} → Pass → List K → Seated K
seated reader log = record { reader = reader; log = log }

-- it is stored as its parts
abbrev pub seated_code : {K : Type 0} → Coded K → Coded (Seated K)
seated_code {K} code = code_by (Pass × List K) (coded× pass_code (coded_list code)) (λ s. (s.reader, s.log))
    (λ p. record { reader = p.0; log = p.1 }) (λ _. refl)

-- the reader is one of its board, and what was seen, of the board and of the history, goes on from what had been seen
pub record Follows {K : Type 0} (old new : Seated K) : Type 0 where
  pub board : new.reader.board ≡ old.reader.board
  pub had : StartsWith new.reader.seen old.reader.seen
  pub went : GoesOn old.log new.log

-- what begins with operations that begin with others begins with those
further : (xs ys zs : List Operation) → StartsWith ys xs → StartsWith zs ys → StartsWith zs xs
further xs ys zs (r, e) (s, f) = (r ++ s, f ∙ ap (λ l. l ++ s) e ∙ append_assoc xs r s)

-- a history that goes on from one that goes on from another goes on from that
pub onward : {K : Type 0} (xs ys zs : List K) → GoesOn xs ys → GoesOn ys zs → GoesOn xs zs
onward xs ys zs (r, e) (s, f) = (r ++ s, f ∙ ap (λ l. l ++ s) e ∙ append_assoc xs r s)

-- nothing more was seen
pub stays : {K : Type 0} (s : Seated K) → Follows s s
stays {K} s =
    record {
      board = refl;
      had = ([], sym (append-nil s.reader.seen));
      went = ([], sym (append-nil s.log));
    }

-- more was seen, and then more
pub follows_on : {K : Type 0} (old mid new : Seated K) → Follows old mid → Follows mid new → Follows old new
follows_on old mid new a b =
    record {
      board = b.board ∙ a.board;
      had = further old.reader.seen mid.reader.seen new.reader.seen a.had b.had;
      went = onward old.log mid.log new.log a.went b.went;
    }
