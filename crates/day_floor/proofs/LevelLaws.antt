-- What a sink takes of a text.
use Rattle.std.proofs.Common.{◌≡◌, ℕ, ◌+◌, ◌≤◌, List, [], ◌++◌, length, take, sym, ap, subst, ◌∙◌, arith, append-nil}
use Rattle.std.proofs.Common.{length-append}
use Rattle.std.proofs.lemmas.List.{take-append-le}
use Rattle.std.proofs.Math.Seq.{take-append-add, take-append_seam}
use Rattle.std.specs.Io.KnownBytes.{Appends}
use Rattle.road_io.specs.Rooms.{Room, Untold, Bound, Endless, Takes}
use Rattle.road_io.proofs.SinkLaws.{appends_none, appends_on, takes_none, takes_on}
use Rattle.road_io.specs.Levels.{Level, Adds, AddsFront, AddsPieces, Fills, FillsUp}
use Rattle.day_floor.specs.declared.fault.SettleFault.{SettleFault}
use Rattle.day_floor.specs.declared.fault.SettleFault.TheVariants.{KeeperFault, WriteFault, NoMemory}
use Rattle.day_floor.specs.Printing.{WritesFront, WritesLess, AddsSome}

-- a room that was filled after some bytes were taken, by further ones
pub fills_more : (a b c : Room) (m n : ℕ) → Takes a b m → Fills b c n → Fills a c (m + n)
fills_more Untold b c m n h j = tt
fills_more (Bound x) Untold c m n h j = absurd h
fills_more (Bound x) Endless c m n h j = absurd h
fills_more (Bound x) (Bound y) c m n h j = (omega (arith, h, j.0), j.1)
fills_more Endless Untold c m n h j = absurd h
fills_more Endless (Bound y) c m n h j = absurd h
fills_more Endless Endless c m n h j = absurd j

-- no bytes
pub adds_none : (a : Level) → Adds a a []
adds_none a = (appends_none a.0, takes_none a.1)

-- bytes, and then further ones
pub adds_on : (a b c : Level) (xs ys zs : List ℕ) → Adds a b xs → Adds b c ys → zs ≡ xs ++ ys → Adds a c zs
adds_on a b c xs ys zs h k e =
    let size : length zs ≡ length xs + length ys = ap length e ∙ length-append xs ys in (
      appends_on a.0 b.0 c.0 xs ys zs h.0 k.0 e,
      takes_on a.1 b.1 c.1 (length xs) (length ys) (length zs) h.1 k.1
          (sym size),
    )

-- bytes, and then a text of which the room was filled
pub fills_after : (a b c : Level) (xs ys zs : List ℕ) → Adds a b xs → FillsUp ys b c → zs ≡ xs ++ ys → FillsUp zs a c
fills_after a b c xs ys zs h k e =
    let n = length xs + k.0 in
    let front : take n zs ≡ xs ++ take k.0 ys = ap (take n) e ∙ take-append-add xs ys k.0 in
    let size : length zs ≡ length xs + length ys = ap length e ∙ length-append xs ys in
    let few = k.1 in (
      n,
      omega arith,
      appends_on a.0 b.0 c.0 xs (take k.0 ys) (take n zs) h.0 k.2 front,
      fills_more a.1 b.1 c.1
          (length xs) k.0 h.1 k.3,
    )

-- bytes that were taken are the front of any longer text
pub front_of : (a b : Level) (xs more : List ℕ) → Adds a b xs → AddsFront (xs ++ more) a b
front_of a b xs more h =
    let size = length-append xs more in
    (length xs, omega arith, subst (Appends a.0 b.0) (sym (take-append_seam xs more)) h.0, h.1)

-- and of their own
pub front_whole : (a b : Level) (xs : List ℕ) → Adds a b xs → AddsFront xs a b
front_whole a b xs h = subst (λ t. AddsFront t a b) (append-nil xs) (front_of a b xs [] h)

-- the front of a text is one of a longer one
pub front_longer : (a b : Level) (text more : List ℕ) → AddsFront text a b → AddsFront (text ++ more) a b
front_longer a b text more h =
    let size = length-append text more in
    let le = h.1 in
    (h.0, omega arith, subst (Appends a.0 b.0) (sym (take-append-le h.0 text more h.1)) h.2, h.3)

-- a text that was too long for a room is so with more behind it
pub fills_longer : (a b : Level) (text more : List ℕ) → FillsUp text a b → FillsUp (text ++ more) a b
fills_longer a b text more h =
    let size = length-append text more in
    let few = h.1 in
    let le : h.0 ≤ length text = omega arith in
    (h.0, omega arith, subst (Appends a.0 b.0) (sym (take-append-le h.0 text more le)) h.2, h.3)

-- what was taken of a text where a printer was stopped is so of a longer one
pub some_longer : (fault : SettleFault) (a b : Level) (text more : List ℕ) → AddsSome fault text a b →
    AddsSome fault (text ++ more) a b
some_longer KeeperFault a b text more h = absurd h
some_longer WriteFault a b text more h = fills_longer a b text more h
some_longer NoMemory a b text more h = front_longer a b text more h

-- by the text alone
pub text_front : (a b : Level) (text : List ℕ) → AddsFront text a b → WritesFront text a.0 b.0
text_front a b text h = (h.0, h.2)

pub text_less : (a b : Level) (text : List ℕ) → FillsUp text a b → WritesLess text a.0 b.0
text_less a b text h = (h.0, h.1, h.2)

-- pieces of a text are its front
pub front_pieces : (a b : Level) (text : List ℕ) → AddsPieces text a b → AddsFront text a b
front_pieces a b text h = (h.0, h.1, h.4, h.5)
