-- Text that is written in pieces.
use Rattle.std.proofs.Common.{◌≡◌, ℕ, ◌+◌, ◌<◌, ◌≤◌, List, [], ◌∷◌, ◌++◌, length, take, Option, Result, Ok, Err, sym}
use Rattle.std.proofs.Common.{ap, subst, ◌∙◌, arith, append_assoc, append-nil, length-append, ⊎_elim}
use Rattle.std.proofs.lemmas.List.{take-append-le, take_all}
use Rattle.std.proofs.lemmas.Bool.{cases_lt}
use Rattle.std.proofs.Math.Seq.{take-append_seam}
use Rattle.std.proofs.lemmas.Grind.{flat_map-append}
use Rattle.std.specs.Io.KnownBytes.{Appends}
use Rattle.road_time.specs.declared.road.Notice.{Notice}
use Rattle.road_time.specs.Text.{notice_text, out}
use Rattle.day_floor.specs.TextDigests.{TookText}
use Rattle.day_floor.specs.declared.fault.SettleFault.{SettleFault}
use Rattle.day_floor.specs.declared.fault.SettleFault.TheVariants.{KeeperFault, WriteFault, NoMemory}
use Rattle.day_floor.specs.declared.printer.Printer.{Printer}
use Rattle.road_io.specs.Levels.{Level, Adds, AddsFront, AddsPieces, FillsUp}
use Rattle.day_floor.specs.Printing.{Prints, HoldsPiece, IsPrinted, WritesFront, WritesLess, WritesSome, AddsSome, Says}
use Rattle.day_floor.specs.Printing.{HandsOn}
use Rattle.day_floor.proofs.LevelLaws.{fills_after, front_of, some_longer, adds_on}

-- the text of notices stands before that of further ones
pub out_both : (ns ms : List Notice) → out (ns ++ ms) ≡ out ns ++ out ms
out_both ns ms = flat_map-append (λ n. notice_text n ++ 10 ∷ []) ns ms

-- a piece of which the sink took as much as it had room for
pub failed_piece : (p : Printer) (earlier run : List ℕ) (old mid new : Level) → Prints p earlier run old mid →
    FillsUp p.piece.items mid new → FillsUp run old new
failed_piece p earlier run old mid new s h = fills_after old mid new s.handed p.piece.items run s.wrote h s.run_is

-- a piece that was handed on whole
pub whole_piece : (p q : Printer) (earlier run : List ℕ) (old mid new : Level) → Prints p earlier run old mid →
    Adds mid new p.piece.items → q.piece.items ≡ [] →
    ((text : List ℕ) → TookText p.digest text → TookText q.digest (text ++ p.piece.items)) →
    IsPrinted q earlier run old new
whole_piece p q earlier run old mid new s h none took = record {
  none_held = none;
  took = subst (TookText q.digest) (append_assoc earlier s.handed p.piece.items ∙ ap (λ t. earlier ++ t) (sym s.run_is))
      (took (earlier ++ s.handed) s.took);
  wrote = adds_on old mid new s.handed p.piece.items run s.wrote h s.run_is;
}

-- what was handed on is a front of the text and of any longer one
pub handed_front : (p : Printer) (earlier run more : List ℕ) (old now : Level) → Prints p earlier run old now →
    AddsFront (run ++ more) old now
handed_front p earlier run more old now s =
    let parts : s.handed ++ (p.piece.items ++ more) ≡ run ++ more = sym (append_assoc s.handed p.piece.items more)
    ∙ ap (λ t. t ++ more) (sym s.run_is) in
    subst (λ t. AddsFront t old now) parts (front_of old now s.handed (p.piece.items ++ more) s.wrote)

-- all of it but what is held
pub handed_pieces : (p : Printer) (earlier run : List ℕ) (old now : Level) → HoldsPiece p earlier run old now →
    AddsPieces run old now
handed_pieces p earlier run old now h =
    let s = h.prints in
    let size : length run ≡ length s.handed + length p.piece.items = ap length s.run_is
    ∙ length-append s.handed p.piece.items in
    let short = h.short in (
      length s.handed,
      omega arith,
      omega arith,
      λ few. ap length (h.none_yet few),
      subst (Appends old.0 now.0) (sym (ap (take (length s.handed)) s.run_is ∙ take-append_seam s.handed p.piece.items))
          s.wrote.0,
      s.wrote.1,
    )

-- a front of a text that is not all of it is one of a longer one
front_more : (text more : List ℕ) (old new : Option (List ℕ)) → WritesLess text old new →
    WritesLess (text ++ more) old new
front_more text more old new h =
    let few = h.1 in
    let size = length-append text more in
    (h.0, omega arith, subst (Appends old new) (sym (take-append-le h.0 text more (omega arith))) h.2)

-- a front of a text is one of a longer one
front_le : (text more : List ℕ) (old new : Option (List ℕ)) → WritesFront text old new →
    WritesFront (text ++ more) old new
front_le text more old new h =
    ⊎_elim
    (λ (many : length text < h.0).
    (length text, subst (Appends old new) (take_all h.0 text (omega arith) ∙ sym (take-append_seam text more)) h.1))
    (λ (few : h.0 ≤ length text). (h.0, subst (Appends old new) (sym (take-append-le h.0 text more few)) h.1))
    (cases_lt (length text) h.0)

-- some of a text is some of a longer one
pub some_more : (fault : SettleFault) (text more : List ℕ) (old new : Option (List ℕ)) → WritesSome fault text old new →
    WritesSome fault (text ++ more) old new
some_more KeeperFault text more old new h = front_le text more old new h
some_more WriteFault text more old new h = front_more text more old new h
some_more NoMemory text more old new h = front_le text more old new h

-- a printer that takes further notices
pub says_then : (r : Result (Unit {0}) SettleFault) (p q s : Printer) (w v z : Level) (ns ms : List Notice) →
    Says {T = Unit {0}} (Ok tt) p q w v ns → Says r q s v z ms → Says r p s w z (ns ++ ms)
says_then (Ok u) p q s w v z ns ms a b =
    let first = a.0 in
    let second = b.0 in
    let size = length-append ns ms in (
      omega arith,
      λ earlier run old h. subst (λ t. HoldsPiece s earlier t old z)
          (append_assoc run (out ns) (out ms) ∙ ap (λ t. run ++ t) (sym (out_both ns ms)))
          (b.1 earlier (run ++ out ns) old (a.1 earlier run old h)),
    )
says_then (Err fault) p q s w v z ns ms a b =
    λ earlier run old h. subst (λ t. AddsSome fault t old z)
    (append_assoc run (out ns) (out ms) ∙ ap (λ t. run ++ t) (sym (out_both ns ms)))
    (b earlier (run ++ out ns) old (a.1 earlier run old h))

-- a printer that was stopped at some notices was stopped at more
pub says_longer : (fault : SettleFault) (p q : Printer) (w v : Level) (ns ms : List Notice) →
    Says {T = Unit {0}} (Err fault) p q w v ns → Says {T = Unit {0}} (Err fault) p q w v (ns ++ ms)
says_longer fault p q w v ns ms a =
    λ earlier run old h. subst (λ t. AddsSome fault t old v)
    (append_assoc run (out ns) (out ms) ∙ ap (λ t. run ++ t) (sym (out_both ns ms)))
    (some_longer fault old v (run ++ out ns) (out ms) (a earlier run old h))

-- a printer takes none
pub says_none : (p : Printer) (w : Level) → Says {T = Unit {0}} (Ok tt) p p w w []
says_none p w = (omega arith, λ earlier run old h. subst (λ t. HoldsPiece p earlier t old w) (sym (append-nil run)) h)

module _ (p q : Printer) (n : Notice) (held : q.piece.items ≡ p.piece.items ++ (notice_text n ++ 10 ∷ []))
    (same : q.digest ≡ p.digest) where
  -- a printer holds one notice more
  abbrev pub prints_one : (earlier run : List ℕ) (old w : Level) → Prints p earlier run old w →
      Prints q earlier (run ++ out (n ∷ [])) old w
  prints_one earlier run old w h = record {
    handed = h.handed;
    run_is = ap (λ t. t ++ out (n ∷ [])) h.run_is ∙ append_assoc h.handed p.piece.items (out (n ∷ []))
        ∙ ap (λ t. h.handed ++ t) (ap (λ t. p.piece.items ++ t) (append-nil (notice_text n ++ 10 ∷ [])) ∙ sym held);
    took = subst (λ d. TookText d (earlier ++ h.handed)) (sym same) h.took;
    wrote = h.wrote;
  }

  -- and still less than a piece
  pub says_short : (w : Level) → q.notices ≡ p.notices + 1 → length q.piece.items < 65536 →
      Says {T = Unit {0}} (Ok tt) p q w w (n ∷ [])
  says_short w count short = (
    count,
    λ earlier run old h. record {
      prints = prints_one earlier run old w h.prints;
      short = short;
      none_yet = λ few. (let size = length-append run (out (n ∷ [])) in h.none_yet (omega (arith, few, size)));
    },
  )

  -- or a piece, which it hands on
  pub says_piece : (r : Result (Unit {0}) SettleFault) (s : Printer) (w z : Level) → q.notices ≡ p.notices + 1 →
      65536 ≤ length q.piece.items → HandsOn r q s w z → Says r p s w z (n ∷ [])
  says_piece (Ok u) s w z count long hands = (
    hands.0 ∙ count,
    λ earlier run old h.
        let mid = prints_one earlier run old w h.prints in
        let end = hands.1 earlier (run ++ out (n ∷ [])) old mid in
        let size : length (run ++ out (n ∷ [])) ≡ length mid.handed + length q.piece.items = ap length mid.run_is
        ∙ length-append mid.handed q.piece.items in
        record {
          prints = record {
            handed = run ++ out (n ∷ []);
            run_is = sym (append-nil (run ++ out (n ∷ []))) ∙ ap (λ t. (run ++ out (n ∷ [])) ++ t) (sym end.none_held);
            took = end.took;
            wrote = end.wrote;
          };
          short = subst (λ t. length t < 65536) (sym end.none_held) (omega arith);
          none_yet = λ few. (let no : ⊥ = omega (arith, few, size, long) in absurd no);
        },
  )
  says_piece (Err KeeperFault) s w z count long hands = absurd hands
  says_piece (Err WriteFault) s w z count long hands =
      λ earlier run old h. hands earlier (run ++ out (n ∷ [])) old (prints_one earlier run old w h.prints)
  says_piece (Err NoMemory) s w z count long hands = absurd hands

-- want of memory leaves what was handed on
pub says_no_memory : (p q : Printer) (w : Level) (ns : List Notice) → Says {T = Unit {0}} (Err NoMemory) p q w w ns
says_no_memory p q w ns = λ earlier run old h. handed_front p earlier run (out ns) old w h.prints
