-- How much of a source's bytes was read.
use Rattle.std.proofs.Common.{◌≡◌, ◌*◌, ℕ, ◌+◌, ◌-◌, ◌≤◌, true, false, List, [], ◌++◌, length, take, drop, Option, Some}
use Rattle.std.proofs.Common.{None, Ok, Err, length-take, min, refl, sym, ap, subst, ◌∙◌, append_assoc, arith}
use Rattle.std.specs.Io.KnownBytes.{Consumes}
use Rattle.std.proofs.lemmas.List.{length-append, drop-drop}
use Rattle.std.proofs.Math.Seq.{drop-append_seam}
use Rattle.road_time.specs.Lines.{lines_of}
use Rattle.road_io.specs.Cutter.{Cuts, ahead, held}
use Rattle.road_io.specs.declared.cutter.LineCutter.{LineCutter}
use Rattle.road_io.specs.declared.cutter.LineFault.{LineFault}
use Rattle.road_io.specs.declared.cutter.LineFault.TheVariants.{LongLine, ReadFault}
use Rattle.day_reading.specs.declared.consumed.Consumed.{Consumed}
use Rattle.road_time.specs.declared.day.Limits.{Limits}
use Rattle.day_reading.specs.declared.day_reader.DayReader.{DayReader}
use Rattle.day_reading.specs.Days.{StopsSoon, most_of_day}
use Rattle.road_io.specs.Within.{ReadsWithin}
use Rattle.day_reading.specs.Readings.{HasRead, HasReadLines, HasReadOf}
use Rattle.day_reading.proofs.LinesLaws.{lines_sum, lines_take, one_line, none_long}
use Rattle.day_reading.proofs.StepLaws.{cuts_ok, taken_ok}

-- a line more was taken
abbrev pub read_line : (before after : Option (List ℕ)) (line rest bytes : List ℕ) (consumed consumed' : Consumed) →
    HasRead before consumed bytes → Cuts (Ok true) before after line → Consumes before after rest
    → consumed'.bytes ≡ consumed.bytes + length rest → HasRead after consumed' bytes
read_line before after line rest bytes consumed consumed' s cuts takes counts =
    let cut = cuts_ok before after line s.now cuts s.ahead_is in
    let front = taken_ok before after rest s.now cut.0 takes s.ahead_is cut.1 in
    record {
      taken = s.taken ++ rest;
      now = cut.0;
      ahead_is = cut.1;
      bytes_are = s.bytes_are ∙ ap (λ xs. s.taken ++ xs) front ∙ sym (append_assoc s.taken rest cut.0);
      count = omega (arith, counts, s.count, length-append s.taken rest);
    }

-- at the end nothing lay ahead, and nothing is left
pub nothing_there : (before after : Option (List ℕ)) (line bs : List ℕ) → Cuts (Ok false) before after line →
    before ≡ Some bs → (bs ≡ []) × (after ≡ Some [])
nothing_there None after line bs c e = let bad : ⊥ = cc in absurd bad
nothing_there (Some xs) after line bs c e = let same : bs ≡ xs = cc in (same ∙ c.0, c.1)

-- the end was reached
abbrev pub read_end : (before after : Option (List ℕ)) (line bytes : List ℕ) (consumed : Consumed) →
    HasRead before consumed bytes → Cuts (Ok false) before after line → HasRead after consumed bytes
read_end before after line bytes consumed s cuts =
    let none = nothing_there before after line s.now cuts s.ahead_is in
    record {
      taken = s.taken;
      now = [];
      ahead_is = none.1;
      bytes_are = s.bytes_are ∙ ap (λ xs. s.taken ++ xs) none.0;
      count = s.count;
    }

-- a fault leaves what lay ahead
pub nothing_taken : (f : LineFault) (before after : Option (List ℕ)) (line bs : List ℕ) → Cuts (Err f) before after line
    → before ≡ Some bs → after ≡ Some bs
nothing_taken f None after line bs c e = let bad : ⊥ = cc in absurd bad
nothing_taken (LongLine n) (Some xs) after line bs c e = c.1 ∙ e
nothing_taken ReadFault (Some xs) after line bs c e = c ∙ e

-- a fault took nothing
abbrev pub read_fault : (f : LineFault) (before after : Option (List ℕ)) (line bytes : List ℕ) (consumed : Consumed) →
    HasRead before consumed bytes → Cuts (Err f) before after line → HasRead after consumed bytes
read_fault f before after line bytes consumed s cuts = record {
  taken = s.taken;
  now = s.now;
  ahead_is = nothing_taken f before after line s.now cuts s.ahead_is;
  bytes_are = s.bytes_are;
  count = s.count;
}

-- what is held fits the buffer
held_few : (c : LineCutter) → length (held c) ≤ 65536
held_few c =
    let n : length (held c) ≡ min (c.end - c.start) (length (drop c.start c.buf.items)) =
    length-take (c.end - c.start) (drop c.start c.buf.items) in omega (arith, n, c.held_end)

left_is : (c : LineCutter) (left : Option (List ℕ)) (now : List ℕ) → ahead c left ≡ Some now → (rest : List ℕ)
    × (left ≡ Some rest) × (now ≡ held c ++ rest)
left_is c None now e = let bad : ⊥ = cc in absurd bad
left_is c (Some rest) now e = (rest, refl, cc)

-- what was taken and is held are the first bytes, and the others are left
pub front_within : (c : LineCutter) (left : Option (List ℕ)) (taken now bytes : List ℕ) (most : ℕ) →
    ahead c left ≡ Some now → bytes ≡ taken ++ now → length taken + 65536 ≤ most
    → (count : ℕ) × (count ≤ most) × (left ≡ Some (drop count bytes))
front_within c left taken now bytes most front all few =
    let l = left_is c left now front in
    let whole : bytes ≡ (taken ++ held c) ++ l.0 = all ∙ ap (λ xs. taken ++ xs) l.2
    ∙ sym (append_assoc taken (held c) l.0) in (
      length (taken ++ held c),
      omega (arith, length-append taken (held c), held_few c, few),
      l.1 ∙ ap (λ xs. Some xs)
          (sym (ap (drop (length (taken ++ held c))) whole ∙ drop-append_seam (taken ++ held c) l.0)),
    )

-- the same of a reader's bytes
pub read_within : (c : LineCutter) (left : Option (List ℕ)) (consumed : Consumed) (bytes : List ℕ) (most : ℕ) →
    HasRead (ahead c left) consumed bytes → consumed.bytes + 65536 ≤ most
    → (count : ℕ) × (count ≤ most) × (left ≡ Some (drop count bytes))
read_within c left consumed bytes most s few =
    front_within c left s.taken s.now bytes most s.ahead_is s.bytes_are (omega (arith, s.count, few))

-- nothing was read
pub nothing_read : (most : ℕ) (left : Option (List ℕ)) → ReadsWithin most left left
nothing_read most left = λ bytes e. (0, omega arith, e)

-- a reader reads a day no further than its line limit and one buffer
pub day_within : (r : DayReader) (limits : Limits) (left : Option (List ℕ)) (bytes : List ℕ) →
    HasReadOf r limits.lines left bytes → (count : ℕ) × (count ≤ most_of_day limits) × (left ≡ Some (drop count bytes))
day_within r limits left bytes s =
    read_within r.cutter left r.consumed bytes (most_of_day limits) s.1.0 (omega (arith, r.few_bytes, r.few_lines, s.0))

-- first so many bytes were read, and then so many
pub within_then : (a b : ℕ) (before mid after : Option (List ℕ)) → ReadsWithin a before mid → ReadsWithin b mid after →
    ReadsWithin (a + b) before after
within_then a b before mid after first then = λ bytes told.
    let x = first bytes told in
    let y = then (drop x.0 bytes) x.2 in
    (x.0 + y.0, omega (arith, x.1, y.1), y.2 ∙ ap (λ xs. Some xs) (drop-drop y.0 x.0 bytes))

-- within a number is within a greater one
pub within_more : (a b : ℕ) (before after : Option (List ℕ)) → a ≤ b → ReadsWithin a before after →
    ReadsWithin b before after
within_more a b before after few read = λ bytes told. let x = read bytes told in (x.0, omega (arith, x.1, few), x.2)

-- a piece more was read
pub left_at : (a n b : ℕ) (bytes : List ℕ) (left : Option (List ℕ)) → a + n ≡ b → left ≡ Some (drop n (drop a bytes)) →
    left ≡ Some (drop b bytes)
left_at a n b bytes left e l = l ∙ ap (λ xs. Some xs) (drop-drop n a bytes ∙ ap (λ k. drop k bytes) e)

-- a line more was taken, of all that were taken
pub lines_on : (before after : Option (List ℕ)) (line rest bytes : List ℕ) (consumed consumed' : Consumed)
    (number number' : ℕ) → HasReadLines before number consumed bytes → Cuts (Ok true) before after line
    → Consumes before after rest → consumed'.bytes ≡ consumed.bytes + length rest → number' ≡ number + 1 →
    HasReadLines after number' consumed' bytes
lines_on before after line rest bytes consumed consumed' number number' s cuts takes counts next =
    let cut = cuts_ok before after line s.0.now cuts s.0.ahead_is in
    let front = taken_ok before after rest s.0.now cut.0 takes s.0.ahead_is cut.1 in
    let one = one_line rest cut.0 line (sym (ap lines_of front) ∙ cut.2) in
    let few : length (lines_of (s.0.taken ++ rest)) ≤ number' =
    omega (arith, lines_sum s.0.taken rest, one, s.1, next) in
    (read_line before after line rest bytes consumed consumed' s.0 cuts takes counts, few)

-- nothing was taken at the end
pub lines_end : (before after : Option (List ℕ)) (line bytes : List ℕ) (consumed : Consumed) (number number' : ℕ) →
    HasReadLines before number consumed bytes → Cuts (Ok false) before after line → number' ≡ number
    → HasReadLines after number' consumed bytes
lines_end before after line bytes consumed number number' s cuts same =
    let few : length (lines_of s.0.taken) ≤ number' = omega (arith, s.1, same) in
    (read_end before after line bytes consumed s.0 cuts, few)

-- nor by a fault
pub lines_fault : (f : LineFault) (before after : Option (List ℕ)) (line bytes : List ℕ) (consumed : Consumed)
    (number number' : ℕ) → HasReadLines before number consumed bytes → Cuts (Err f) before after line → number' ≡ number
    → HasReadLines after number' consumed bytes
lines_fault f before after line bytes consumed number number' s cuts same =
    let few : length (lines_of s.0.taken) ≤ number' = omega (arith, s.1, same) in
    (read_fault f before after line bytes consumed s.0 cuts, few)

-- a reader that cut no more lines than one that is refused read no more than one buffer behind it
pub stops_soon : (c : LineCutter) (left : Option (List ℕ)) (consumed : Consumed) (bytes : List ℕ) (number line : ℕ) →
    HasReadLines (ahead c left) number consumed bytes → consumed.bytes ≤ 201 * number → number ≤ line →
    StopsSoon line bytes left
stops_soon c left consumed bytes number line s short few =
    let taken = s.0.taken in
    let l = left_is c left s.0.now s.0.ahead_is in
    let whole : bytes ≡ (taken ++ held c) ++ l.0 = s.0.bytes_are ∙ ap (λ xs. taken ++ xs) l.2
    ∙ sym (append_assoc taken (held c) l.0) in
    let count = length (taken ++ held c) in
    let most : count - 65536 ≤ length taken = omega (arith, length-append taken (held c), held_few c) in
    let front : length (lines_of (take (count - 65536) bytes)) ≤ length (lines_of taken) =
    subst (λ xs. length (lines_of (take (count - 65536) xs)) ≤ length (lines_of taken)) (sym s.0.bytes_are)
    (lines_take (count - 65536) taken s.0.now most) in (
      count,
      l.1 ∙ ap (λ xs. Some xs) (sym (ap (drop count) whole ∙ drop-append_seam (taken ++ held c) l.0)),
      omega (arith, front, s.1, few),
      omega (arith, length-append taken (held c), held_few c, s.0.count, short, few),
    )

-- where all was taken, nothing is left
pub none_left : (c : LineCutter) (left : Option (List ℕ)) (consumed : Consumed) (bytes : List ℕ) →
    consumed.bytes ≡ length bytes → HasRead (ahead c left) consumed bytes → left ≡ Some []
none_left c left consumed bytes all s =
    let l = left_is c left s.now s.ahead_is in
    let none : length l.0 ≡ 0 =
    omega (
      arith,
      all,
      s.count,
      ap length s.bytes_are,
      length-append s.taken s.now,
      ap length l.2,
      length-append
          (held c) l.0,
    ) in
    l.1 ∙ ap (λ xs. Some xs) (none_long l.0 none)
