-- How an answer of the cutter carries the reading of a history on.
use Rattle.std.proofs.Common.{◌≡◌, ℕ, ◌+◌, ◌≤◌, true, false, Bool, List, [], ◌∷◌, ◌++◌, length, drop, Option, Some}
use Rattle.std.proofs.Common.{None, Result, Ok, Err, IfOk, IfErr, refl, sym, ap, subst, ◌∙◌, append_assoc, arith}
use Rattle.std.specs.Io.KnownBytes.{Consumes, prepend_known}
use Rattle.std.proofs.lemmas.Bool.{cond-true, lt-ltb}
use Rattle.std.proofs.lemmas.List.{append-nil, length_push}
use Rattle.road_time.specs.declared.day.Limits.{Limits}
use Rattle.road_time.specs.Lines.{lines_of}
use Rattle.road_time.specs.Form.{Long}
use Rattle.road_io.specs.Cutter.{Cuts, FirstHas, held, ahead, line_number}
use Rattle.road_io.specs.declared.cutter.LineCutter.{LineCutter}
use Rattle.road_io.specs.declared.cutter.LineFault.TheVariants.{LongLine}
use Rattle.keep_office.specs.PastReads.{PastFault, OfLine, past_reads, past_after, past_at, past_amounts, past_fault}
use Rattle.keep_office.specs.PastReads.{past_kept, past_record}
use Rattle.day_reading.specs.declared.consumed.Consumed.{Consumed}
use Rattle.day_reading.specs.Readings.{HasTaken}
use Rattle.day_reading.proofs.BoundLaws.{nothing_there, read_within, stops_soon}
use Rattle.day_reading.proofs.StepLaws.{cuts_ok, taken_ok}
use Rattle.day_past.specs.declared.outcomes.PastCause.{PastCause}
use Rattle.day_past.specs.declared.outcomes.PastCause.TheVariants as causes
use Rattle.day_past.specs.declared.amounts.Amounts.{Amounts}
use Rattle.day_past.specs.declared.judging.PastStop.{PastStop}
use Rattle.day_past.specs.declared.judging.PastStop.TheVariants.{Row, ReadFault, NoMemory}
use Rattle.day_past.specs.declared.past_reader.PastReader.{PastReader}
use Rattle.day_past.specs.declared.history.History.{History}
use Rattle.day_past.specs.Rows.{HasRows}
use Rattle.day_past.specs.Readings.{JudgesRow, ReadsPastOn, EndsPast, RefusesPast, Steps, EndsReadingPast, ReadsPast}
use Rattle.day_past.specs.Readings.{HasReadPastOf, StopsPastAfter, StopsSoonAt}
use Rattle.day_past.specs.Imports.{most_past}

-- there is a first line, and it is long
long_first : (lines : List (List ℕ)) → FirstHas 201 lines → (line : List ℕ) × (rest : List (List ℕ))
    × (lines ≡ line ∷ rest) × (201 ≤ length line)
long_first [] h = absurd h
long_first (l ∷ ls) h = (l, ls, refl, h)

-- what was cut short is a long line
long_there : (before after : Option (List ℕ)) (line bs : List ℕ) (n : ℕ) → Cuts (Err (LongLine n)) before after line →
    before ≡ Some bs → FirstHas 201 (lines_of bs)
long_there None after line bs n c e = let bad : ⊥ = cc in absurd bad
long_there (Some xs) after line bs n c e = let same : xs ≡ bs = cc in subst (λ ys. FirstHas 201 (lines_of ys)) same c.0

-- where nothing is ahead, nothing is left
none_left : (bs : List ℕ) (left : Option (List ℕ)) → prepend_known bs left ≡ Some [] → left ≡ Some []
none_left bs None e = let bad : ⊥ = cc in absurd bad
none_left [] (Some xs) e = e
none_left (b ∷ bs) (Some xs) e = let bad : ⊥ = cc in absurd bad

module _ (base : ℕ) (limits : Limits) (bytes : List ℕ) where
  -- a line more
  pub next_line : (before after : Option (List ℕ)) (line rest : List ℕ) (number number' : ℕ)
      (consumed consumed' : Consumed) (old new : Amounts)
      → ReadsPastOn before number consumed old base limits bytes → Cuts (Ok true) before after line →
      Consumes before after rest → number' ≡ number + 1
      → ((taken : List ℕ) → HasTaken consumed taken → HasTaken consumed' (taken ++ rest)) →
      JudgesRow None base limits number' line old new
      → ReadsPastOn after number' consumed' new base limits bytes
  next_line before after line rest number number' consumed consumed' old new s cuts takes next counts judged =
      let cut = cuts_ok before after line s.now cuts s.ahead_is in
      let front = taken_ok before after rest s.now cut.0 takes s.ahead_is cut.1 in
      let line_is = judged s.before (omega (arith, next, s.number_is)) s.rows_are in
      record {
        before = s.before ++ line ∷ [];
        taken = s.taken ++ rest;
        now = cut.0;
        ahead_is = cut.1;
        bytes_are = s.bytes_are ∙ ap (λ xs. s.taken ++ xs) front ∙ sym (append_assoc s.taken rest cut.0);
        has_taken = counts s.taken s.has_taken;
        read_is = s.read_is ∙ ap (past_after base limits s.before) cut.2
            ∙ ap (λ f. past_at base s.before f (past_after base limits (s.before ++ line ∷ []) (lines_of cut.0)))
            line_is.0;
        number_is = omega (arith, next, s.number_is, length_push s.before line);
        rows_are = line_is.1;
      }

  -- what is read where a line is refused
  refused_at : (before : List (List ℕ)) (now line : List ℕ) (lines : List (List ℕ)) (fault : PastFault) →
      past_reads bytes base limits ≡ past_after base limits before (lines_of now)
      → lines_of now ≡ line ∷ lines → past_fault base limits before line ≡ Some fault → past_reads bytes base limits
      ≡ record { rows = past_amounts base before; refused = Some (length before + 1, fault) }
  refused_at before now line lines fault e cut f =
      e ∙ ap (past_after base limits before) cut
      ∙ ap (λ k. past_at base before k (past_after base limits (before ++ line ∷ []) lines)) f

  -- a line that is refused
  pub refused_line : (before after : Option (List ℕ)) (line : List ℕ) (number number' n : ℕ) (cause : PastCause)
      (consumed : Consumed) (old new : Amounts)
      → ReadsPastOn before number consumed old base limits bytes → Cuts (Ok true) before after line →
      number' ≡ number + 1
      → JudgesRow (Some (Row n cause)) base limits number' line old new → RefusesPast n cause base limits bytes
  refused_line before after line number number' n cause consumed old new s cuts next judged =
      let cut = cuts_ok before after line s.now cuts s.ahead_is in
      let size : length s.before + 1 ≡ number' = omega (arith, next, s.number_is) in
      let f = judged.1 s.before size s.rows_are in (
        f.0,
        ap (λ r. r.refused) (refused_at s.before s.now line (lines_of cut.0) f.0 s.read_is cut.2 f.1)
            ∙ ap (λ k. Some (k, f.0)) (size ∙ sym judged.0),
        f.2,
      )

  -- a line that is long
  pub long_line : (before after : Option (List ℕ)) (line : List ℕ) (number n : ℕ) (consumed : Consumed)
      (amounts : Amounts)
      → ReadsPastOn before number consumed amounts base limits bytes → Cuts (Err (LongLine n)) before after line →
      n ≡ number + 1 → RefusesPast n causes.Long base limits bytes
  long_line before after line number n consumed amounts s cuts next =
      let l = long_first (lines_of s.now) (long_there before after line s.now n cuts s.ahead_is) in
      let fault : past_fault base limits s.before l.0 ≡ Some (OfLine Long) =
      cond-true _ _ _ (lt-ltb 200 (length l.0) (omega (arith, l.3))) in
      let size : length s.before + 1 ≡ n = omega (arith, next, s.number_is) in (
        OfLine Long,
        ap (λ r. r.refused) (refused_at s.before s.now l.0 l.1 (OfLine Long) s.read_is l.2 fault)
            ∙ ap (λ k. Some (k, OfLine Long)) size,
        refl,
      )

  -- the end of the lines
  pub whole_end : (before : Option (List ℕ)) (cutter : LineCutter) (left : Option (List ℕ)) (line : List ℕ) (number : ℕ)
      (consumed : Consumed) (amounts : Amounts)
      → ReadsPastOn before number consumed amounts base limits bytes → Cuts (Ok false) before (ahead cutter left) line →
      EndsPast consumed amounts base limits left bytes
  whole_end before cutter left line number consumed amounts s cuts =
      let end = nothing_there before (ahead cutter left) line s.now cuts s.ahead_is in
      let read : past_reads bytes base limits ≡ record { rows = past_amounts base s.before; refused = None } =
      s.read_is ∙ ap (λ bs. past_after base limits s.before (lines_of bs)) end.0 in
      let all : bytes ≡ s.taken = s.bytes_are ∙ ap (λ xs. s.taken ++ xs) end.0 ∙ append-nil s.taken in
      record {
        unrefused = ap (λ r. r.refused) read;
        has_taken = subst (HasTaken consumed) (sym all) s.has_taken;
        rows_are = subst (HasRows amounts base) (sym (ap (λ r. r.rows) read)) s.rows_are;
        none_left = none_left (held cutter) left end.1;
      }

  -- why no further line is read, by what the line did
  pub stopped_line : (before after left : Option (List ℕ)) (line : List ℕ) (number number' : ℕ) (consumed : Consumed)
      (old new : Amounts) (r : PastReader) (stop : PastStop)
      → ReadsPastOn before number consumed old base limits bytes → Cuts (Ok true) before after line →
      number' ≡ number + 1
      → JudgesRow (Some stop) base limits number' line old new → Steps (Err stop) r base limits left bytes
  stopped_line before after left line number number' consumed old new r (Row n cause) s cuts next judged =
      refused_line before after line number number' n cause consumed old new s cuts next judged
  stopped_line before after left line number number' consumed old new r ReadFault s cuts next judged = absurd judged
  stopped_line before after left line number number' consumed old new r NoMemory s cuts next judged = tt

-- the reading stops where a line is refused
pub refused_steps : (stop : PastStop) (n : ℕ) (cause : PastCause) (reader : PastReader) (base : ℕ) (limits : Limits)
    (left : Option (List ℕ)) (bytes : List ℕ) → stop ≡ Row n cause → RefusesPast n cause base limits bytes →
    Steps (Err stop) reader base limits left bytes
refused_steps stop n cause reader base limits left bytes e h =
    subst (λ (s : PastStop). Steps (Err s) reader base limits left bytes) (sym e) h

-- the reading ended whole
pub ends_whole : (r : Result Bool PastStop) (reader : PastReader) (base : ℕ) (limits : Limits) (left : Option (List ℕ))
    (bytes : List ℕ) → r ≡ Ok false → Steps r reader base limits left bytes →
    EndsReadingPast None reader base limits left bytes
ends_whole r reader base limits left bytes e h = subst (λ s. Steps s reader base limits left bytes) e h

-- the reading stopped
pub ends_stopped : (stop : PastStop) (reader : PastReader) (base : ℕ) (limits : Limits) (left : Option (List ℕ))
    (bytes : List ℕ) → Steps (Err stop) reader base limits left bytes →
    EndsReadingPast (Some stop) reader base limits left bytes
ends_stopped (Row n cause) reader base limits left bytes h = h
ends_stopped ReadFault reader base limits left bytes h = tt
ends_stopped NoMemory reader base limits left bytes h = tt

-- a history is not read that stopped
pub reads_stopped : (stop : PastStop) (reader : PastReader) (base : ℕ) (limits : Limits) (left : Option (List ℕ))
    (bytes : List ℕ) → EndsReadingPast (Some stop) reader base limits left bytes →
    ReadsPast (Err stop) base limits left bytes
reads_stopped (Row n cause) reader base limits left bytes h = h
reads_stopped ReadFault reader base limits left bytes h = tt
reads_stopped NoMemory reader base limits left bytes h = tt

-- a history that was read whole, unless memory ran out
pub reads_kept : (r : Result History PastStop) (reader : PastReader) (base : ℕ) (limits : Limits)
    (left : Option (List ℕ)) (bytes : List ℕ) → EndsReadingPast None reader base limits left bytes
    → IfOk r (λ h. (h.past ≡ past_record base bytes (past_reads bytes base limits).rows)
    × (h.rows.items ≡ past_kept (past_reads bytes base limits).rows)) → IfErr r (λ stop. stop ≡ NoMemory) →
    ReadsPast r base limits left bytes
reads_kept (Ok h) reader base limits left bytes e exact stops = (e.unrefused, exact.0, exact.1, e.none_left)
reads_kept (Err stop) reader base limits left bytes e exact stops =
    subst (λ (s : PastStop). ReadsPast (Err s) base limits left bytes) (sym stops) tt

-- a reader reads a history no further than its line limit and one buffer
pub past_within : (r : PastReader) (limits : Limits) (left : Option (List ℕ)) (bytes : List ℕ) →
    HasReadPastOf r left bytes
    → line_number r.cutter ≤ limits.past + 1 → (count : ℕ) × (count ≤ most_past limits) ×
    (left ≡ Some (drop count bytes))
past_within r limits left bytes s few =
    read_within r.cutter left r.consumed bytes (most_past limits) s.0 (omega (arith, r.few_bytes, few))

-- a reader that a refused line stopped read no more than one buffer behind it
pub past_soon : (stop : PastStop) (r : PastReader) (left : Option (List ℕ)) (bytes : List ℕ) →
    HasReadPastOf r left bytes → StopsPastAfter stop (line_number r.cutter) → StopsSoonAt stop bytes left
past_soon (Row line cause) r left bytes s after =
    stops_soon r.cutter left r.consumed bytes (line_number r.cutter) line s r.few_bytes after
past_soon ReadFault r left bytes s after = tt
past_soon NoMemory r left bytes s after = tt

-- a line that is refused is the one that was cut
pub judged_after : (stop : PastStop) (base : ℕ) (limits : Limits) (number : ℕ) (line : List ℕ) (old new : Amounts) →
    JudgesRow (Some stop) base limits number line old new → StopsPastAfter stop number
judged_after (Row n cause) base limits number line old new judged = omega (arith, judged.0)
judged_after ReadFault base limits number line old new judged = absurd judged
judged_after NoMemory base limits number line old new judged = tt
