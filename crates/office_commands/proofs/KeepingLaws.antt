-- What is kept in all, from what a command kept and what closed it.
use Rattle.std.proofs.Common.{◌≡◌, ◌≢◌, inl, inr, ℕ, List, Option, Some, None, Result, Ok, Err, sym, ap, ◌∙◌}
use Rattle.std.proofs.Common.{arith}
use Rattle.road_io.specs.declared.source.Failed.{Failed}
use Rattle.keep_office.specs.declared.kept.KeepFault.{KeepFault}
use Rattle.keep_office.specs.Calls.{WhenRefused, PutsNothing, FailsLate, AllOrNothing, Leaves}
use Rattle.keep_office.specs.Office.{Office}
use Rattle.office_commands.specs.declared.closing.Closing.{Closing}
use Rattle.office_commands.specs.Closings.{status_of}
use Rattle.office_commands.specs.Commands.{Answer}
use Rattle.office_commands.specs.Endings.{Sort, Own, Unread, Unkept, Unroomed, sort_of, LeftBy, KeepsBy, Keeps}
use Rattle.office_commands.specs.Endings.{IsOldOrWhole, ClosesRun, refusing}
use Rattle.office_commands.proofs.ClosingLaws.{IsOf, is_of}
use Rattle.keep_office.specs.declared.kept.KeepFault.TheVariants as keeping

-- what a refused put leaves is all or nothing
leaves_whole : (w : WhenRefused) (fault : KeepFault) (a : Answer) (was : Office) (now : Option Office) (o : Office) →
    now ≡ Some o → Leaves w fault o was a.office → IsOldOrWhole a was now
leaves_whole PutsNothing fault a was now o e h = inl (e ∙ ap (λ x. Some x) h)
leaves_whole FailsLate keeping.Failed a was now o e h = inr (e ∙ ap (λ x. Some x) h)
leaves_whole FailsLate keeping.NoMemory a was now o e h = inl (e ∙ ap (λ x. Some x) h)
leaves_whole AllOrNothing fault a was now o e (inl h) = inl (e ∙ ap (λ x. Some x) h)
leaves_whole AllOrNothing fault a was now o e (inr h) = inr (e ∙ ap (λ x. Some x) h)

-- and so what a fault leaves
left_whole : (w : WhenRefused) (fault : KeepFault) (a : Answer) (was : Office) (now : Option Office) →
    LeftBy w fault a was now → IsOldOrWhole a was now
left_whole w fault a was now (inl h) = inl h
left_whole w fault a was now (inr h) = leaves_whole w fault a was now h.0 h.1 h.2

module _ (w : WhenRefused) (a : Answer) (was : Office) (now : Option Office) where
  -- by the sort of the closing line
  whole_by : (s : Sort) → KeepsBy s w a was now → IsOldOrWhole a was now
  whole_by Own h = inr h
  whole_by Unread h = inl h
  whole_by Unkept h = left_whole w keeping.Failed a was now h
  whole_by Unroomed h = left_whole w keeping.NoMemory a was now h

  -- what is kept after any run is what was kept, or all that is asked
  pub kept_whole : (r : Result (Option Closing) Failed) → Keeps w a was now r → IsOldOrWhole a was now
  kept_whole (Ok (Some c)) h = whole_by (sort_of c) h
  kept_whole (Ok None) h = inr h
  kept_whole (Err e) h = inl h

  -- the same, where all is as it was
  same_by : (s : Sort) → a.office ≡ was → now ≡ Some was → KeepsBy s w a was now
  same_by Own e h = h ∙ ap (λ x. Some x) (sym e)
  same_by Unread e h = h
  same_by Unkept e h = inl h
  same_by Unroomed e h = inl h

  -- a command that is to change nothing changed nothing
  pub kept_same : (r : Result (Option Closing) Failed) → a.office ≡ was → now ≡ Some was → Keeps w a was now r
  kept_same (Ok (Some c)) e h = same_by (sort_of c) e h
  kept_same (Ok None) e h = h ∙ ap (λ x. Some x) (sym e)
  kept_same (Err x) e h = h

  -- the same of a closing line
  pub closing_same : (c : Closing) → a.office ≡ was → now ≡ Some was → KeepsBy (sort_of c) w a was now
  closing_same c e h = same_by (sort_of c) e h

  -- a refusal leaves what a refused put leaves
  pub refused_keeps : (fault : KeepFault) → LeftBy w fault a was now → KeepsBy (sort_of (refusing fault)) w a was now
  refused_keeps keeping.Failed h = h
  refused_keeps keeping.NoMemory h = h

  module _ (mid new : Option (List ℕ)) (status : ℕ) where
    abbrev ClosedBy : Closing → Type 0
    ClosedBy c = ClosesRun c status mid new

    -- a run that met no fault keeps what is asked
    pub kept_exact : (c : Closing) → KeepsBy (sort_of c) w a was now → ClosedBy c → status ≢ 4 → status ≢ 5 → status ≢ 6
        → status ≢ 8 → now ≡ Some a.office
    kept_exact c s (inr (takes, inl h)) r f k m = absurd (m h.0)
    kept_exact c s (inr (takes, inr h)) r f k m = absurd (f h.0)
    kept_exact c s (inl (inr h)) r f k m = absurd (f h.0)
    kept_exact c s (inl (inl h)) r f k m = go (sort_of c) (is_of c) s
      where
        go : (x : Sort) → IsOf x c → KeepsBy x w a was now → now ≡ Some a.office
        go Own is keeps = keeps
        go Unread is keeps = absurd (r (h.0 ∙ ap status_of is))
        go Unkept is keeps = absurd (k (h.0 ∙ ap status_of is))
        go Unroomed is keeps = absurd (m (h.0 ∙ ap status_of is))

    -- after a keeper's fault what a refused put leaves is kept
    pub kept_refused : (c : Closing) → KeepsBy (sort_of c) w a was now → ClosedBy c → status ≡ 6 →
        LeftBy w keeping.Failed a was now
    kept_refused c s (inr (takes, inl h)) e = absurd (omega (arith, h.0, e))
    kept_refused c s (inr (takes, inr h)) e = absurd (omega (arith, h.0, e))
    kept_refused c s (inl (inr h)) e = absurd (omega (arith, h.0, e))
    kept_refused c s (inl (inl h)) e = go (sort_of c) (is_of c) s
      where
        go : (x : Sort) → IsOf x c → KeepsBy x w a was now → LeftBy w keeping.Failed a was now
        go Own is keeps = absurd (is.2 (sym h.0 ∙ e))
        go Unread is keeps = absurd (omega (arith, h.0 ∙ ap status_of is, e))
        go Unkept is keeps = keeps
        go Unroomed is keeps = absurd (omega (arith, h.0 ∙ ap status_of is, e))

-- what is kept whole and is to stay is as it was
pub whole_same : (a : Answer) (was : Office) (now : Option Office) → a.office ≡ was → IsOldOrWhole a was now →
    now ≡ Some was
whole_same a was now e (inl h) = h
whole_same a was now e (inr h) = h ∙ ap (λ x. Some x) e

-- a command that is to change nothing leaves what was kept, however it ends
pub unchanged : (w : WhenRefused) (a : Answer) (was : Office) (now : Option Office) (r : Result (Option Closing) Failed)
    → a.office ≡ was → Keeps w a was now r → now ≡ Some was
unchanged w a was now r e h = whole_same a was now e (kept_whole w a was now r h)
