-- What a run wrote and kept together, from what it wrote and what it kept.
use Rattle.std.proofs.Common.{◌≡◌, ◌⊎◌, inl, inr, ℕ, List, [], take, Option, Some, None, Result, Ok, Err, refl, ap}
use Rattle.std.proofs.Common.{◌∙◌}
use Rattle.std.specs.Io.KnownBytes.{Appends}
use Rattle.road_io.proofs.SinkLaws.{appends_on}
use Rattle.road_io.specs.declared.source.Failed.{Failed}
use Rattle.keep_office.specs.declared.kept.KeepFault.{KeepFault}
use Rattle.keep_office.specs.declared.kept.KeepFault.TheVariants as keeping
use Rattle.keep_office.specs.Calls.{WhenRefused}
use Rattle.keep_office.specs.Office.{Office}
use Rattle.office_commands.specs.declared.closing.Closing.{Closing}
use Rattle.office_commands.specs.declared.closing.Closing.TheVariants.{NoMemory}
use Rattle.office_commands.specs.Closings.{closing_line, status_of}
use Rattle.office_commands.specs.Commands.{Answer}
use Rattle.office_commands.proofs.KeepingLaws.{unchanged}
use Rattle.office_commands.proofs.ClosingLaws.{IsOf, is_of}
use Rattle.office_commands.specs.Endings.{Sort, Own, Unread, Unkept, Unroomed, sort_of, StandsBy, StandsBefore, Wrote}
use Rattle.office_commands.specs.Endings.{LeftBy, KeepsBy, Keeps, Closes, Halted, HoldsBy, Did, SaysLine, Concludes}
use Rattle.office_commands.specs.Endings.{HoldsSame, status_by, ClosesRun, TakesMemory}

module _ (w : WhenRefused) (a : Answer) (was : Office) (old mid : Option (List ℕ)) (now : Option Office) where
  -- by the sort of the closing line
  same_holds : (s : Sort) (c : Closing) (text : List ℕ) → now ≡ Some was → StandsBy s a c text → KeepsBy s w a was now →
      HoldsBy s w a was c text now
  same_holds Own c text same stands keeps = (stands.0, stands.1, keeps)
  same_holds Unread c text same stands keeps = (stands, keeps)
  same_holds Unkept c text same stands keeps = (stands.1, inl (stands.0, same))
  same_holds Unroomed c text same stands keeps = (stands.1, inl (stands.0, same))

  -- a command that is to change nothing
  pub did_unchanged : (r : Result (Option Closing) Failed) → a.office ≡ was → Wrote a r old mid → Keeps w a was now r →
      Did w a was old mid now r
  did_unchanged (Ok (Some c)) still wrote keeps = (
    wrote.0,
    same_holds (sort_of c) c wrote.0 (unchanged w a was now (Ok (Some c)) still keeps) wrote.1 keeps,
    wrote.2,
  )
  did_unchanged (Ok None) still wrote keeps = (wrote.0, wrote.1, keeps)
  did_unchanged (Err e) still wrote keeps = (wrote, keeps)

  -- what a fault leaves
  silent_left : (fault : KeepFault) → [] ≡ a.text → LeftBy w fault a was now → Halted w fault a was [] now
  silent_left fault none (inl same) = (λ alone. refl, inl ((0, refl), same))
  silent_left fault none (inr left) = (λ alone. refl, inr (none, left))

  -- by the sort of the closing line
  silent_holds : (s : Sort) (c : Closing) → [] ≡ a.text → StandsBy s a c [] → KeepsBy s w a was now →
      HoldsBy s w a was c [] now
  silent_holds Own c none stands keeps = (stands.0, stands.1, keeps)
  silent_holds Unread c none stands keeps = (stands, keeps)
  silent_holds Unkept c none stands keeps = silent_left keeping.Failed none keeps
  silent_holds Unroomed c none stands keeps = silent_left keeping.NoMemory none keeps

  -- a command that has a closing line alone, and wrote nothing before it
  pub did_silent : (c : Closing) → [] ≡ a.text → StandsBy (sort_of c) a c [] → KeepsBy (sort_of c) w a was now →
      Appends old mid [] → Did w a was old mid now (Ok (Some c))
  did_silent c none stands keeps wrote = ([], silent_holds (sort_of c) c none stands keeps, wrote)

  module _ (new : Option (List ℕ)) (status : ℕ) where
    said_on : (text : List ℕ) (c : Closing) → Appends old mid text → Closes c status mid new →
        SaysLine text c status old new
    said_on text c wrote (inl h) = inl (h.0, appends_on old mid new text (closing_line c) _ wrote h.1 refl)
    said_on text c wrote (inr h) =
        inr (h.0, (h.1.0, h.1.1, appends_on old mid new text (take h.1.0 (closing_line c)) _ wrote h.1.2 refl))

    said : (text : List ℕ) (c : Closing) → Appends old mid text → ClosesRun c status mid new →
        SaysLine text c status old new ⊎ (TakesMemory c × SaysLine text NoMemory status old new)
    said text c wrote (inl h) = inl (said_on text c wrote h)
    said text c wrote (inr h) = inr (h.0, said_on text NoMemory wrote h.1)

    -- a run and its closing line
    pub concluded : (c : Closing) → Did w a was old mid now (Ok (Some c)) → ClosesRun c status mid new →
        Concludes w a was status old new now
    concluded c did closes = inl (c, did.0, did.1, said did.0 c did.2 closes)

-- a run without a closing line
pub concluded_alone : (w : WhenRefused) (a : Answer) (was : Office) (old new : Option (List ℕ)) (now : Option Office) →
    Did w a was old new now (Ok None) → Concludes w a was 0 old new now
concluded_alone w a was old new now did = inr (inl (did.0, refl, did.1, did.2))

-- a run whose sink failed
pub concluded_less : (w : WhenRefused) (a : Answer) (was : Office) (old new : Option (List ℕ)) (now : Option Office)
    (e : Failed) → Did w a was old new now (Err e) → Concludes w a was 5 old new now
concluded_less w a was old new now e did = inr (inr (refl, did))

-- two runs with one closing line each, if they are one
pub closing_of : (a b : Closing) (r : Result (Option Closing) Failed) → r ≡ Ok (Some a) → r ≡ Ok (Some b) → a ≡ b
closing_of a b r is also = cc

-- what is kept is as it was after a command that ends well once it has put, and did not
pub closing_holds : (w : WhenRefused) (a : Answer) (was : Office) (now : Option Office) (c : Closing) →
    status_by a.closing ≡ 0
    → StandsBefore a c [] → KeepsBy (sort_of c) w a was now → HoldsSame (status_of c) (now ≡ Some was)
closing_holds w a was now c zero stands keeps = go (sort_of c) (is_of c) stands keeps
  where
    go : (s : Sort) → IsOf s c → StandsBy s a c [] → KeepsBy s w a was now → HoldsSame (status_of c) (now ≡ Some was)
    go Own is stands keeps = λ well failed room. absurd (well (ap status_by stands.0 ∙ zero))
    go Unread is stands keeps = λ well failed room. keeps
    go Unkept is stands keeps = λ well failed room. absurd (failed (ap status_of is))
    go Unroomed is stands keeps = λ well failed room. absurd (room (ap status_of is))
