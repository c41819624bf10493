-- What was written and kept in all, from what a command wrote and kept and what closed it.
use Rattle.std.proofs.Common.{◌≡◌, ◌≢◌, inl, inr, ℕ, ◌++◌, List, take, Option, Some, None, Ok, refl, sym, ap}
use Rattle.std.proofs.Common.{subst, ◌∙◌, arith}
use Rattle.std.proofs.lemmas.List.{append-nil}
use Rattle.std.specs.Io.KnownBytes.{Appends}
use Rattle.road_io.proofs.SinkLaws.{appends_on}
use Rattle.office_commands.specs.declared.closing.Closing.{Closing}
use Rattle.office_commands.specs.declared.closing.Closing.TheVariants.{ReadFault, KeeperFault, NoMemory}
use Rattle.office_commands.specs.Closings.{closing_line, status_of}
use Rattle.office_commands.specs.Commands.{Answer}
use Rattle.office_commands.specs.Endings.{Sort, Own, Unread, Unkept, Unroomed, sort_of, StandsBy, StandsByFault, Wrote}
use Rattle.office_commands.specs.Endings.{ClosesRun, WroteAll, WroteFault, WroteSome, last_line, status_by}
use Rattle.office_commands.proofs.ClosingLaws.{IsOf, is_of, fault_of}

module _ (a : Answer) (old mid new : Option (List ℕ)) (status : ℕ) where
  -- a closing line was written, or the sink failed in it, or memory ran out and its line was
  abbrev Closed : Closing → Type 0
  Closed c = ClosesRun c status mid new

  -- the whole text and the command's own line were written
  named : (c : Closing) (text : List ℕ) → Some c ≡ a.closing → text ≡ a.text → Appends old mid text →
      status ≡ status_of c → Appends mid new (closing_line c) → (status ≡ status_by a.closing) × WroteAll a old new
  named c text e t w s l = (
    s ∙ ap status_by e,
    appends_on old mid new text (closing_line c) _ w l
        (ap (λ x. x ++ last_line a.closing) (sym t) ∙ ap (λ o. text ++ last_line o) (sym e)),
  )

  -- a fault's line after some first bytes of the text
  faulted : (c f : Closing) (text : List ℕ) → c ≡ f → StandsByFault a text → Appends old mid text →
      Appends mid new (closing_line c) → WroteFault a f old new
  faulted c f text is stands w l = (
    text,
    stands,
    appends_on old mid new text (closing_line f) _ w
        (subst (λ x. Appends mid new (closing_line x)) is l) refl,
  )

  -- a run that met no fault wrote the whole text and the command's own closing line
  pub exact : (c : Closing) → Wrote a (Ok (Some c)) old mid → Closed c → status ≢ 4 → status ≢ 5 → status ≢ 6 →
      status ≢ 8 → (status ≡ status_by a.closing) × WroteAll a old new
  exact c w (inr (takes, inl h)) r f k m = absurd (m h.0)
  exact c w (inr (takes, inr h)) r f k m = absurd (f h.0)
  exact c w (inl (inr h)) r f k m = absurd (f h.0)
  exact c w (inl (inl h)) r f k m = go (sort_of c) (is_of c) w.1
    where
      go : (s : Sort) → IsOf s c → StandsBy s a c w.0 → (status ≡ status_by a.closing) × WroteAll a old new
      go Own is stands = named c w.0 stands.0 stands.1 w.2 h.0 h.1
      go Unread is stands = absurd (r (h.0 ∙ ap status_of is))
      go Unkept is stands = absurd (k (h.0 ∙ ap status_of is))
      go Unroomed is stands = absurd (m (h.0 ∙ ap status_of is))

  -- a run ends with status 4 only after a read fault
  pub read_fault : (c : Closing) → Wrote a (Ok (Some c)) old mid → Closed c → status ≡ 4 →
      WroteFault a ReadFault old new
  read_fault c w (inr (takes, inl h)) e = absurd (omega (arith, h.0, e))
  read_fault c w (inr (takes, inr h)) e = absurd (omega (arith, h.0, e))
  read_fault c w (inl (inr h)) e = absurd (omega (arith, h.0, e))
  read_fault c w (inl (inl h)) e = go (sort_of c) (is_of c) w.1
    where
      go : (s : Sort) → IsOf s c → StandsBy s a c w.0 → WroteFault a ReadFault old new
      go Own is stands = absurd (is.0 (sym h.0 ∙ e))
      go Unread is stands = faulted c ReadFault w.0 is stands w.2 h.1
      go Unkept is stands = absurd (omega (arith, h.0 ∙ ap status_of is, e))
      go Unroomed is stands = absurd (omega (arith, h.0 ∙ ap status_of is, e))

  -- with status 6 only after a keeper's
  pub keeper_fault : (c : Closing) → Wrote a (Ok (Some c)) old mid → Closed c → status ≡ 6 →
      WroteFault a KeeperFault old new
  keeper_fault c w (inr (takes, inl h)) e = absurd (omega (arith, h.0, e))
  keeper_fault c w (inr (takes, inr h)) e = absurd (omega (arith, h.0, e))
  keeper_fault c w (inl (inr h)) e = absurd (omega (arith, h.0, e))
  keeper_fault c w (inl (inl h)) e = go (sort_of c) (is_of c) w.1
    where
      go : (s : Sort) → IsOf s c → StandsBy s a c w.0 → WroteFault a KeeperFault old new
      go Own is stands = absurd (is.2 (sym h.0 ∙ e))
      go Unread is stands = absurd (omega (arith, h.0 ∙ ap status_of is, e))
      go Unkept is stands = faulted c KeeperFault w.0 is stands w.2 h.1
      go Unroomed is stands = absurd (omega (arith, h.0 ∙ ap status_of is, e))

  -- and with status 8 only with the line of want of memory
  pub no_memory : (c : Closing) → Wrote a (Ok (Some c)) old mid → Closed c → status ≡ 8 → WroteFault a NoMemory old new
  no_memory c w (inr (takes, inl h)) e = faulted NoMemory NoMemory w.0 refl (fault_of a c w.0 w.1) w.2 h.1
  no_memory c w (inr (takes, inr h)) e = absurd (omega (arith, h.0, e))
  no_memory c w (inl (inr h)) e = absurd (omega (arith, h.0, e))
  no_memory c w (inl (inl h)) e = go (sort_of c) (is_of c) w.1
    where
      go : (s : Sort) → IsOf s c → StandsBy s a c w.0 → WroteFault a NoMemory old new
      go Own is stands = absurd (is.3 (sym h.0 ∙ e))
      go Unread is stands = absurd (omega (arith, h.0 ∙ ap status_of is, e))
      go Unkept is stands = absurd (omega (arith, h.0 ∙ ap status_of is, e))
      go Unroomed is stands = faulted c NoMemory w.0 is stands w.2 h.1

  -- where the sink failed at a closing line, some first bytes of it stand there
  pub write_fault : (c : Closing) → Wrote a (Ok (Some c)) old mid → Closed c → status ≡ 5 → WroteSome a old new
  write_fault c w (inr (takes, inl h)) e = absurd (omega (arith, h.0, e))
  write_fault c w (inr (takes, inr h)) e =
      inr (
        NoMemory,
        w.0,
        h.1.0,
        fault_of a c w.0 w.1,
        h.1.1,
        appends_on old mid new w.0
            (take h.1.0 (closing_line NoMemory)) _ w.2 h.1.2 refl,
      )
  write_fault c w (inl (inr h)) e =
      inr (c, w.0, h.1.0, w.1, h.1.1, appends_on old mid new w.0 (take h.1.0 (closing_line c)) _ w.2 h.1.2 refl)
  write_fault c w (inl (inl h)) e = go (sort_of c) (is_of c)
    where
      go : (s : Sort) → IsOf s c → WroteSome a old new
      go Own is = absurd (is.1 (sym h.0 ∙ e))
      go Unread is = absurd (omega (arith, h.0 ∙ ap status_of is, e))
      go Unkept is = absurd (omega (arith, h.0 ∙ ap status_of is, e))
      go Unroomed is = absurd (omega (arith, h.0 ∙ ap status_of is, e))

-- a command without a closing line wrote all
pub all_written : (a : Answer) (old new : Option (List ℕ)) → None ≡ a.closing → Appends old new a.text →
    (0 ≡ status_by a.closing) × WroteAll a old new
all_written a old new e w = (
  ap status_by e,
  subst (λ bytes. Appends old new bytes)
      (sym (append-nil a.text) ∙ ap (λ o. a.text ++ last_line o) e) w,
)
