-- How a renewal ends.
use Rattle.std.proofs.Common.{◌≡◌, ◌⊎◌, inl, inr, ℕ, ◌^◌, nat_le, Bool, true, false, List, length, Option, Some, None}
use Rattle.std.proofs.Common.{Result, Ok, Err, refl, sym, ap, subst, ◌∙◌, arith}
use Rattle.std.specs.Prelude.{if◌then◌else◌}
use Rattle.std.proofs.lemmas.Bool.{cond-true, cond-false}
use Rattle.road_time.specs.declared.day.SpentRow.{SpentRow}
use Rattle.keep_office.specs.declared.kept.KeepFault.{KeepFault}
use Rattle.keep_office.specs.declared.kept.KeepFault.TheVariants.{Failed, NoMemory}
use Rattle.keep_office.specs.declared.kept.PastRecord.{PastRecord}
use Rattle.road_digest.specs.declared.digest.Digest.{Digest}
use Rattle.road_digest.specs.Digests.{digest_of}
use Rattle.keep_office.specs.Office.{Office, last_day}
use Rattle.keep_office.specs.PastReads.{past_kept}
use Rattle.keep_office.specs.Calls.{WhenRefused, PutsNothing, FailsLate, AllOrNothing, Leaves, Puts}
use Rattle.keep_office.specs.declared.renewing.Renewal.{Renewal}
use Rattle.keep_office.specs.declared.renewing.Renewal.TheVariants.{Renewed, Early, Unfit}
use Rattle.keep_office.specs.Renewed.{anew, renewed, renewed_record, history_rows, history_text, are_fit}
use Rattle.keep_office.specs.Renewals.{RenewAnswer, renewed_if, renew_answer, DoesRenewal, HaltsRenewal, IsRenewedOr}

-- two records of the same parts
same_parts : (a b n k m j : ℕ) (d e : Digest) → a ≡ b → d ≡ e → n ≡ k → m ≡ j →
    ◌≡◌ {A = PastRecord} (record { base = a; digest = d; bytes = n; rows = m })
    (record { base = b; digest = e; bytes = k; rows = j })
same_parts a b n k m j d e p q r s = cc

-- a record is its parts
by_parts : (p : PastRecord) (b n m : ℕ) (d : Digest) → p.base ≡ b → p.digest ≡ d → p.bytes ≡ n → p.rows ≡ m →
    ◌≡◌ {A = PastRecord} p (record { base = b; digest = d; bytes = n; rows = m })
by_parts p b n m d e f g h = same_parts p.base b p.bytes n p.rows m p.digest d e f g h

-- the record that was made is that of the amounts
pub record_is : (base : ℕ) (rows : List SpentRow) (p : PastRecord) → past_kept rows ≡ rows → p.base ≡ base →
    p.digest ≡ digest_of (history_text base rows) → p.bytes ≡ length (history_text base rows) → p.rows ≡ length rows →
    p ≡ renewed_record base rows
record_is base rows p same a b c d =
    by_parts p base (length (history_text base rows)) (length (past_kept rows)) (digest_of (history_text base rows)) a b
    c (d ∙ ap length (sym same))

-- the office that a history that was put makes is the one that began anew
pub office_is : (base : ℕ) (o : Office) (rows : List SpentRow) (p : PastRecord) → rows ≡ history_rows base o →
    past_kept rows ≡ rows → p ≡ renewed_record base rows → anew p rows o ≡ renewed base o
office_is base o rows p is same made =
    ap (λ q. anew q rows o) made ∙ ap (λ kept. anew (renewed_record base rows) kept o) (sym same)
    ∙ ap (λ rs. anew (renewed_record base rs) (past_kept rs) o) is

-- what a put made of an office, in the words of a renewal
abbrev pub PutDoes : WhenRefused → ℕ → Office → Option Office → Result (Unit {0}) KeepFault → Type 0
PutDoes w base was after (Ok u) = after ≡ Some (renewed base was)
PutDoes w base was after (Err k) = (after ≡ Some was) ⊎ ((o : Office) × (after ≡ Some o) × Leaves w k o was (renewed base was))

-- what the put of a history leaves, put in the words of a renewal
pub put_does : (w : WhenRefused) (base : ℕ) (was : Office) (rows : List SpentRow) (p : PastRecord)
    (before after : Option Office) (r : Result (Unit {0}) KeepFault) → before ≡ Some was →
    Puts w before after r (anew p rows) → anew p rows was ≡ renewed base was →
    PutDoes w base was after r
put_does w base was rows p None after r told h e = let bad : ⊥ = cc in absurd bad
put_does w base was rows p (Some o) None r told h e = absurd h
put_does w base was rows p (Some o) (Some q) (Ok u) told h e =
    let same : o ≡ was = cc in ap Some (h ∙ ap (anew p rows) same ∙ e)
put_does w base was rows p (Some o) (Some q) (Err k) told h e =
    let same : o ≡ was = cc in
    inr (
      q,
      refl,
      subst (λ whole. Leaves w k q was whole) e
          (subst (λ x. Leaves w k q x (anew p rows x)) same h),
    )

-- a put that was done: the renewal that says so
pub begun_does : (w : WhenRefused) (base : ℕ) (was : Office) (rows : List SpentRow) (p : PastRecord)
    (after : Option Office) → are_fit base rows ≡ true → rows ≡ history_rows base was → p ≡ renewed_record base rows →
    after ≡ Some (renewed base was) →
    DoesRenewal w (renewed_if (are_fit base rows) base was) was after (Ok (Renewed p))
begun_does w base was rows p after fit is made done =
    subst (λ b. DoesRenewal w (renewed_if b base was) was after (Ok (Renewed p))) (sym fit)
    (ap Renewed (made ∙ ap (renewed_record base) is), done)

-- a put that was not
pub halted_does : (w : WhenRefused) (base : ℕ) (was : Office) (rows : List SpentRow) (k : KeepFault)
    (after : Option Office) → are_fit base rows ≡ true →
    PutDoes w base was after (Err k) →
    DoesRenewal w (renewed_if (are_fit base rows) base was) was after (Err k)
halted_does w base was rows k after fit h =
    subst (λ b. DoesRenewal w (renewed_if b base was) was after (Err k)) (sym fit) h

-- amounts that no history may have
pub unfit_does : (w : WhenRefused) (base : ℕ) (was : Office) (rows : List SpentRow) →
    are_fit base rows ≡ false → DoesRenewal w (renewed_if (are_fit base rows) base was) was (Some was) (Ok Unfit)
unfit_does w base was rows off =
    subst (λ b. DoesRenewal w (renewed_if b base was) was (Some was) (Ok Unfit)) (sym off) (refl, refl)

-- a base that is not above the last day
pub early_does : (w : WhenRefused) (base last : ℕ) (was : Office) → last ≡ last_day was →
    nat_le base (last_day was) ≡ true →
    DoesRenewal w (renew_answer base was) was (Some was) (Ok (Early last))
early_does w base last was is low =
    subst (λ (a : RenewAnswer). DoesRenewal w a was (Some was) (Ok (Early last))) (sym (cond-true _ _ _ low))
    (ap Early is, refl)

-- one that is
pub later_does : (w : WhenRefused) (base : ℕ) (was : Office) (after : Option Office) (r : Result Renewal KeepFault) →
    nat_le base (last_day was) ≡ false →
    DoesRenewal w (renewed_if (are_fit base (history_rows base was)) base was) was after r →
    DoesRenewal w (renew_answer base was) was after r
later_does w base was after r high h =
    subst (λ (a : RenewAnswer). DoesRenewal w a was after r) (sym (cond-false _ _ _ high)) h

-- a call before the put failed
pub unread_does : (w : WhenRefused) (a : RenewAnswer) (was : Office) (k : KeepFault) (after : Option Office) →
    after ≡ Some was → DoesRenewal w a was after (Err k)
unread_does w a was k after same = inl same

-- what a refused put leaves is the office as it was, or as it would be
either : (w : WhenRefused) (k : KeepFault) (now was whole : Office) → Leaves w k now was whole →
    (now ≡ was) ⊎ (now ≡ whole)
either PutsNothing k now was whole h = inl h
either FailsLate Failed now was whole h = inr h
either FailsLate NoMemory now was whole h = inl h
either AllOrNothing k now was whole h = h

-- the answer, by two tests
abbrev cond_answer : Bool → Bool → ℕ → Office → ℕ → RenewAnswer
cond_answer early fit base was last =
    if early then record { outcome = Early last; office = was } else renewed_if fit base was

-- the office that an answer tells is the old one, or the one that began anew
answered : (base : ℕ) (was : Office) (early fit : Bool) (last : ℕ) →
    ((cond_answer early fit base was last).office ≡ was) ⊎ ((cond_answer early fit base was last).office ≡ renewed base was)
answered base was true fit last = inl refl
answered base was false true last = inr refl
answered base was false false last = inl refl

-- all or nothing was done
pub all_or_nothing : (w : WhenRefused) (base : ℕ) (was : Office) (after : Option Office)
    (r : Result Renewal KeepFault) → DoesRenewal w (renew_answer base was) was after r → IsRenewedOr base was after
all_or_nothing w base was after (Ok x) h =
    elim (answered base was (nat_le base (last_day was)) (are_fit base (history_rows base was)) (last_day was)) [
      | inl old ↦ inl (h.1 ∙ ap Some old)
      | inr new ↦ inr (h.1 ∙ ap Some new)
    ]
all_or_nothing w base was after (Err k) (inl same) = inl same
all_or_nothing w base was after (Err k) (inr left) =
    elim (either w k left.0 was (renew_answer base was).office left.2) [
      | inl old ↦ inl (left.1 ∙ ap Some old)
      | inr whole ↦ elim (answered base was (nat_le base (last_day was)) (are_fit base (history_rows base was))
          (last_day was)) [
            | inl old ↦ inl (left.1 ∙ ap Some (whole ∙ old))
            | inr new ↦ inr (left.1 ∙ ap Some (whole ∙ new))
          ]
    ]
