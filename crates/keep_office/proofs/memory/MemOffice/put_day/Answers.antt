use Rattle.std.proofs.Common.{arith, ◌≡◌, ◌++◌, ◌∷◌, [], IsOk, ap, ◌∙◌}
use Rattle.std.proofs.lemmas.Bool.{cond-true}
use Rattle.keep_office.proofs.SoundLaws.{day_sound}
use Rattle.keep_office.proofs.memory.MemOffice.put_day.Goals as goal

pub invariant_of-self-2 : goal.invariant_of-self-2
invariant_of-self-2 c =
    let s = c.args.self.now in
    let room : IsOk c.push.result = c.push.ensures.succeeds (omega (arith, c.in_ok-reserve.ensures.ok)) in
    let joined : c.push.new.self.items ≡ s.days.items ++ c.args.kept.now ∷ [] = c.push.ensures.items
    ∙ cond-true _ _ _ room ∙ ap (λ ds. ds ++ c.args.kept.now ∷ []) c.reserve.ensures.items in
    record {
      sound =
          rw (joined, c.in_ok-extend_from_slice.ensures.items)
          (day_sound s.days.items s.rows.items s.past s.tariffs c.args.kept.now c.args.rows.now s.sound c.requires.fits
          c.requires.later);
    }
