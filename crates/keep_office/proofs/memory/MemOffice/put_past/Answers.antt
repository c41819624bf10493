use Rattle.keep_office.proofs.SoundLaws.{past_sound}
use Rattle.keep_office.proofs.memory.MemOffice.put_past.Goals as goal

pub invariant_of-self-2 : goal.invariant_of-self-2
invariant_of-self-2 c =
    let s = c.args.self.now in
    record {
      sound =
          rw c.in_ok-extend_from_slice.ensures.items
          (past_sound s.days.items s.rows.items s.past s.tariffs c.args.kept.now c.args.rows.now s.sound c.requires.fits
          c.requires.first.days c.requires.first.past);
    }
