use Rattle.keep_office.proofs.TariffLaws.{tariffs_set}
use Rattle.keep_office.proofs.SoundLaws.{tariff_sound}
use Rattle.keep_office.proofs.memory.MemOffice.put_tariff.Goals as goal

pub invariant_of-self : goal.invariant_of-self
invariant_of-self c =
    let s = c.args.self.now in
    record {
      sound = tariff_sound s.days.items s.rows.items s.past s.tariffs c.set.new.self s.sound
          (tariffs_set c.set.result s.tariffs c.set.new.self c.args.xway c.args.tariff.now c.set.ensures.set
          c.set.ensures.kept s.sound.tariffs c.requires.valid);
    }
