use Rattle.std.proofs.Common.{◌≡◌, ◌∙◌, ap, sym, subst}
use Rattle.keep_office.specs.Calls.{SoundIfTold}
use Rattle.serve_desk.specs.History.{told_at}
use Rattle.serve_desk.proofs.HoldLaws.{sound_in, sound_of}
use Rattle.serve_desk.proofs.kept.Kept.hold.Goals as goal

pub invariant_of-result : goal.invariant_of-result
invariant_of-result g c =
    let told = g.K.Keeper.told in
    let k = c.read_last_day-looked.new.kept in
    let a = c.again in
    let here = told_at told k.place.seen.log k.place.count in
    let same : told_at told a.result.seen.log a.result.count ≡ here =
    ap (λ log. told_at told log a.result.count) a.ensures.log ∙ ap (λ n. told_at told k.place.seen.log n) a.ensures.count
    in
    record {
      begun = λ n is. absurd (cc is);
      next = λ n is. absurd (cc is);
      sound = sound_of (told_at told a.result.seen.log a.result.count)
          (subst SoundIfTold (sym same)
          (sound_in here (told k.keeper) k.settled k.told_is k.sound c.read_last_day-looked.ensures.sound));
    }
