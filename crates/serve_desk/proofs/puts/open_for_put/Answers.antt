use Rattle.serve_desk.specs.History.{told_at}
use Rattle.serve_desk.proofs.HoldLaws.{sound_in}
use Rattle.serve_desk.proofs.puts.open_for_put.Goals as goal

pub unsettle-requires : goal.unsettle-requires
unsettle-requires g c =
    let k = c.read_last_day.new.kept in
    sound_in (told_at g.K.Keeper.told k.place.seen.log k.place.count) (g.K.Keeper.told k.keeper) k.settled k.told_is
    k.sound c.read_last_day.ensures.sound
