-- What a keeper in memory keeps that may begin anew.
use Rattle.road_time.specs.Rates.{Tariffs}
use Rattle.keep_office.specs.declared.memory.MemKeeper.{MemKeeper}
use Rattle.keep_office.specs.Memory.{kept_by}
use Rattle.keep_office.specs.Office.{Office}
use Rattle.keep_office.specs.declared.anew_keeper.AnewKeeper.{AnewKeeper}

-- what a keeper keeps, under other tariffs
abbrev pub under : MemKeeper → Tariffs → Office
under k tariffs =
    record { days = (kept_by k).days; rows = (kept_by k).rows; past = (kept_by k).past; tariffs = tariffs }

-- what a keeper keeps that may begin anew
abbrev pub kept_anew : AnewKeeper → Office
kept_anew k = under k.kept k.tariffs
