-- The keeper in a file may move between threads.
use denote.RattleType.{RattleType}
use denote.Param.Send.{IsSend, sendable}
use denote.Param.SendFields.{declared_send}
use Rattle.std.proofs.Crossing as Crossing
use Rattle.std.proofs.MapsCrossing as MapsCrossing
use Rattle.sqlite.below.sqlite_std_file.specs.contracts.host.Host as Host
use Rattle.sqlite.below.sqlite_std_file.specs.contracts.host.HostCalls.TheImpl as HostCalls
use Rattle.sqlite.specs.contracts.Wary as Wary
use Rattle.sqlite.below.sqlite_disk.specs.contracts.start.WaryStart.TheImpl as WaryStart
use Rattle.sqlite.below.sqlite_disk.specs.contracts.modelled.Modelled as Modelled
use Rattle.sqlite.below.sqlite_disk.specs.contracts.modelled.ModelledDisk.TheImpl as ModelledDisk
use Rattle.sqlite.below.sqlite_disk.proofs.modelled.Modelled.TheSendSync as ModelledMoves
use Rattle.keep_files.proofs.file_keeper.FileKeeper.TheSendSync as FileKeeperMoves
use Rattle.keep_files.specs.contracts.kept_file.SqliteKeeper.{the_row, the_type}

-- a file of the machine may move
host_moves : IsSend Host.the_row
host_moves = search (MapsCrossing.crosses, Crossing.crosses, sendable) depth 60 fits 20000

-- the file that the database is in
abbrev file : RattleType
file = Modelled.the_row Host.the_row Wary.the_row HostCalls.ghosts WaryStart.ghosts

-- and so may the keeper, which owns one
pub keeper_moves : IsSend the_row
keeper_moves =
    let disk = ModelledDisk.ghosts Host.the_row Wary.the_row HostCalls.ghosts ModelledDisk.no_dict
    WaryStart.ghosts ModelledDisk.no_dict ModelledDisk.no_dict in
    declared_send the_type (
      FileKeeperMoves.the_send file disk
          (ModelledMoves.the_send Host.the_row Wary.the_row HostCalls.ghosts WaryStart.ghosts host_moves),
      tt,
    )
