use Rattle.std.proofs.Common.{arith}
use Rattle.day_floor.proofs.floor.Floor.room.Goals as goal

pub overflow_sub-result : goal.overflow_sub-result
overflow_sub-result c =
    omega (
      arith,
      c.pending.ensures c.requires.setting c.requires.state c.requires.stands,
      c.requires.stands.sound.pending,
    )

pub returns : goal.returns
returns c = λ g s st. omega (arith, c.pending.ensures g s st, st.sound.pending)
