use Rattle.std.proofs.Common.{◌≡◌, length, rules, arith}
use Rattle.std.specs.VecDeque.{deque_len}
use Rattle.day_floor.proofs.Floors.{fed_small}
use Rattle.day_floor.proofs.floor.Floor.fed.Goals as goal

pub overflow_add-result : goal.overflow_add-result
overflow_add-result c =
    let held : deque_len c.args.self.now.slots ≡ length c.args.self.now.slots.items = search rules in
    let s = c.requires.state in
    let st = c.requires.stands in
    omega (
      arith,
      fed_small c.requires.setting c.args.self.now s st held,
      c.pending.ensures c.requires.setting s st,
      st.settled,
    )

pub returns : goal.returns
returns c = λ g s st. omega (arith, c.pending.ensures g s st, st.settled)
