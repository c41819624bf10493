use Rattle.std.proofs.Common.{◌≡◌, length, rules, arith}
use Rattle.std.specs.VecDeque.{deque_len}
use Rattle.day_floor.proofs.Floors.{count, few, small}
use Rattle.day_floor.proofs.floor.Floor.pending.Goals as goal

pub overflow_cast-result : goal.overflow_cast-result
overflow_cast-result c =
    let held : deque_len c.args.self.now.slots ≡ length c.args.self.now.slots.items = search rules in
    let s = c.requires.state in
    let st = c.requires.stands in
    let len : c.len.result ≡ deque_len c.args.self.now.slots = search rules in
    omega (
      arith,
      few c.requires.setting c.args.self.now s st held,
      small c.requires.setting c.args.self.now s st held,
      len,
    )

pub returns : goal.returns
returns c = λ g s st.
    let held : deque_len c.args.self.now.slots ≡ length c.args.self.now.slots.items = search rules in
    let len : c.len.result ≡ deque_len c.args.self.now.slots = search rules in
    omega (arith, count g c.args.self.now s st held, len)
