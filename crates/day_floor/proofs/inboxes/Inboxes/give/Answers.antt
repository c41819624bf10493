use Rattle.std.proofs.Common.{◌≡◌, Some, slice_get, rules}
use Rattle.std.proofs.lemmas.Option.{slice_get_read}
use Rattle.day_floor.specs.Steps.{given_out}
use Rattle.day_floor.proofs.Inbox.{desk_changed}
use Rattle.day_floor.proofs.inboxes.Inboxes.give.Goals as goal

pub returns-clause-some : goal.returns-clause-some
returns-clause-some c = λ day share number st.
    let desks = c.args.self.now.desks.items in
    let at : slice_get desks c.from.result ≡ Some c.index_mut.result.now = search (rules, slice_get_read) in
    let h = c.in_ok-events.ensures.some (share c.args.worker) number
    (st.desks c.args.worker c.index_mut.result.now (search rules)) in (
      h.0,
      h.1,
      record {
        width = st.width;
        some = st.some;
        few = st.few;
        tracker = st.tracker;
        desks = λ w. desk_changed desks c.args.worker c.from.result c.index_mut.result.now c.give.new.self
            (given_out number) (search rules) (search rules) (search (rules, slice_get_read))
            (λ sh d. (c.in_ok-events.ensures.some sh number d).2) w (share w) (st.desks w);
      },
    )
