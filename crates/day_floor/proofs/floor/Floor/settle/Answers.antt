use Rattle.std.proofs.Common.{◌≡◌, ℕ, ◌+◌, ◌-◌, ◌≤◌, length, take, drop, rules, sym, ap, ◌∙◌, arith, subst, Err}
use Rattle.std.specs.VecDeque.{deque_len}
use Rattle.road_time.specs.Day.{given}
use Rattle.day_floor.specs.Answers.{history_of}
use Rattle.day_floor.specs.SettlingBoards.{IsAbreast, PublishesStep, posted_if}
use Rattle.day_floor.specs.Slots.{slots_of}
use Rattle.road_io.specs.Levels.{Level}
use Rattle.day_floor.specs.SettlingRuns.{WritesRun, WritesSomeOfRun, TakesRun, StopsRun, StandsFor as SettlerStandsFor}
use Rattle.day_floor.specs.declared.floor.Floor.{Floor}
use Rattle.day_floor.specs.Shares.{State, mark, least_of}
use Rattle.day_floor.specs.Steps.{after_settle}
use Rattle.day_floor.specs.Floors.{StandsFor}
use Rattle.day_floor.proofs.Sound.{sound_settle}
use Rattle.day_floor.proofs.Settled.{total_is, low, few_rest, waits, reached, on_day, as_settled, as_published}
use Rattle.day_floor.proofs.floor.Floor.settle.Goals as goal

-- so many are to be settled
count_is : (f : Floor) (s : State) (m : ℕ) → m ≡ mark f.inboxes.width s → f.settled ≡ s.settled →
    m - f.settled ≡ mark f.inboxes.width s - s.settled
count_is f s m e h = ap (λ n. n - f.settled) e ∙ ap (λ n. mark f.inboxes.width s - n) h

pub overflow_sub-count : goal.overflow_sub-count
overflow_sub-count g c =
    let e = c.requires.0 in
    let s = c.requires.1 in
    let st = c.requires.2 in
    let f = c.args.self.now in
    let held : deque_len f.slots ≡ length f.slots.items = search rules in
    let to : c.least-mark.result ≡ mark f.inboxes.width s = c.least-mark.ensures s.fed s.share st.inboxes
    ∙ ap (least_of s.share f.inboxes.width) (c.fed.ensures e s st) in
    omega (arith, to, low e f s st held, st.settled)

pub settle-requires-clause-waits : goal.settle-requires-clause-waits
settle-requires-clause-waits g c =
    let e = c.requires.0 in
    let s = c.requires.1 in
    let st = c.requires.2 in
    let f = c.args.self.now in
    let held : deque_len f.slots ≡ length f.slots.items = search rules in
    let to : c.least-mark.result ≡ mark f.inboxes.width s = c.least-mark.ensures s.fed s.share st.inboxes
    ∙ ap (least_of s.share f.inboxes.width) (c.fed.ensures e s st) in
    let count = count_is f s c.least-mark.result to st.settled in (
      given s.found,
      take s.settled s.fed,
      drop s.settled s.fed,
      on_day e f s st held c.args.day (history_of (g.K.Keeper.told c.args.keeper.now)) c.requires.3 c.requires.4,
      waits e f s st held,
      subst (λ n. n ≤ length (drop s.settled s.fed)) (sym count) (few_rest e f s st held),
    )

pub settle-requires-clause-abreast : goal.settle-requires-clause-abreast
settle-requires-clause-abreast g c =
    let f = c.args.self.now in
    let held : deque_len f.slots ≡ length f.slots.items = search rules in
    subst (IsAbreast (g.P.Publisher.posted c.args.publisher.now))
    (sym (total_is c.requires.0 f c.requires.1 c.requires.2 held)) c.requires.5

pub returns-in-Ok-clause-settled : goal.returns-in-Ok-clause-settled
returns-in-Ok-clause-settled g c = λ e s st number history.
    let f = c.args.self.now in
    let held : deque_len f.slots ≡ length f.slots.items = search rules in
    let to : c.least-mark.result ≡ mark f.inboxes.width s = c.least-mark.ensures s.fed s.share st.inboxes
    ∙ ap (least_of s.share f.inboxes.width) (c.fed.ensures e s st) in
    let count = count_is f s c.least-mark.result to st.settled in
    let few = subst (λ n. n ≤ length (drop s.settled s.fed)) (sym count) (few_rest e f s st held) in
    let day = on_day e f s st held c.args.day (history_of (g.K.Keeper.told c.args.keeper.now)) number history in
    let all = c.in-Ok.ensures.settled (given s.found) (take s.settled s.fed) (drop s.settled s.fed) day
    (waits e f s st held) few in
    let n : c.in-Ok.settled ≡ mark f.inboxes.width s = all.0 ∙ ap (λ k. length (take s.settled s.fed) + k) count
    ∙ reached e f s st held in
    let past : g.K.Keeper.told c.settle.new.keeper ≡ g.K.Keeper.told c.args.keeper.now = c.in-Ok.ensures.same in
    let later : history_of (g.K.Keeper.told c.settle.new.keeper) ≡ e.history = ap history_of past ∙ sym history in
    let now : Floor =
    record f { slots = c.settle.new.slots; settler = c.settle.new.self; settled = c.least-mark.result } in (
      n,
      subst (λ k. StandsFor e now (after_settle s k)) (sym n) (record {
        terms = st.terms;
        sound = sound_settle f.inboxes.width f.limits s (mark f.inboxes.width s) st.sound (low e f s st held)
            (omega arith);
        inboxes = st.inboxes;
        slots = as_settled e f s st held (c.least-mark.result - f.settled) count
            (λ a b. c.settle.new.slots.items ≡ slots_of (given s.found) a b) all.2.slots_are;
        homes_width = st.homes_width;
        homes = st.homes;
        settler =
            subst (λ k. SettlerStandsFor c.settle.new.self (given s.found) k e.history
            (take (mark f.inboxes.width s) s.fed)) (sym number)
            (subst (λ k. SettlerStandsFor c.settle.new.self (given s.found) c.args.day k
            (take (mark f.inboxes.width s) s.fed)) later
            (as_settled e f s st held (c.least-mark.result - f.settled) count
            (λ a b. SettlerStandsFor c.settle.new.self (given s.found) c.args.day
            (history_of (g.K.Keeper.told c.settle.new.keeper)) a) all.1));
        settled = to;
        given_is = st.given_is;
        digested = c.in-Ok.ensures.digested ∙ st.digested;
      }),
    )

pub returns-in-Ok-clause-wrote : goal.returns-in-Ok-clause-wrote
returns-in-Ok-clause-wrote g c = λ e s st number history.
    let f = c.args.self.now in
    let held : deque_len f.slots ≡ length f.slots.items = search rules in
    let to : c.least-mark.result ≡ mark f.inboxes.width s = c.least-mark.ensures s.fed s.share st.inboxes
    ∙ ap (least_of s.share f.inboxes.width) (c.fed.ensures e s st) in
    let count = count_is f s c.least-mark.result to st.settled in
    let few = subst (λ n. n ≤ length (drop s.settled s.fed)) (sym count) (few_rest e f s st held) in
    let day = on_day e f s st held c.args.day (history_of (g.K.Keeper.told c.args.keeper.now)) number history in
    let all = c.in-Ok.ensures.settled (given s.found) (take s.settled s.fed) (drop s.settled s.fed) day
    (waits e f s st held) few in
    let n : c.in-Ok.settled ≡ mark f.inboxes.width s = all.0 ∙ ap (λ k. length (take s.settled s.fed) + k) count
    ∙ reached e f s st held in
    let more : c.least-mark.result - f.settled ≡ c.in-Ok.settled - s.settled =
    count ∙ ap (λ k. k - s.settled) (sym n) in
    let wrote = c.in-Ok.ensures.wrote (given s.found) (take s.settled s.fed) (drop s.settled s.fed) day
    (waits e f s st held) few in
    subst (λ k. WritesRun (given s.found) k e.history (take s.settled s.fed)
    (take (c.in-Ok.settled - s.settled) (drop s.settled s.fed)) (g.O.Sink.written c.args.sink.now)
    (g.O.Sink.written c.settle.new.sink)) (sym number)
    (subst (λ k. WritesRun (given s.found) c.args.day k (take s.settled s.fed)
    (take (c.in-Ok.settled - s.settled) (drop s.settled s.fed)) (g.O.Sink.written c.args.sink.now)
    (g.O.Sink.written c.settle.new.sink)) (sym history)
    (subst (λ k. WritesRun (given s.found) c.args.day (history_of (g.K.Keeper.told c.args.keeper.now))
    (take s.settled s.fed) (take k (drop s.settled s.fed)) (g.O.Sink.written c.args.sink.now)
    (g.O.Sink.written c.settle.new.sink)) more wrote))

pub returns-in-Err-clause-stopped : goal.returns-in-Err-clause-stopped
returns-in-Err-clause-stopped g c = λ e s st number history.
    let f = c.args.self.now in
    let held : deque_len f.slots ≡ length f.slots.items = search rules in
    let to : c.least-mark.result ≡ mark f.inboxes.width s = c.least-mark.ensures s.fed s.share st.inboxes
    ∙ ap (least_of s.share f.inboxes.width) (c.fed.ensures e s st) in
    let count = count_is f s c.least-mark.result to st.settled in
    let few = subst (λ n. n ≤ length (drop s.settled s.fed)) (sym count) (few_rest e f s st held) in
    let day = on_day e f s st held c.args.day (history_of (g.K.Keeper.told c.args.keeper.now)) number history in
    let some = c.in-Err.ensures.stopped (given s.found) (take s.settled s.fed) (drop s.settled s.fed) day
    (waits e f s st held) few in
    subst (λ k. WritesSomeOfRun c.in-Err.fault (given s.found) k e.history (take s.settled s.fed)
    (take (mark f.inboxes.width s - s.settled) (drop s.settled s.fed)) (g.O.Sink.written c.args.sink.now)
    (g.O.Sink.written c.settle.new.sink)) (sym number)
    (subst (λ k. WritesSomeOfRun c.in-Err.fault (given s.found) c.args.day k (take s.settled s.fed)
    (take (mark f.inboxes.width s - s.settled) (drop s.settled s.fed)) (g.O.Sink.written c.args.sink.now)
    (g.O.Sink.written c.settle.new.sink)) (sym history)
    (subst (λ k. WritesSomeOfRun c.in-Err.fault (given s.found) c.args.day
    (history_of (g.K.Keeper.told c.args.keeper.now)) (take s.settled s.fed) (take k (drop s.settled s.fed))
    (g.O.Sink.written c.args.sink.now) (g.O.Sink.written c.settle.new.sink)) count some))

pub returns-in-Ok-clause-took : goal.returns-in-Ok-clause-took
returns-in-Ok-clause-took g c = λ e s st number history.
    let f = c.args.self.now in
    let held : deque_len f.slots ≡ length f.slots.items = search rules in
    let to : c.least-mark.result ≡ mark f.inboxes.width s = c.least-mark.ensures s.fed s.share st.inboxes
    ∙ ap (least_of s.share f.inboxes.width) (c.fed.ensures e s st) in
    let count = count_is f s c.least-mark.result to st.settled in
    let few = subst (λ n. n ≤ length (drop s.settled s.fed)) (sym count) (few_rest e f s st held) in
    let day = on_day e f s st held c.args.day (history_of (g.K.Keeper.told c.args.keeper.now)) number history in
    let all = c.in-Ok.ensures.settled (given s.found) (take s.settled s.fed) (drop s.settled s.fed) day
    (waits e f s st held) few in
    let n : c.in-Ok.settled ≡ mark f.inboxes.width s = all.0 ∙ ap (λ k. length (take s.settled s.fed) + k) count
    ∙ reached e f s st held in
    let more : c.least-mark.result - f.settled ≡ c.in-Ok.settled - s.settled =
    count ∙ ap (λ k. k - s.settled) (sym n) in
    let took = c.in-Ok.ensures.took (given s.found) (take s.settled s.fed) (drop s.settled s.fed) day
    (waits e f s st held) few in
    let old : Level = (g.O.Sink.written c.args.sink.now, g.O.Sink.room c.args.sink.now) in
    let now : Level = (g.O.Sink.written c.settle.new.sink, g.O.Sink.room c.settle.new.sink) in
    let plan = g.K.Keeper.plan c.args.keeper.now in
    let left = g.K.Keeper.plan c.settle.new.keeper in
    subst (λ k. TakesRun (given s.found) k e.history (take s.settled s.fed)
    (take (c.in-Ok.settled - s.settled) (drop s.settled s.fed)) old now plan left) (sym number)
    (subst (λ k. TakesRun (given s.found) c.args.day k (take s.settled s.fed)
    (take (c.in-Ok.settled - s.settled) (drop s.settled s.fed)) old now plan left) (sym history)
    (subst (λ k. TakesRun (given s.found) c.args.day (history_of (g.K.Keeper.told c.args.keeper.now))
    (take s.settled s.fed) (take k (drop s.settled s.fed)) old now plan left) more took))

pub returns-in-Err-clause-where_stopped : goal.returns-in-Err-clause-where_stopped
returns-in-Err-clause-where_stopped g c = λ e s st number history.
    let f = c.args.self.now in
    let held : deque_len f.slots ≡ length f.slots.items = search rules in
    let to : c.least-mark.result ≡ mark f.inboxes.width s = c.least-mark.ensures s.fed s.share st.inboxes
    ∙ ap (least_of s.share f.inboxes.width) (c.fed.ensures e s st) in
    let count = count_is f s c.least-mark.result to st.settled in
    let few = subst (λ n. n ≤ length (drop s.settled s.fed)) (sym count) (few_rest e f s st held) in
    let day = on_day e f s st held c.args.day (history_of (g.K.Keeper.told c.args.keeper.now)) number history in
    let some = c.in-Err.ensures.where_stopped (given s.found) (take s.settled s.fed) (drop s.settled s.fed) day
    (waits e f s st held) few in
    let old : Level = (g.O.Sink.written c.args.sink.now, g.O.Sink.room c.args.sink.now) in
    let now : Level = (g.O.Sink.written c.settle.new.sink, g.O.Sink.room c.settle.new.sink) in
    let plan = g.K.Keeper.plan c.args.keeper.now in
    let left = g.K.Keeper.plan c.settle.new.keeper in
    subst (λ k. StopsRun c.in-Err.fault (given s.found) k e.history (take s.settled s.fed)
    (take (mark f.inboxes.width s - s.settled) (drop s.settled s.fed)) old now plan left) (sym number)
    (subst (λ k. StopsRun c.in-Err.fault (given s.found) c.args.day k (take s.settled s.fed)
    (take (mark f.inboxes.width s - s.settled) (drop s.settled s.fed)) old now plan left) (sym history)
    (subst (λ k. StopsRun c.in-Err.fault (given s.found) c.args.day (history_of (g.K.Keeper.told c.args.keeper.now))
    (take s.settled s.fed) (take k (drop s.settled s.fed)) old now plan left) count some))

pub returns-in-Ok-clause-published : goal.returns-in-Ok-clause-published
returns-in-Ok-clause-published g c = λ e s st number history.
    let f = c.args.self.now in
    let held : deque_len f.slots ≡ length f.slots.items = search rules in
    let to : c.least-mark.result ≡ mark f.inboxes.width s = c.least-mark.ensures s.fed s.share st.inboxes
    ∙ ap (least_of s.share f.inboxes.width) (c.fed.ensures e s st) in
    let count = count_is f s c.least-mark.result to st.settled in
    let few = subst (λ n. n ≤ length (drop s.settled s.fed)) (sym count) (few_rest e f s st held) in
    let day = on_day e f s st held c.args.day (history_of (g.K.Keeper.told c.args.keeper.now)) number history in
    as_published e f s st held (c.least-mark.result - f.settled) count
    (λ k cs m. g.P.Publisher.posted c.settle.new.publisher ≡ posted_if k cs m
    (g.P.Publisher.posted c.args.publisher.now))
    (c.in-Ok.ensures.published (given s.found) (take s.settled s.fed) (drop s.settled s.fed) day
    (waits e f s st held) few)

pub returns-in-Err-clause-published : goal.returns-in-Err-clause-published
returns-in-Err-clause-published g c = λ e s st number history.
    let f = c.args.self.now in
    let held : deque_len f.slots ≡ length f.slots.items = search rules in
    let to : c.least-mark.result ≡ mark f.inboxes.width s = c.least-mark.ensures s.fed s.share st.inboxes
    ∙ ap (least_of s.share f.inboxes.width) (c.fed.ensures e s st) in
    let count = count_is f s c.least-mark.result to st.settled in
    let few = subst (λ n. n ≤ length (drop s.settled s.fed)) (sym count) (few_rest e f s st held) in
    let day = on_day e f s st held c.args.day (history_of (g.K.Keeper.told c.args.keeper.now)) number history in
    as_published e f s st held (c.least-mark.result - f.settled) count
    (λ k cs m. PublishesStep {T = ℕ} (Err c.in-Err.fault) k cs m (g.P.Publisher.posted c.args.publisher.now)
    (g.P.Publisher.posted c.settle.new.publisher))
    (c.in-Err.ensures.published (given s.found) (take s.settled s.fed) (drop s.settled s.fed) day
    (waits e f s st held) few)

pub returns-in-Ok-clause-abreast : goal.returns-in-Ok-clause-abreast
returns-in-Ok-clause-abreast g c = λ e s st number history.
    let f = c.args.self.now in
    let now : Floor =
    record f { slots = c.settle.new.slots; settler = c.settle.new.self; settled = c.least-mark.result } in
    let held : deque_len now.slots ≡ length now.slots.items = search rules in
    let all = returns-in-Ok-clause-settled g c e s st number history in
    subst (IsAbreast (g.P.Publisher.posted c.settle.new.publisher))
    (total_is e now (after_settle s c.in-Ok.settled) all.1 held) c.in-Ok.ensures.abreast
