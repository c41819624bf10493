use Rattle.std.proofs.Common.{◌≡◌, ◌-◌, ◌≤◌, ◌∙◌, length, take, drop, sym, ap, arith}
use Rattle.day_floor.specs.Answers.{history_of}
use Rattle.day_floor.specs.Asking.{requests_of}
use Rattle.day_floor.specs.SettlingBoards.{posted_if}
use Rattle.day_floor.specs.Shares.{State, mark}
use Rattle.day_floor.specs.Written.{charged_to}
use Rattle.day_floor.specs.Floors.{Setting, StandsFor}
use Rattle.day_floor.proofs.Marks.{is_mark, settled_le}
use Rattle.day_floor.proofs.Settled.{if_ok}
use Rattle.day_import.proofs.AskedRoundLaws.{settled_asked, stopped_asked}
use Rattle.day_import.proofs.SettleLaws.{if_four, if_fault, text_more}
use Rattle.day_import.proofs.PublishLaws.{posted_ok, posted_err, stepped_settled}
use Rattle.day_import.proofs.FrontLaws.{front_settled}
use Rattle.day_import.proofs.work.settle_done.Goals as goal

pub returns-clause-settled : goal.returns-clause-settled
returns-clause-settled g c =
    let f = c.args.floor.now in
    let w = f.inboxes.width in
    let told = g.K.Keeper.told c.args.keeper.now in
    let (e0, s0, st0, num0, hist0, abreast0) = c.requires in
    if_four c.settle.result
    (λ n settled wrote abreast posted e s st number history.
    let (is, stands) = settled e s st number history in
    let low : s.settled ≤ n = (let l = settled_le w f.limits s st.sound in omega (arith, l, is)) in
    let within : n ≤ length s.fed = (let l = (is_mark w s).within in omega (arith, l, is)) in (
      is,
      stands,
      λ first had. text_more e s n low within first _ _ (wrote e s st number history) had,
      λ before have. stepped_settled f.limits.backlog s n before _ _ _ low within st.sound.pending abreast0
          (posted (e, s, st, number, history)
          ∙ ap (λ m. posted_if (m - s.settled) (charged_to s m) m (g.P.Publisher.posted c.args.publisher.now))
          (sym is)) have,
      abreast e s st number history,
    ))
    c.settle.ensures.settled c.settle.ensures.wrote c.settle.ensures.abreast
    (posted_ok c.settle.result
    (λ (i : (e : Setting) × (s : State) × StandsFor e f s × (e.number ≡ c.args.day)
    × (e.history ≡ history_of told)). mark w i.1 - i.1.settled) (λ i. mark w i.1) (λ i. charged_to i.1 (mark w i.1))
    _ _
    (λ i. c.settle.ensures.published i.0 i.1 i.2 i.3 i.4))

pub returns-clause-stopped : goal.returns-clause-stopped
returns-clause-stopped g c =
    let f = c.args.floor.now in
    if_fault c.settle.result
    (λ fault some e s st number history are later goes fit first had.
    front_settled f.inboxes.width f.limits e s st.terms.some st.sound are later goes fit fault first _ _ had
    (some e s st number history))
    c.settle.ensures.stopped

pub returns-clause-published : goal.returns-clause-published
returns-clause-published g c =
    let f = c.args.floor.now in
    let (e, s, st, number, history, abreast) = c.requires in
    posted_err c.settle.result (mark f.inboxes.width s - s.settled) (mark f.inboxes.width s)
    (charged_to s (mark f.inboxes.width s)) _ _ (c.settle.ensures.published e s st number history)

pub returns-clause-asked : goal.returns-clause-asked
returns-clause-asked g c =
    let f = c.args.floor.now in
    let plan = g.K.Keeper.plan c.args.keeper.now in
    let left = g.K.Keeper.plan c.settle.new.keeper in
    let (e, s, st, number, history, abreast) = c.requires in
    settled_asked c.settle.result plan left
    (if_ok c.settle.result
    (λ n took. (
      requests_of (take (n - s.settled) (drop s.settled s.fed)),
      (took e s st number history).3,
    ))
    c.settle.ensures.took)
    (if_fault c.settle.result
    (λ fault some. stopped_asked fault e s (mark f.inboxes.width s)
    (g.O.Sink.written c.args.sink.now, g.O.Sink.room c.args.sink.now)
    (g.O.Sink.written c.settle.new.sink, g.O.Sink.room c.settle.new.sink) plan left (some e s st number history))
    c.settle.ensures.where_stopped)
