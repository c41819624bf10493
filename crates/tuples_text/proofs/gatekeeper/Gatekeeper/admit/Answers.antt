use Rattle.std.proofs.Common.{◌≤◌, ◌+◌, Ok, Err, arith, sym, subst}
use Rattle.std.proofs.lemmas.Result.{err_from_is_err_and}
use Rattle.tuples_text.specs.Gates.{StandsFor}
use Rattle.tuples_text.proofs.GateLaws.{report_judged, other_judged, report_admitted, other_admitted}
use Rattle.tuples_text.proofs.gatekeeper.Gatekeeper.admit.Goals as goal
use Rattle.tuples_text.proofs.gatekeeper.Gatekeeper.admit.Goals.{in-Report+in_ok-note, in_default}

pub returns-in_err-note-clause-judged : goal.returns-in_err-note-clause-judged
returns-in_err-note-clause-judged c = λ limits late before st.
    let inside = subst (λ g. StandsFor g limits late before) (sym c.self.view_is) st in
    let soon : c.self.inside.greatest ≤ c.time-time.result + c.self.inside.lateness =
    omega (arith, c.if-from.false, c.from.ensures, c.from-2.ensures, c.from-3.ensures) in
    let p = err_from_is_err_and c.from_residual.result c.from_residual.ensures.1 in
    let q = report_judged _ limits late before c.args.tuple.now c.time-time.result c.in-Report.report
    c.minute.result (Err c.in_err-note.field-0.0) inside c.time-time.ensures soon c.in-Report.is
    c.minute.ensures c.in_err-note.ensures.judged in
    rw (p.1, p.2) q

pub returns-clause-judged : goal.returns-clause-judged
returns-clause-judged c = λ limits late before st.
    let inside = subst (λ g. StandsFor g limits late before) (sym c.self.view_is) st in
    let soon : c.self.inside.greatest ≤ c.time-time.result + c.self.inside.lateness =
    omega (arith, c.if-from.false, c.from.ensures, c.from-2.ensures, c.from-3.ensures) in
    elim c.match-tuple.branch [
      | in-Report+in_ok-note w ↦ report_judged _ limits late before c.args.tuple.now c.time-time.result
          w.in-Report.report w.minute.result (Ok w.in_ok-note.field-0) inside c.time-time.ensures soon
          w.in-Report.is w.minute.ensures w.in_ok-note.ensures.judged
      | in_default w ↦ other_judged _ limits late before c.args.tuple.now c.time-time.result inside
          c.time-time.ensures soon w.in_default.not-Report
    ]

pub returns-clause-admitted : goal.returns-clause-admitted
returns-clause-admitted c = λ limits late before st.
    let x = c.args.tuple.now in
    let time = c.time-time.result in
    let inside = subst (λ g. StandsFor g limits late before) (sym c.self.view_is) st in
    let soon : c.self.inside.greatest ≤ time + c.self.inside.lateness =
    omega (arith, c.if-from.false, c.from.ensures, c.from-2.ensures, c.from-3.ensures) in
    elim c.match-tuple.branch [
      | in-Report+in_ok-note w ↦
          let grown = rw w.self-inside-is at c.max-self-inside.ensures in
          let step =
          report_admitted _ limits late before x time w.in-Report.report w.minute.result w.note.new.seen.entries
          inside c.time-time.ensures soon w.in-Report.is w.minute.ensures w.in_ok-note.ensures.noted
          w.in_ok-note.ensures.number in
          rw (w.self-inside-is, grown) step
      | in_default w ↦
          let grown = rw w.self-inside-is at c.max-self-inside.ensures in
          let step = other_admitted _ limits late before x time inside c.time-time.ensures w.in_default.not-Report in
          rw (w.self-inside-is, grown) step
    ]
