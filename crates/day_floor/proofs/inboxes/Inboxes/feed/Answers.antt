use Rattle.std.proofs.Common.{◌≡◌, ℕ, List, [], ◌∷◌, ◌++◌, None, refl, sym, subst}
use Rattle.road_time.specs.declared.road.Tuple.{Tuple}
use Rattle.road_time.specs.declared.road.Tuple.TheVariants.{Report as ReportTuple, Balance, Spent, Travel}
use Rattle.road_time.specs.declared.road.Report.{Report}
use Rattle.road_time.specs.Tuples.{report_of}
use Rattle.road_time.proofs.AllowedLaws.{no_report}
use Rattle.day_floor.specs.Stands.{StandsFor}
use Rattle.day_floor.specs.declared.inboxes.Inboxes.{Inboxes}
use Rattle.day_floor.specs.Shares.{Share}
use Rattle.day_floor.specs.Steps.{fed_to}
use Rattle.day_floor.specs.Desks.{IsDesk, with_events, StandFor}
use Rattle.day_floor.proofs.Inbox.{nothing_more}
use Rattle.day_floor.proofs.inboxes.Inboxes.feed.Goals as goal

-- a tuple that is no report changes nothing
no_event : (i : Inboxes) (day : List Tuple) (share : ℕ → Share) (x : Tuple) → report_of x ≡ None →
    ((w : ℕ) → fed_to w i.width day x (share w) ≡ with_events [] (share w)) → StandFor i day share →
    StandFor i (day ++ x ∷ []) (λ w. fed_to w i.width day x (share w))
no_event i day share x none same st = record {
  width = st.width;
  some = st.some;
  few = st.few;
  tracker = subst (StandsFor i.tracker) (sym (no_report day x none)) st.tracker;
  desks = λ w d at. subst (IsDesk d) (sym (same w)) (nothing_more d (share w) (st.desks w d at));
}

pub returns-in-Report-clause-fed : goal.returns-in-Report-clause-fed
returns-in-Report-clause-fed c = rw c.in-Report.is c.feed_report.ensures.fed

-- a tuple that is no report has none
none_of : (x : Tuple) → ((r : Report) → x ≡ ReportTuple r → ⊥) → report_of x ≡ None
none_of (ReportTuple r) h = absurd (h r refl)
none_of (Balance time vid qid) h = refl
none_of (Spent time vid xway qid day) h = refl
none_of (Travel time) h = refl

-- and no event
no_events : (w width : ℕ) (day : List Tuple) (x : Tuple) (share : Share) → report_of x ≡ None →
    fed_to w width day x share ≡ with_events [] share
no_events w width day (ReportTuple r) share none = let no : ⊥ = cc in absurd no
no_events w width day (Balance time vid qid) share none = refl
no_events w width day (Spent time vid xway qid of_day) share none = refl
no_events w width day (Travel time) share none = refl

pub returns-in_default-clause-fed : goal.returns-in_default-clause-fed
returns-in_default-clause-fed c = λ day share st at.
    let x = c.args.tuple.now in
    let i = c.args.self.now in
    let none = none_of x c.in_default.not-Report in
    no_event i day share x none (λ w. no_events w i.width day x (share w) none) st

pub returns-in_default-clause-due : goal.returns-in_default-clause-due
returns-in_default-clause-due c =
    λ day share st. c.of_request.ensures day (none_of c.args.tuple.now c.in_default.not-Report)

pub returns-in-Report-clause-due : goal.returns-in-Report-clause-due
returns-in-Report-clause-due c = rw c.in-Report.is c.feed_report.ensures.due
