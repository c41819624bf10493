use Rattle.std.proofs.Common.{◌≡◌, ◌<◌, arith, sym, ap, ◌∙◌, unwrap_or}
use Rattle.std.specs.Map.{lookup}
use Rattle.road_time.specs.Notes.{notes_of_vehicle}
use Rattle.ways_expressway.specs.KeptSpeeds.{KeptSpeeds}
use Rattle.ways_expressway.specs.Parts.{sum_for, same_car, no_sum, shown_flow, flow_in}
use Rattle.ways_expressway.proofs.NoteParts.{none_later, all_later}
use Rattle.ways_expressway.proofs.speeds.Speeds.roll.Goals as goal

pub returns-clause-kept : goal.returns-clause-kept
returns-clause-kept c = λ notes st.
    let was : c.self.inside.minute ≡ c.args.self.now.minute = ap (λ (s : KeptSpeeds). s.minute) c.self.view_is in
    let asked = c.requires in
    let later : c.args.self.now.minute < c.args.minute = omega (arith, was, asked) in
    let first = st.first in
    record {
      first = omega (arith, later, first);
      none_after = all_later notes c.args.self.now.minute c.args.minute later st.none_after;
      slow = st.slow;
      few = st.few;
      sums = λ k v. ap (λ es. unwrap_or (lookup (same_car (record { stretch = k; vid = v })) es) no_sum)
          c.forget.ensures
          ∙ sym (ap (λ zs. sum_for (notes_of_vehicle zs v))
          (none_later notes c.args.self.now.minute c.args.minute k later st.none_after));
      flows = λ k m h. ap (λ (s : KeptSpeeds). shown_flow (flow_in s.rings k m)) c.self.view_is
          ∙ st.flows k m (omega (arith, later, h));
    }
