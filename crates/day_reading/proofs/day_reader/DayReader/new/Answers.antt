use Rattle.std.proofs.Common.{◌++◌, [], Some, refl, ap, arith}
use Rattle.road_io.specs.Cutter.{held}
use Rattle.day_reading.specs.Readings.{HasRead}
use Rattle.day_reading.proofs.GatherLaws.{fit_none}
use Rattle.road_time.proofs.ReadLaws.{allowed_none}
use Rattle.day_reading.proofs.day_reader.DayReader.new.Goals as goal

pub returns-clause-reading : goal.returns-clause-reading
returns-clause-reading c = λ bytes.
    let fresh = c.in_ok-cutter.ensures in
    record {
      line_limit = c.new-2.ensures.limit;
      count = refl;
      front = refl;
      stands = record {
        before = [];
        taken = [];
        now = bytes;
        ahead_is = ap (λ h. Some (h ++ bytes)) fresh.0;
        bytes_are = refl;
        has_taken = c.new-3.ensures.none;
        accepted = refl;
        lines_are = refl;
        number_is = fresh.3;
        gate_is = c.new-2.ensures.gate;
        sorter_is = c.new-2.ensures.sorter;
      };
    }

pub returns-clause-gathering : goal.returns-clause-gathering
returns-clause-gathering c = record {
  line_limit = c.new-2.ensures.limit;
  fit = fit_none c.args.limits.now;
  stands = record {
    before = [];
    allowed = allowed_none c.args.limits.now;
    number_is = c.in_ok-cutter.ensures.3;
    gate_is = c.new-2.ensures.gate;
    gave = (c.new-2.ensures.sorter, refl);
  };
}

pub returns-clause-read : goal.returns-clause-read
returns-clause-read c = λ bytes.
    let fresh = c.in_ok-cutter.ensures in
    let read : HasRead (Some (held c.in_ok-cutter.cutter ++ bytes)) c.new-3.result bytes = record {
      taken = [];
      now = bytes;
      ahead_is = ap (λ h. Some (h ++ bytes)) fresh.0;
      bytes_are = refl;
      count = c.new-3.ensures.empty;
    } in
    (c.new-2.ensures.limit, (read, omega arith))
