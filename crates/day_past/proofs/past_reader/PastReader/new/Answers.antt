use Rattle.std.proofs.Common.{◌++◌, [], Some, refl, ap, arith}
use Rattle.day_past.proofs.past_reader.PastReader.new.Goals as goal

pub returns-clause-reading : goal.returns-clause-reading
returns-clause-reading c = λ base limits bytes.
    let fresh = c.in_ok-cutter.ensures in
    record {
      before = [];
      taken = [];
      now = bytes;
      ahead_is = ap (λ h. Some (h ++ bytes)) fresh.0;
      bytes_are = refl;
      has_taken = c.new-2.ensures.none;
      read_is = refl;
      number_is = fresh.3;
      rows_are = c.new-3.ensures base;
    }

pub returns-clause-gathers : goal.returns-clause-gathers
returns-clause-gathers c = λ base. ([], c.new-3.ensures base)

pub returns-clause-read : goal.returns-clause-read
returns-clause-read c = λ bytes.
    let fresh = c.in_ok-cutter.ensures in (
      record {
        taken = [];
        now = bytes;
        ahead_is = ap (λ h. Some (h ++ bytes)) fresh.0;
        bytes_are = refl;
        count = c.new-2.ensures.empty;
      },
      omega arith,
    )
