use Rattle.road_io.specs.Cutter.{line_number}
use Rattle.day_reading.proofs.BoundLaws.{stops_soon}
use Rattle.day_reading.proofs.day_ahead.DayAhead.end.Goals as goal

pub returns-in-Stops-clause-left : goal.returns-in-Stops-clause-left
returns-in-Stops-clause-left g c = λ limits late left bytes given s read.
    let reader = c.args.self.reader in
    stops_soon reader.cutter left reader.consumed bytes (line_number reader.cutter) c.in-Stops.line read.1
    reader.few_bytes
    (c.args.self.stops c.in-Stops.line c.in-Stops.cause c.in-Stops.is)
