-- The number by which a vehicle in a stretch is looked up.
use Rattle.std.specs.Prelude.{ℕ, ◌+◌, ◌*◌}
use Rattle.ways_expressway.specs.declared.this_minute.Car.{Car}

-- the number that a vehicle in a stretch is hashed by
abbrev pub hash_number : Car → ℕ
hash_number c = 256 * (256 * (256 * c.stretch.xway + c.stretch.dir) + c.stretch.seg) * 65536 + c.vid
