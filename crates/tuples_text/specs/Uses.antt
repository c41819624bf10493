-- What a field may hold, as the code says it.
use Rattle.road_time.specs.Form.{Use, From, Unused}
use Rattle.tuples_text.specs.declared.tuples.Use.{Use as CodeUse}
use Rattle.tuples_text.specs.declared.tuples.Use.TheVariants as uses

-- what a field may hold, as the definitions say it
abbrev pub use_of : CodeUse → Use
use_of (uses.From low high) = From low high
use_of uses.Unused = Unused
