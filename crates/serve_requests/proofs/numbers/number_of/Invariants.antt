use Rattle.std.proofs.Common.{◌≡◌, ◌<◌, ◌^◌, take}
use Rattle.std.specs.Str.Parse.{digits_value, AllDigits}
use Rattle.serve_requests.proofs.numbers.number_of.Given as goal

abbrev pub invariant-loop-b : goal.invariant-loop-b
invariant-loop-b l = record {
  value : l.value ≡ digits_value 10 (take l.b-index l.digits);
  digits : AllDigits 10 (take l.b-index l.digits);
  small : l.value < 10 ^ l.b-index;
}
