use Rattle.std.proofs.Common.{rules, ◌≡◌, ◌∷◌}
use Rattle.serve_requests.specs.Paths.{parts_of}
use Rattle.serve_requests.proofs.PathLaws.{four_named}
use Rattle.serve_requests.proofs.paths.vehicle_of_text.Goals as goal

pub returns-in-Some : goal.returns-in-Some
returns-in-Some c =
    let x : parts_of c.args.text.now ≡ c.cut.result.0.now ∷ parts_of c.in_default-Some.rest.now = search rules in
    let y : parts_of c.in_default-Some.rest.now ≡ c.cut-2.result.0.now ∷ parts_of c.in_default-Some-cut.rest.now =
    search rules in
    let z : parts_of c.in_default-Some-cut.rest.now ≡ c.cut-3.result.0.now ∷ parts_of c.in-Some.field-0.now =
    search rules in
    record {
      place =
          four_named c.args.text.now _ _ _ c.in_default-Some.rest.now c.in_default-Some-cut.rest.now
          c.in-Some.field-0.now
          x y z;
      within = tt;
    }
