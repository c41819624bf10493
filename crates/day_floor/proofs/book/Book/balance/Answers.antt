use Rattle.std.proofs.Common.{◌≡◌, arith, ap}
use Rattle.day_floor.specs.Books.{Accounts}
use Rattle.day_floor.proofs.BookLaws.{sum_few}
use Rattle.day_floor.proofs.book.Book.balance.Goals as goal

pub returns-in-Some-clause-few : goal.returns-in-Some-clause-few
returns-in-Some-clause-few c =
    let made : c.self.inside.made ≡ c.args.self.now.made = ap (λ (s : Accounts). s.made) c.self.view_is in
    let few =
    sum_few c.self.inside.vehicles.entries c.self.inside.further.entries c.self.inside.total c.self.inside.made
    c.self.invariant c.args.vid c.in-Some.vehicle.now c.in-Some.ensures.value in
    omega (arith, made, few)
