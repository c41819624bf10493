use Rattle.std.proofs.Common.{ap, refl, ◌∙◌}
use Rattle.std.specs.FinMap.{insert}
use Rattle.day_floor.specs.Entries.{vehicle_at}
use Rattle.day_floor.specs.Books.{Accounts}
use Rattle.day_floor.proofs.BookLaws.{book_made, told_put, spent_told, sound_told}
use Rattle.day_floor.proofs.book.Book.notify.Goals as goal

pub invariant_of-self-2 : goal.invariant_of-self-2
invariant_of-self-2 c =
    let vehicles = c.self.inside.vehicles.entries in
    sound_told vehicles c.tell.new.vehicles.entries c.args.vid
    (record {
      told = c.args.toll;
      sum = (vehicle_at vehicles c.args.vid).sum;
      first =
          (vehicle_at vehicles c.args.vid).first;
    })
    c.in_ok-tell.ensures.told c.self.inside.further.entries c.self.inside.total c.self.inside.made c.self.invariant
    c.in_ok-tell.ensures.apart refl refl c.requires

pub returns-clause-told : goal.returns-clause-told
returns-clause-told c =
    let vehicles = c.self.inside.vehicles.entries in
    book_made
    (told_put vehicles c.tell.new.vehicles.entries c.args.vid
    (record {
      told = c.args.toll;
      sum = (vehicle_at vehicles c.args.vid).sum;
      first =
          (vehicle_at vehicles c.args.vid).first;
    }) c.in_ok-tell.ensures.told
    ∙ ap (λ (s : Accounts). insert s.told c.args.vid c.args.toll) c.self.view_is)
    (spent_told vehicles c.tell.new.vehicles.entries c.args.vid
    (record {
      told = c.args.toll;
      sum = (vehicle_at vehicles c.args.vid).sum;
      first =
          (vehicle_at vehicles c.args.vid).first;
    })
    c.in_ok-tell.ensures.told c.self.inside.further.entries c.self.inside.total c.self.inside.made c.self.invariant
    c.in_ok-tell.ensures.apart refl refl
    ∙ ap (λ (s : Accounts). s.spent) c.self.view_is) (ap (λ (s : Accounts). s.made) c.self.view_is)
