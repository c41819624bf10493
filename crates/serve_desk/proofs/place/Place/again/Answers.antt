use Rattle.std.proofs.Common.{◌≡◌, ◌≤◌, length, Some, ap, sym, subst, ◌∙◌}
use Rattle.keep_office.specs.Office.{Office, IsSound}
use Rattle.serve_desk.specs.History.{told_at}
use Rattle.serve_desk.proofs.place.Place.again.Goals as goal

pub invariant_of-result : goal.invariant_of-result
invariant_of-result g c =
    let mine = c.args.self.now in
    let same = c.again.ensures in
    record {
      book = ap (λ s. s.book) same ∙ mine.book;
      counted = ap (λ s. length s.log) same ∙ mine.counted;
      sound = subst
          (λ log. 1 ≤ mine.count → (o : Office) → told_at g.K.Keeper.told log mine.count ≡ Some o → IsSound o)
          (sym (ap (λ s. s.log) same)) mine.sound;
    }
