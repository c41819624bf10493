use Rattle.std.proofs.Common.{rules, List, ℕ, subst}
use Rattle.std.specs.Fmt.{IsPlainFormatter, HasWritten}
use Rattle.std.specs.Result.{IsOk}
use Rattle.office_commands.proofs.ShownLaws.{notice_shown, shown}
use Rattle.office_commands.proofs.entry_text.PrintedDisplay.fmt.Goals as goal

pub returns-in-Toll-clause-writes : goal.returns-in-Toll-clause-writes
returns-in-Toll-clause-writes g c =
    let before : IsPlainFormatter {W = g.row.W.Denot} c.args.f.now → IsOk c.write.result →
    HasWritten {W = g.row.W.Denot} g.W.Write.write_str_gives c.args.f.now (notice_shown c.args.self.now.0)
    c.write.new.self = search rules in
    λ plain ok. subst
    (λ (text : List ℕ). HasWritten {W = g.row.W.Denot} g.W.Write.write_str_gives c.args.f.now text c.write.new.self)
    (shown c.args.self.now.0) (before plain ok)

pub returns-in-Alert-clause-writes : goal.returns-in-Alert-clause-writes
returns-in-Alert-clause-writes g c =
    let before : IsPlainFormatter {W = g.row.W.Denot} c.args.f.now → IsOk c.write-in-Alert.result →
    HasWritten {W = g.row.W.Denot} g.W.Write.write_str_gives c.args.f.now (notice_shown c.args.self.now.0)
    c.write-in-Alert.new.self = search rules in
    λ plain ok. subst
    (λ (text : List ℕ). HasWritten {W = g.row.W.Denot} g.W.Write.write_str_gives c.args.f.now text
    c.write-in-Alert.new.self) (shown c.args.self.now.0) (before plain ok)

pub returns-in-Balance-clause-writes : goal.returns-in-Balance-clause-writes
returns-in-Balance-clause-writes g c =
    let before : IsPlainFormatter {W = g.row.W.Denot} c.args.f.now → IsOk c.write-in-Balance.result →
    HasWritten {W = g.row.W.Denot} g.W.Write.write_str_gives c.args.f.now (notice_shown c.args.self.now.0)
    c.write-in-Balance.new.self = search rules in
    λ plain ok. subst
    (λ (text : List ℕ). HasWritten {W = g.row.W.Denot} g.W.Write.write_str_gives c.args.f.now text
    c.write-in-Balance.new.self) (shown c.args.self.now.0) (before plain ok)

pub returns-in-Spent-clause-writes : goal.returns-in-Spent-clause-writes
returns-in-Spent-clause-writes g c =
    let before : IsPlainFormatter {W = g.row.W.Denot} c.args.f.now → IsOk c.write-in-Spent.result →
    HasWritten {W = g.row.W.Denot} g.W.Write.write_str_gives c.args.f.now (notice_shown c.args.self.now.0)
    c.write-in-Spent.new.self = search rules in
    λ plain ok. subst
    (λ (text : List ℕ). HasWritten {W = g.row.W.Denot} g.W.Write.write_str_gives c.args.f.now text
    c.write-in-Spent.new.self) (shown c.args.self.now.0) (before plain ok)
