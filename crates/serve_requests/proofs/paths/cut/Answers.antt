use Rattle.std.proofs.Common.{◌+◌, ◌-◌, length, drop, arith}
use Rattle.std.proofs.lemmas.List.{take_all, length-drop}
use Rattle.serve_requests.proofs.PathLaws.{cut_found, cut_absent}
use Rattle.serve_requests.proofs.paths.cut.Goals as goal

pub returns-in-Some : goal.returns-in-Some
returns-in-Some c =
    let xs = c.args.text.now in
    let at = c.in-Some.at in
    let found = c.in-Some.ensures in
    let rest = take_all (length xs - (at + 1)) (drop (at + 1) xs) (omega (arith, length-drop (at + 1) xs)) in
    cut_found c.args.byte xs _ at found.0.high found.0.before found.1 rest

pub returns-in-None : goal.returns-in-None
returns-in-None c = cut_absent c.args.byte c.args.text.now c.in-None.ensures
