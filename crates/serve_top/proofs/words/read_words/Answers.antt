use Rattle.std.proofs.Common.{◌∙◌, refl, sym, subst, map, string_bytes, Ok, Err}
use Rattle.office_words.specs.declared.command.WordFault.TheVariants.{Words}
use Rattle.office_words.proofs.Meant.{all_text}
use Rattle.serve_top.specs.Meaning.{ReadsServing}
use Rattle.serve_top.proofs.Meant.{on_error, on_matches}
use Rattle.serve_top.proofs.words.read_words.Goals as goal

pub returns-in-Err-clause-reads : goal.returns-in-Err-clause-reads
returns-in-Err-clause-reads c =
    on_error (map string_bytes c.args.words.now) (all_text c.args.words.now) c.in-Err.error c.fault_of.result
    c.in-Err.ensures.kinds c.fault_of.ensures.words

pub returns-in-Some-clause-reads : goal.returns-in-Some-clause-reads
returns-in-Some-clause-reads c =
    let is = on_matches (map string_bytes c.args.words.now) (all_text c.args.words.now) c.in-Ok.matches
    c.in-Ok.ensures.kinds c.in-Ok.ensures.matches in
    subst (λ o. ReadsServing o (Ok c.in-Some.serving)) (c.in-Some.ensures.value ∙ sym is) refl

pub returns-clause-reads : goal.returns-clause-reads
returns-clause-reads c =
    let is = on_matches (map string_bytes c.args.words.now) (all_text c.args.words.now) c.in-Ok.matches
    c.in-Ok.ensures.kinds c.in-Ok.ensures.matches in
    subst (λ o. ReadsServing o (Err Words)) (c.in-None.ensures.value ∙ sym is) tt
