use Rattle.std.proofs.Common.{◌≡◌, ◌∙◌, Option, Some, None, Err, inl, inr, refl, sym}
use Rattle.office_words.specs.declared.command.WordFault.{WordFault}
use Rattle.office_words.specs.declared.command.WordFault.TheVariants as fault
use Rattle.serve_top.specs.Endings.{Counts, EndsRun}
use Rattle.serve_top.specs.Meaning.{ReadsServing}
use Rattle.serve_top.specs.declared.ending.ServerEnd.TheVariants.{Words, NoMemory}
use Rattle.serve_top.specs.declared.served_words.Serving.{Serving}
use Rattle.serve_top.proofs.serving.serve_words.Goals as goal

-- want of memory may end each run in which nothing was counted
no_memory : (meant : Option Serving) (counts : Counts) → EndsRun meant counts counts NoMemory
no_memory None counts = (inr refl, refl)
no_memory (Some serving) counts = (refl, refl)

-- words that are refused as such mean nothing
wrong_words : (meant : Option Serving) (counts : Counts) (e : WordFault) → ReadsServing meant (Err e) →
    e ≡ fault.Words → EndsRun meant counts counts Words
wrong_words None counts e reads is = (inl refl, refl)
wrong_words (Some serving) counts e reads is = absurd (cc (sym reads ∙ is))

pub returns-in-Err-Words-clause-ends : goal.returns-in-Err-Words-clause-ends
returns-in-Err-Words-clause-ends g c =
    (Words, c.status.ensures, wrong_words _ _ _ c.in-Err-Words.ensures.reads c.in-Err-Words.field-0-is)

pub returns-in-Err-NoMemory-clause-ends : goal.returns-in-Err-NoMemory-clause-ends
returns-in-Err-NoMemory-clause-ends g c =
    (NoMemory, c.status-in-Err-NoMemory.ensures, no_memory _ _)
