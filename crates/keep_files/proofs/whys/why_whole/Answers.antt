use Rattle.std.proofs.Common.{◌∙◌, sym, subst}
use Rattle.keep_files.specs.Whys.{TellsNone}
use Rattle.keep_files.proofs.whys.why_whole.Goals as goal

-- an error was told
pub returns-in-Some : goal.returns-in-Some
returns-in-Some g c =
    record {
      told = λ e is other. c.in-Some.ensures.told e (c.refused.ensures ∙ is) other;
      odd = λ none. absurd (let wrong = c.in-Some.ensures.none (subst TellsNone (sym c.refused.ensures) none) in cc);
    }

-- none was
pub returns-in-None : goal.returns-in-None
returns-in-None g c =
    record {
      told = λ e is other. absurd (c.in-None.ensures.told e (c.refused.ensures ∙ is) other);
      odd = λ none. c.oddity.ensures;
    }
