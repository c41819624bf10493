use Rattle.std.proofs.Common.{rules, ◌≡◌, ◌≢◌, Option, Some, refl, subst, sym, ◌∙◌}
use Rattle.sqlite.specs.declared.error.Error.{Error}
use Rattle.sqlite.specs.declared.error.Error.TheVariants.{SqliteFailure}
use Rattle.sqlite.specs.declared.error.ErrorCode.TheVariants.{OutOfMemory}
use Rattle.keep_writes.specs.Unmade.{IsUnmadeBy}
use Rattle.keep_office.specs.declared.kept.KeepFault.TheVariants.{NoMemory}
use Rattle.keep_files.proofs.database.adopted.Goals as goal

pub returns-in-Some-NoMemory-clause-unmade : goal.returns-in-Some-NoMemory-clause-unmade
returns-in-Some-NoMemory-clause-unmade g c =
    let unmade : c.adopt-kept.result.unmade ≡ Some NoMemory = search rules in
    let told : c.adopt-kept.result.refused ≡ Some (SqliteFailure OutOfMemory) = c.adopt-kept.ensures.memory.0 unmade in
    record {
      memory = refl;
      conn = c.set_clock.new.self;
      from = c.set_clock.ensures;
      keeper = c.adopt-kept.result;
      unmade = unmade;
      why = λ clean.
          subst (λ (refused : Option Error). IsUnmadeBy g.S.Store c.set_clock.new.self c.adopt-kept.result.conn refused)
          told (c.adopt-kept.ensures.why clean);
      kept = λ clean. c.adopt-kept.ensures.kept clean (λ none. absurd (let wrong = sym none ∙ unmade in cc));
      leaves = c.adopt-kept.ensures.leaves;
      crash = c.adopt-kept.ensures.crash;
    }

pub returns-in_default-clause-made : goal.returns-in_default-clause-made
returns-in_default-clause-made g c =
    let roomy : c.adopt-kept.result.unmade ≢ Some NoMemory = search rules in
    record {
      conn = c.set_clock.new.self;
      from = c.set_clock.ensures;
      roomy = roomy;
      why = c.adopt-kept.ensures.why;
      told = c.adopt-kept.ensures.told;
      quiet = c.adopt-kept.ensures.quiet;
      stands = c.adopt-kept.ensures.stands;
      made = c.adopt-kept.ensures.made;
      left = c.adopt-kept.ensures.left;
      there = c.adopt-kept.ensures.there;
      ours = c.adopt-kept.ensures.ours;
      wrote = c.adopt-kept.ensures.wrote;
      rest = c.adopt-kept.ensures.rest;
      kept = c.adopt-kept.ensures.kept;
      leaves = c.adopt-kept.ensures.leaves;
      crash = c.adopt-kept.ensures.crash;
    }
