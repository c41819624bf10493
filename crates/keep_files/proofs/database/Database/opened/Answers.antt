use Rattle.std.proofs.Common.{ℕ, List, inl, inr, subst, string_bytes}
use Rattle.keep_files.specs.declared.kept.Kept.TheVariants.{Trees, Whole}
use Rattle.keep_files.specs.Looks.{FindsTrees}
use Rattle.keep_files.specs.Openings.{FromPath, AsTrees, AsWhole}
use Rattle.keep_files.specs.Origins.{at_first, by_query}
use Rattle.keep_files.proofs.OriginLaws.{read_given}
use Rattle.keep_files.proofs.database.Database.opened.Goals as goal

-- trees were opened at the path
pub returns-in-Ok-Trees-clause-tried : goal.returns-in-Ok-Trees-clause-tried
returns-in-Ok-Trees-clause-tried g c none =
    inl (
      AsTrees c.in-Ok-Trees.trees,
      (read_given g.S.Opens.gives c.as_str.result.now (string_bytes c.args.self.now.path) c.in-Ok-Trees.field-0
          (Trees c.in-Ok-Trees.trees)
          c.as_str.ensures.value c.in-Ok-Trees.field-0-is c.in-Ok-Trees.ensures.opened),
    )

pub returns-in-Ok-Trees-clause-ready : goal.returns-in-Ok-Trees-clause-ready
returns-in-Ok-Trees-clause-ready g c = (
  subst (FindsTrees g.P.Pages) c.in-Ok-Trees.field-0-is c.in-Ok-Trees.ensures.found,
  at_first (AsTrees c.in-Ok-Trees.trees)
      (read_given g.S.Opens.gives c.as_str.result.now (string_bytes c.args.self.now.path) c.in-Ok-Trees.field-0
      (Trees c.in-Ok-Trees.trees)
      c.as_str.ensures.value c.in-Ok-Trees.field-0-is c.in-Ok-Trees.ensures.opened),
)

-- nothing was
pub returns-in-Err-clause-tried : goal.returns-in-Err-clause-tried
returns-in-Err-clause-tried g c none =
    inr (
      c.in-Err.cause,
      inl
          (subst (λ (p : List ℕ). g.S.Opens.refuses (FromPath p) c.in-Err.cause) c.as_str.ensures.value
          c.in-Err.ensures.refused),
    )

pub returns-in-Err-clause-refused : goal.returns-in-Err-clause-refused
returns-in-Err-clause-refused g c =
    inl
    (subst (λ (p : List ℕ). g.S.Opens.refuses (FromPath p) c.in-Err.cause) c.as_str.ensures.value
    c.in-Err.ensures.refused)

-- a connection was, and is asked for what it lists
pub made-requires : goal.made-requires
made-requires g c =
    by_query c.in-Ok-Whole.conn c.lists_nothing.new.conn
    (at_first (AsWhole c.in-Ok-Whole.conn)
    (read_given g.S.Opens.gives c.as_str.result.now (string_bytes c.args.self.now.path) c.in-Ok-Whole.field-0
    (Whole c.in-Ok-Whole.conn)
    c.as_str.ensures.value c.in-Ok-Whole.field-0-is c.in-Ok-Whole.ensures.opened))
    c.lists_nothing.ensures

pub returns-then-lists_nothing-clause-tried : goal.returns-then-lists_nothing-clause-tried
returns-then-lists_nothing-clause-tried g c none =
    inl (
      AsWhole c.in-Ok-Whole.conn,
      (read_given g.S.Opens.gives c.as_str.result.now (string_bytes c.args.self.now.path) c.in-Ok-Whole.field-0
          (Whole c.in-Ok-Whole.conn)
          c.as_str.ensures.value c.in-Ok-Whole.field-0-is c.in-Ok-Whole.ensures.opened),
    )

pub whole-requires : goal.whole-requires
whole-requires g c =
    by_query c.in-Ok-Whole.conn c.lists_nothing.new.conn
    (at_first (AsWhole c.in-Ok-Whole.conn)
    (read_given g.S.Opens.gives c.as_str.result.now (string_bytes c.args.self.now.path) c.in-Ok-Whole.field-0
    (Whole c.in-Ok-Whole.conn)
    c.as_str.ensures.value c.in-Ok-Whole.field-0-is c.in-Ok-Whole.ensures.opened))
    c.lists_nothing.ensures

pub returns-clause-tried : goal.returns-clause-tried
returns-clause-tried g c none =
    inl (
      AsWhole c.in-Ok-Whole.conn,
      (read_given g.S.Opens.gives c.as_str.result.now (string_bytes c.args.self.now.path) c.in-Ok-Whole.field-0
          (Whole c.in-Ok-Whole.conn)
          c.as_str.ensures.value c.in-Ok-Whole.field-0-is c.in-Ok-Whole.ensures.opened),
    )
