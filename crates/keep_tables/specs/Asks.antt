-- Which texts are queries.
use Rattle.std.specs.Prelude.{Bool, true, false, Result, Ok, Err}
use Rattle.sqlite_ast.specs.declared.Statement.{Statement}
use Rattle.sqlite_ast.specs.declared.Statement.TheVariants as written
use Rattle.sqlite_syntax.specs.declared.statement.Parsed.{Parsed}
use Rattle.sqlite_resolve.specs.declared.error.CompileError.{CompileError}

-- whether a statement is a query
abbrev pub is_ask : Statement → Bool
is_ask (written.Select s) = true
is_ask _ = false

-- whether a text is a query
abbrev pub is_ask_text : Result Parsed CompileError → Bool
is_ask_text (Ok p) = is_ask p.statement
is_ask_text (Err e) = false
