use Rattle.tests_server.proofs.tests.acceptors.serve_new.Given as goal

-- the board whose history was just opened
abbrev pub ghosts-serve_inline-J-BoardNaming : goal.ghosts-serve_inline-J-BoardNaming
ghosts-serve_inline-J-BoardNaming g a = record { board = a.history }

-- the history that was just opened
abbrev pub ghosts-serve_inline-J-Naming : goal.ghosts-serve_inline-J-Naming
ghosts-serve_inline-J-Naming g a = record { book = a.opened.seen.book }
