use Rattle.tests_server.proofs.tests.serving.run.Given as goal

-- the board whose history was just opened
abbrev pub ghosts-run_over-J-BoardNaming : goal.ghosts-run_over-J-BoardNaming
ghosts-run_over-J-BoardNaming g a = record { board = a.history }

-- the history that was just opened
abbrev pub ghosts-run_over-J-Naming : goal.ghosts-run_over-J-Naming
ghosts-run_over-J-Naming g a = record { book = a.opened.seen.book }
