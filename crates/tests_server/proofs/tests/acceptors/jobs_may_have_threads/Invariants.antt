use Rattle.tests_server.proofs.tests.acceptors.jobs_may_have_threads.Given as goal

-- the board whose history was just opened
abbrev pub ghosts-serve_by_threads-J-BoardNaming : goal.ghosts-serve_by_threads-J-BoardNaming
ghosts-serve_by_threads-J-BoardNaming g a = record { board = a.history }

-- the history that was just opened
abbrev pub ghosts-serve_by_threads-J-Naming : goal.ghosts-serve_by_threads-J-Naming
ghosts-serve_by_threads-J-Naming g a = record { book = a.opened.seen.book }
