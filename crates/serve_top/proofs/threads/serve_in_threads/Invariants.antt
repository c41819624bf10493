use Rattle.serve_top.proofs.threads.serve_in_threads.Given as goal

-- the board whose history was just opened
abbrev pub ghosts-serve_named-J-BoardNaming : goal.ghosts-serve_named-J-BoardNaming
ghosts-serve_named-J-BoardNaming g a = record { board = a.history }

-- the history that was just opened
abbrev pub ghosts-serve_named-J-Naming : goal.ghosts-serve_named-J-Naming
ghosts-serve_named-J-Naming g a = record { book = a.opened.seen.book }
