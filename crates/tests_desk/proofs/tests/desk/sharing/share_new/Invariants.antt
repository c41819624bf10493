use Rattle.tests_desk.proofs.tests.desk.sharing.share_new.Given as goal

-- the board whose history was just opened
abbrev pub ghosts-share_inline-J-BoardNaming : goal.ghosts-share_inline-J-BoardNaming
ghosts-share_inline-J-BoardNaming g a = record { board = a.history }

-- the history that was just opened
abbrev pub ghosts-share_inline-J-Naming : goal.ghosts-share_inline-J-Naming
ghosts-share_inline-J-Naming g a = record { book = a.opened.seen.book }

-- the board whose history was just opened
abbrev pub ghosts-share_by_threads-J-BoardNaming : goal.ghosts-share_by_threads-J-BoardNaming
ghosts-share_by_threads-J-BoardNaming g a = record { board = a.history }

-- the history that was just opened
abbrev pub ghosts-share_by_threads-J-Naming : goal.ghosts-share_by_threads-J-Naming
ghosts-share_by_threads-J-Naming g a = record { book = a.opened.seen.book }
