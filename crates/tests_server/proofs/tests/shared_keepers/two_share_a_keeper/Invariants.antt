use Rattle.tests_server.proofs.tests.shared_keepers.two_share_a_keeper.Given as goal

-- the history that was just opened
abbrev pub ghosts-share : goal.ghosts-share
ghosts-share g a = record { book = a.opened.seen.book }

-- the history that was just opened
abbrev pub ghosts-fails_once : goal.ghosts-fails_once
ghosts-fails_once g a = record { book = a.opened.seen.book }
