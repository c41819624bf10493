use Rattle.serve_loops.proofs.serving.serve.Given as goal

abbrev pub ghosts-run_over-D-Ledger : goal.ghosts-run_over-D-Ledger
ghosts-run_over-D-Ledger g a = record { name = a.drawn.name; parts = a.drawn.parts }

abbrev pub ghosts-run_over-D-Draws : goal.ghosts-run_over-D-Draws
ghosts-run_over-D-Draws g a = record { tickets = a.sessions }

abbrev pub ghosts-run_over-E-Ledger : goal.ghosts-run_over-E-Ledger
ghosts-run_over-E-Ledger g a = record { name = a.ends.name; parts = a.ends.parts }
