use Rattle.kd_loops.proofs.served.serve_bytes.Given as goal

abbrev pub ghosts-serve_post : goal.ghosts-serve_post
ghosts-serve_post g a = record { given = a.input.now }
