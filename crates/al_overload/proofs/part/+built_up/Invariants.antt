use Rattle.al_overload.proofs.part.+built_up.Given as goal

abbrev pub decreases-built_up : goal.decreases-built_up
decreases-built_up l = l.count
