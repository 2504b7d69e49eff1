use Rattle.std.proofs.Common.{◌≡◌}
use Rattle.al_overload.specs.Places.{first_place}
use Rattle.al_overload.specs.TermViews.{term_model}
use Rattle.al_overload.proofs.place.first_place.Given as goal

abbrev pub invariant-loop-rest : goal.invariant-loop-rest
invariant-loop-rest l = first_place (term_model l.rest) ≡ first_place (term_model l.term)
