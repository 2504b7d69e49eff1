use Rattle.std.proofs.Common.{◌≡◌}
use Rattle.al_overload_readings.specs.Attributes.{is_indexed_by_one}
use Rattle.al_overload.specs.TermViews.{term_model}
use Rattle.al_overload_readings.proofs.prefix.is_indexed_by_one.Given as goal

abbrev pub invariant-loop-rest : goal.invariant-loop-rest
invariant-loop-rest l = is_indexed_by_one (term_model l.rest) ≡ is_indexed_by_one (term_model l.term)
