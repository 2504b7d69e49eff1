use Rattle.std.proofs.Common.{map}
use Rattle.al_unit_faults.specs.Numbers.{IsNumbering}
use Rattle.al_unit_faults.proofs.NumberLemmas.{names_of}
use Rattle.al_unit_faults.proofs.cycles.Numbers.of.Given as goal

abbrev pub invariant-loop-i : goal.invariant-loop-i
invariant-loop-i l = IsNumbering (map (λ n. n.now) l.files) l.i (names_of l.places.entries)
