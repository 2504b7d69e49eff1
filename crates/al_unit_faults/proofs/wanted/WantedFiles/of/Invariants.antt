use Rattle.std.proofs.Common.{map}
use Rattle.al_unit_faults.specs.Wanted.{AreNumbered, GoesOn, IsWanted}
use Rattle.al_unit_faults.proofs.wanted.WantedFiles.of.Given as goal

abbrev pub invariant-loop-from : goal.invariant-loop-from
invariant-loop-from l = record {
  names : GoesOn (map (λ f. f.now) l.files) l.wanted.names.items;
  numbers : AreNumbered l.wanted.names.items l.wanted.numbers.entries;
  wanted : IsWanted l.sources l.wanted.names.items l.wanted.steps.items l.from;
}
