use Rattle.std.proofs.Common.{take}
use Rattle.al_unit_faults.specs.Wanted.{AreNumbered, GoesOn, IsWantedTo}
use Rattle.al_unit_faults.proofs.wanted.WantedFiles.add_wants.Given as goal

abbrev pub invariant-loop-name : goal.invariant-loop-name
invariant-loop-name l = record {
  names : GoesOn l.fn.self.names.items l.self.names.items;
  numbers : AreNumbered l.self.names.items l.self.numbers.entries;
  wanted : IsWantedTo l.sources l.self.names.items l.self.steps.items l.from (take l.name-index l.name-items);
}
