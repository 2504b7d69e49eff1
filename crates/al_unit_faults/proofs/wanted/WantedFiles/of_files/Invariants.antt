use Rattle.std.proofs.Common.{◌≡◌, [], map, take}
use Rattle.al_unit_faults.specs.Wanted.{AreNumbered}
use Rattle.al_unit_faults.proofs.wanted.WantedFiles.of_files.Given as goal

abbrev pub invariant-loop-file : goal.invariant-loop-file
invariant-loop-file l = record {
  names : l.wanted.names.items ≡ map (λ f. f.now) (take l.file-index l.files);
  numbers : AreNumbered l.wanted.names.items l.wanted.numbers.entries;
  steps : l.wanted.steps.items ≡ [];
}
