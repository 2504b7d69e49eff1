use Rattle.std.proofs.Common.{arith}
use Rattle.al_unit_faults.proofs.NumberLemmas.{number_at-names_of}
use Rattle.al_unit_faults.proofs.cycles.Numbers.at.Goals as goal

pub returns : goal.returns
returns c = let same = number_at-names_of c.args.self.now.places.entries c.args.file.now in grind (arith, same, c.copied.ensures, c.get.ensures.value)
