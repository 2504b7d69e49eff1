use Rattle.std.proofs.Common.{sym}
use Rattle.al_unit_faults.proofs.ObsoleteNumberLemmas.{found_number}
use Rattle.al_unit_faults.proofs.wanted.WantedFiles.number.Goals as goal

pub returns-in-Some-clause-number : goal.returns-in-Some-clause-number
returns-in-Some-clause-number c =
    found_number c.args.self.now.names.items c.args.self.now.numbers.entries c.args.name.now c.in-Some.number.now c.requires (sym c.in-Some.ensures.value)
