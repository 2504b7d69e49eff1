use Rattle.std.proofs.Common.{◌≡◌, [], map, ap, sym, ◌∙◌, arith}
use Rattle.std.proofs.lemmas.Grind.{common_steps}
use Rattle.al_base.specs.Batch.{finding_of}
use Rattle.al_unit_graph.specs.FaultLists.{name_faults}
use Rattle.al_unit_graph.specs.Views.{header_model}
use Rattle.al_unit_faults.proofs.LawLemmas.{rightly_named}
use Rattle.al_unit_faults.proofs.UnitLemmas.{held_here}
use Rattle.al_unit_faults.proofs.listing.header_faults.Goals as goal

pub rule_faults-requires-clause-cycles : goal.rule_faults-requires-clause-cycles
rule_faults-requires-clause-cycles c =
    let file = c.args.file.now in
    let h = header_model c.args.header.now in
    let empty : c.in_ok-found.found.items ≡ [] = grind (arith, common_steps, c.is_empty.ensures, c.if-not-is_empty.false) in
    let none : name_faults file h ≡ [] = sym c.in_ok-found.ensures.found ∙ ap (λ ds. map finding_of ds) empty in
    c.requires.cycles file h (c.requires.of_file ∙ held_here file h (rightly_named file h none))
