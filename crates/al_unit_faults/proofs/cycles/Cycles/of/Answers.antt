use Rattle.std.proofs.Common.{◌≡◌, map, length, subst, sym, arith}
use Rattle.std.proofs.lemmas.Grind.{common_steps}
use Rattle.al_unit_faults.specs.Numbers.{numbers_model, IsNumbering, StepsBelow}
use Rattle.al_unit_faults.proofs.GraphLemmas.{cycles_told}
use Rattle.al_unit_faults.proofs.cycles.Cycles.of.Goals as goal

pub returns : goal.returns
returns c =
    let lib = c.args.sources.now in
    let files = map (λ n. n.now) c.args.files.now in
    let ns = numbers_model c.in_ok-numbers.numbers in
    let g = c.in_ok-graph.graph in
    let many : length files ≡ length c.args.files.now = grind (arith, common_steps) in
    let numbering = subst (λ n. IsNumbering files n ns) (sym many) c.in_ok-numbers.ensures in
    let steps = subst (λ n. StepsBelow lib files ns n g) (sym many) c.in_ok-graph.ensures in
    cycles_told lib files ns numbering c.requires g steps c.in_ok-flags.flags.items c.in_ok-flags.ensures
