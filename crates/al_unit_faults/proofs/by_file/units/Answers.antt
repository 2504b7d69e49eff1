use Rattle.std.proofs.Common.{ℕ, List, Bor, map, ap, ◌∙◌, arith}
use Rattle.std.proofs.lemmas.List.{take_all}
use Rattle.al_unit_faults.specs.Units.{unit_of_file, units_of}
use Rattle.al_unit_graph.proofs.Lists.{map_twice}
use Rattle.al_unit_faults.proofs.by_file.units.Goals as goal

pub returns : goal.returns
unfolding units_of
returns c =
    let lib = c.args.sources.now in
    let now = λ (f : Bor (List ℕ)). f.now in
    c.loop-file.invariant
    ∙ ap (λ fs. map (λ f. unit_of_file lib (now f)) fs) (take_all c.loop-file.file-index c.deref-file-items.result.now (omega arith) ∙ c.deref-file-items.ensures.value)
    ∙ map_twice (unit_of_file lib) now c.in_ok-files.files.items
    ∙ ap (λ ns. map (unit_of_file lib) ns) c.in_ok-files.ensures
