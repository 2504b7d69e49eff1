use Rattle.std.proofs.Common.{◌≡◌, ◌+◌, ◌++◌, ◌∷◌, [], map, take, ap, sym, ◌∙◌, arith}
use Rattle.std.proofs.lemmas.Grind.{common_steps}
use Rattle.std.specs.List.{fold}
use Rattle.std.specs.BTreeSet.{insert_key}
use Rattle.al_base.specs.Files.{name_cmp}
use Rattle.al_unit_graph.specs.Orders.{names_model}
use Rattle.al_engine.proofs.FileNames.{names_more}
use Rattle.al_engine.proofs.gave.files_of.Goals as goal

pub loop-d-preserved : goal.loop-d-preserved
loop-d-preserved c =
    let d = c.d-item.result in
    let so_far = map (λ d. d.file) (take c.loop-d.d-index c.args.found.now) in
    let one_more : map (λ d. d.file) (take (c.loop-d.d-index + 1) c.args.found.now) ≡ so_far ++ c.in_ok-name.name.items ∷ [] = grind (arith, common_steps, c.loop-d-test.true, c.d-item.is, c.in_ok-name.ensures.items, c.as_slice.ensures) in
    ap names_model c.in_ok-insert.ensures.keys
    ∙ names_more c.loop-d.files.keys c.in_ok-name.name so_far c.loop-d.invariant
    ∙ ap (fold (insert_key name_cmp) []) (sym one_more)
