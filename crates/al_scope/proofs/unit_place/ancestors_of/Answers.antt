use Rattle.std.proofs.Common.{◌≡◌, ◌∙◌, arith, map, take, ap, sym}
use Rattle.std.proofs.lemmas.List.{take_all}
use Rattle.al_scope.specs.UseClauses.{package_unit}
use Rattle.al_unit_graph.specs.Names.{ancestors}
use Rattle.al_scope.proofs.UnitPlaceLemmas.{map-after, no_parent}
use Rattle.al_scope.proofs.unit_place.ancestors_of.Goals as goal

pub returns-clause-is : goal.returns-clause-is
returns-clause-is c =
    let items = c.as_slice-ancestor-items.result.now in
    let all : take c.loop-ancestor.ancestor-index items ≡ items = take_all c.loop-ancestor.ancestor-index items (omega arith) in
    c.loop-ancestor.invariant
    ∙ ap (map (λ n. package_unit n.now)) (all ∙ c.as_slice-ancestor-items.ensures.value)
    ∙ map-after package_unit (λ n. n.now) c.in_ok-names.names.items
    ∙ ap (map package_unit) c.in_ok-names.ensures

pub returns-then-is_none-clause-is : goal.returns-then-is_none-clause-is
returns-then-is_none-clause-is c =
    c.new.ensures.items ∙ sym (ap (map package_unit) (no_parent (λ n. n.now) c.parent_of.result (ancestors c.args.name.now) c.if-is_none.ensures c.parent_of.ensures))
