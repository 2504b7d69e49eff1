use Rattle.std.proofs.Common.{◌++◌, ◌∙◌, List, ℕ, ap}
use Rattle.std.specs.List.{flat_map}
use Rattle.al_base.specs.declared.unit_key.UnitKey.{UnitKey}
use Rattle.al_unit_graph.specs.Names.{lineage}
use Rattle.al_scope.specs.UnitPlaces.{asked_units, lineages, withs_of}
use Rattle.al_scope.proofs.UnitPlaceLemmas.{asks-same}
use Rattle.al_scope.proofs.mentions.mentioned.Goals as goal

pub returns-clause-answered : goal.returns-clause-answered
returns-clause-answered g c t h =
    let answered = c.in_ok-add_each_withs.ensures.answered t h in
    let own = c.args.own.now in
    let units = c.as_slice-2.ensures.value ∙ c.in_ok-units.ensures.is in
    let first = c.in_ok-add_lineage.ensures ∙ ap (λ (l : List (List ℕ)). l ++ lineage c.library_name_of-library.result.now) c.new-names.ensures.items ∙ ap lineage c.library_name_of-library.ensures in
    let second = c.in_ok-add_lineages.ensures.is ∙ ap (λ (us : List UnitKey). c.add_lineage.new.names.items ++ lineages us) c.as_slice.ensures ∙ ap (λ (l : List (List ℕ)). l ++ lineages own.withs) first in
    (answered.0, answered.1 ∙ ap (λ (us : List UnitKey). c.add_lineages.new.names.items ++ flat_map (λ u. lineages (withs_of t u)) us) units ∙ ap (λ (l : List (List ℕ)). l ++ flat_map (λ u. lineages (withs_of t u)) (asked_units own)) second)

pub returns-clause-asks : goal.returns-clause-asks
returns-clause-asks g c = asks-same c.as_slice-2.result.now (asked_units c.args.own.now) c.args.recorder.now.log c.add_each_withs.new.recorder.log (c.as_slice-2.ensures.value ∙ c.in_ok-units.ensures.is) c.in_ok-add_each_withs.ensures.asks
