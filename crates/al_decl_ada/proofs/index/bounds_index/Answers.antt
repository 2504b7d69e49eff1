use Rattle.std.proofs.Common.{List, Result, ap, ◌∙◌}
use Rattle.al_base_fault.specs.Judging.{next}
use Rattle.al_base_fault.specs.declared.fault.Fault.{Fault}
use Rattle.al_overload_nodes.specs.Ranges.{PairTree}
use Rattle.al_overload.specs.declared.context.Context.TheVariants as contexts
use Rattle.al_decl_ada.specs.SubtypesAt.{index_of_pair}
use Rattle.al_tree.specs.DeclarationViews.{range_model}
use Rattle.al_overload_values.specs.Surroundings.{site_model}
use Rattle.al_overload_values.specs.ValuesAt.{static_pair_at}
use Rattle.al_view.specs.declared.types.TypeView.{TypeView}
use Rattle.al_decl_ada.proofs.index.bounds_index.Goals as goal

pub returns-clause-answered : goal.returns-clause-answered
returns-clause-answered g c t h =
    let answered = c.in_ok-pair.ensures.answered t h in (
      answered.0,
      c.in_ok-subtype.ensures
          ∙ ap (λ (r : Result PairTree Fault). next r index_of_pair) answered.1
          ∙ ap (λ (types : List TypeView). next (static_pair_at t (site_model c.args.site.now) contexts.PairOfBounds types (range_model c.args.range.now)) index_of_pair) c.in_ok-types.ensures,
    )
