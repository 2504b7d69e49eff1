use Rattle.std.proofs.Common.{List, None, Result, ap, ◌∙◌}
use Rattle.al_base_fault.specs.Judging.{map_ok}
use Rattle.al_base_fault.specs.declared.fault.Fault.{Fault}
use Rattle.al_overload_nodes.specs.Ranges.{PairTree}
use Rattle.al_overload.specs.declared.context.Context.TheVariants as contexts
use Rattle.al_stmts_ranges.specs.LoopsAt.{between}
use Rattle.al_tree.specs.DeclarationViews.{range_model}
use Rattle.al_overload_values.specs.Surroundings.{site_model}
use Rattle.al_overload_values.specs.ValuesAt.{pair_judged_at}
use Rattle.al_view.specs.declared.types.TypeView.{TypeView}
use Rattle.al_stmts_ranges.proofs.loop_range.bounds_range.Goals as goal

pub returns-clause-answered : goal.returns-clause-answered
returns-clause-answered g c t h =
    let answered = c.in_ok-pair.ensures.answered t h in (
      answered.0,
      c.between.ensures
          ∙ ap (λ (r : Result PairTree Fault). map_ok (between None) r) answered.1
          ∙ ap (λ (types : List TypeView). map_ok (between None) (pair_judged_at t (site_model c.args.site.now) contexts.PairOfBounds types (range_model c.args.range.now))) c.in_ok-types.ensures,
    )
