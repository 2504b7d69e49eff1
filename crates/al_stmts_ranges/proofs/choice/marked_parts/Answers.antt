use Rattle.std.proofs.Common.{Result, ap, ◌∙◌}
use Rattle.al_decl_judged.specs.declared.subtype_views.StaticRange.{StaticRange}
use Rattle.al_base_fault.specs.Judging.{both}
use Rattle.al_base_fault.specs.declared.fault.Fault.{Fault}
use Rattle.al_stmts_ranges.specs.ChoicesAt.{static_choice}
use Rattle.al_overload_values.proofs.Composed.{asks_more}
use Rattle.al_tree.specs.DeclarationViews.{range_model}
use Rattle.al_overload_values.specs.Surroundings.{site_model, site_units}
use Rattle.al_view.specs.declared.view.SubtypeView.{SubtypeView}
use Rattle.al_stmts_ranges.proofs.choice.marked_parts.Goals as goal

pub returns-clause-answered : goal.returns-clause-answered
returns-clause-answered g c t h =
    let later = c.in_ok-range.ensures.answered t h in
    let first = c.in_ok-mark.ensures.answered t later.0 in (
      first.0,
      c.both.ensures
          ∙ ap (λ (r : Result StaticRange Fault). both c.in_ok-mark.mark r) later.1
          ∙ ap (λ (m : Result SubtypeView Fault). both m (static_choice t (site_model c.args.site.now) c.args.found.now (range_model c.args.range.now))) first.1,
    )

pub returns-clause-asks : goal.returns-clause-asks
returns-clause-asks g c =
    asks_more (site_units (site_model c.args.site.now)) _ _ _ c.in_ok-mark.ensures.asks c.in_ok-range.ensures.asks
