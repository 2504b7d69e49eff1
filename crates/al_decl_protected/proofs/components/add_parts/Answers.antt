use Rattle.std.proofs.Common.{Option, Result, sym, ap, ◌∙◌}
use Rattle.std.specs.Prelude.{option_map}
use Rattle.al_base_fault.specs.Judging.{map_ok}
use Rattle.al_base_fault.specs.declared.fault.Fault.{Fault}
use Rattle.al_view.specs.declared.view.SubtypeView.{SubtypeView}
use Rattle.al_view_typed.specs.ExpressionTrees.{TypedTree}
use Rattle.al_view_typed.specs.ExpressionViews.{typed_model}
use Rattle.al_view_typed.specs.declared.expression.Typed.{Typed}
use Rattle.al_decl_protected.specs.Components.{private_model, with_components}
use Rattle.al_decl_protected.proofs.Parts.{unless_model}
use Rattle.al_decl_protected.proofs.components.add_parts.Goals as goal

abbrev see : SubtypeView × Option Typed → SubtypeView × Option TypedTree
see p = (p.0, option_map typed_model p.1)

pub returns-in-Err : goal.returns-in-Err
returns-in-Err c =
    let add = with_components (private_model c.args.components.now) c.args.names.now in
    ap (λ (r : Result (SubtypeView × Option Typed) Fault). map_ok add (map_ok see r)) c.in-Err.ensures
    ∙ ap (map_ok add) (sym (unless_model c.args.fault see c.args.parts))
