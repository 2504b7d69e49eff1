use Rattle.std.proofs.Common.{Result, ap, ◌∙◌}
use Rattle.al_base.specs.declared.place.Place.{Place}
use Rattle.al_base_fault.specs.Judging.{next}
use Rattle.al_base_fault.specs.declared.fault.Fault.{Fault}
use Rattle.al_decl_judged.specs.StaticPieces.{place_label}
use Rattle.al_view.specs.declared.types.StaticValue.{StaticValue}
use Rattle.al_view_typed.specs.ExpressionViews.{typed_model}
use Rattle.al_decl_protected.specs.Levels.{level_at}
use Rattle.al_decl_protected.proofs.level.level_of.Goals as goal

pub returns-in-Ok : goal.returns-in-Ok
returns-in-Ok c =
    c.level_at.ensures
    ∙ ap (λ (p : Place). level_at p c.in-Ok.level) c.place_label.ensures
    ∙ ap (λ (r : Result StaticValue Fault). next r (level_at (place_label (typed_model c.args.value.now)))) c.in-Ok.ensures
