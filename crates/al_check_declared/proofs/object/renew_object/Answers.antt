use Rattle.std.proofs.Common.{Bool, List, ap, sym, ◌∙◌, if◌then◌else◌}
use Rattle.al_check_here.proofs.Lists.{on_ok}
use Rattle.al_check_declared.specs.ObjectRegions.{has_form}
use Rattle.al_check_declared.specs.OpenObjects.{entered_anew}
use Rattle.al_view.specs.declared.types.Component.{Component}
use Rattle.al_check_declared.proofs.object.renew_object.Goals as goal

pub returns-then-has_form : goal.returns-then-has_form
returns-then-has_form c =
    let e = c.args.env.now in
    let form = ap (λ (cs : List Component). has_form c.args.is_constant cs e.scope.regions) c.as_slice.ensures in
    ap (λ (b : Bool). if b then e else entered_anew e c.args.object.now c.args.is_constant) (sym c.if-has_form.true ∙ c.has_form.ensures ∙ form)

pub returns : goal.returns
returns c =
    let e = c.args.env.now in
    let form = ap (λ (cs : List Component). has_form c.args.is_constant cs e.scope.regions) c.as_slice.ensures in
    on_ok c.enter_anew.result _ _
    (λ entered. entered ∙ ap (λ (b : Bool). if b then e else entered_anew e c.args.object.now c.args.is_constant) (sym c.if-has_form.false ∙ c.has_form.ensures ∙ form))
    c.enter_anew.ensures
