use Rattle.std.proofs.Common.{Bool, ap, sym, ◌∙◌, if◌then◌else◌}
use Rattle.al_check_declared.specs.OpenObjects.{renewed}
use Rattle.al_check_declared.proofs.Composed.{on_ok}
use Rattle.al_check_declared.proofs.bodies.renew_for.Goals as goal

pub returns-then-is_of_object : goal.returns-then-is_of_object
returns-then-is_of_object c =
    let s = c.args.state.now in
    on_ok c.renew_region.result _ _
    (λ renewed_is. renewed_is ∙ ap (λ (b : Bool). if b then renewed s c.args.read.now else s) (sym c.if-is_of_object.true ∙ c.is_of_object.ensures))
    c.renew_region.ensures

pub returns : goal.returns
returns c =
    let s = c.args.state.now in
    ap (λ (b : Bool). if b then renewed s c.args.read.now else s) (sym c.if-is_of_object.false ∙ c.is_of_object.ensures)
