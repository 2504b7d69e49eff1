use Rattle.std.proofs.Common.{◌≡◌, Option, None, Result, Err, sym, ap, ◌∙◌}
use Rattle.std.specs.Option.{option_map_or}
use Rattle.al_base_fault.specs.Judging.{map_ok, unless}
use Rattle.al_base_fault.specs.declared.fault.Fault.{Fault}
use Rattle.al_overload.specs.Meanings.{nothing_fits}
use Rattle.al_overload_nodes.specs.Calls.{call_with, own_fault}
use Rattle.al_overload_nodes.specs.Views.{actuals_model}
use Rattle.al_overload_nodes.proofs.Seen.{faulty_model}
use Rattle.al_overload_nodes.proofs.labeller.Labeller.call_made.Goals as goal
use Rattle.al_view_typed.specs.ExpressionTrees.{CallTree}
use Rattle.al_view_typed.specs.ExpressionViews.{call_model}
use Rattle.al_view_typed.specs.declared.expression.Callee.{Callee}
use Rattle.al_view_typed.specs.declared.expression.TypedCall.{TypedCall}

pub returns-in_default : goal.returns-in_default
returns-in_default c =
    let own = own_fault c.args.self.now.own c.args.place c.args.subprogram.now in
    let told : Option Fault = c.args.actuals.fault in
    let none = nothing_fits c.args.place in
    let made : c.unless-in_default.result ≡ unless own (unless told (Err none)) =
    c.unless-in_default.ensures
    ∙ ap (λ (d : Option Fault). unless d c.unless.result) c.own_fault-own.ensures
    ∙ ap (λ (r : Result TypedCall Fault). unless own r) (c.unless.ensures ∙ ap (λ (f : Fault). unless told (Err f)) c.nothing_fits.ensures) in
    ap (map_ok call_model) made
    ∙ faulty_model call_model own told none
    ∙ ap
    (λ (callee : Option Callee).
    unless own (unless told (option_map_or (call_with c.args.subprogram.now (actuals_model c.args.actuals).items) callee (Err none))))
    (sym c.in_default.is ∙ c.in_ok-callee.ensures)
