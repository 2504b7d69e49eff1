use Rattle.std.proofs.Common.{◌≡◌, None, Result, sym, ap, ap₂, ◌∙◌}
use Rattle.std.proofs.lemmas.Result.{IfOk-weaker}
use Rattle.al_base_fault.specs.Judging.{both, map_ok}
use Rattle.al_base_fault.specs.declared.fault.Fault.{Fault}
use Rattle.al_overload_nodes.specs.Nodes.{membership_form, node}
use Rattle.al_overload_nodes.specs.Views.{three_model}
use Rattle.al_overload_nodes.proofs.Seen.{both_of_three}
use Rattle.al_overload_nodes.proofs.labeller.Labeller.membership.Goals as goal
use Rattle.al_static.specs.declared.knowledge.Known.{Known}
use Rattle.al_view_typed.specs.ExpressionTrees.{FormTree}

pub returns : goal.returns
returns c =
    let given = c.args.self.now.predefined in
    let seen =
    c.in_ok-form.ensures
    ∙ ap (λ r. map_ok (membership_form c.args.is_negated) (map_ok three_model r)) (c.both-operands.ensures ∙ ap (λ r. both c.args.value.typed r) c.both.ensures)
    ∙ ap (map_ok (membership_form c.args.is_negated)) (both_of_three c.args.value.typed c.args.low.typed c.args.high.typed) in
    IfOk-weaker c.node.result _ _
    (λ r h.
    h
    ∙ ap₂ (λ (k : Known) (f : Result FormTree Fault). node given.root c.args.place c.args.types.now given.types.boolean.symbol None k f) c.membership-known.ensures seen)
    c.node.ensures
