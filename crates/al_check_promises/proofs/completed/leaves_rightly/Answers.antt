use Rattle.std.proofs.Common.{Bool, List, not, ◌||◌, sym, ap, ◌∙◌}
use Rattle.std.specs.List.{flat_map, list_all}
use Rattle.al_view.specs.ViewUses.{view_uses}
use Rattle.al_view.specs.declared.link.LinkSymbol.{LinkSymbol}
use Rattle.al_query_outcome.specs.Left.{is_of_body}
use Rattle.al_query_outcome.specs.Tables.{interface_of}
use Rattle.al_check_promises.specs.SelfChecks.{left_shown}
use Rattle.al_check_promises.proofs.Joined.{flat_viewed}
use Rattle.al_check_promises.proofs.completed.leaves_rightly.Goals as goal

pub returns-then-may_leave : goal.returns-then-may_leave
returns-then-may_leave c =
    let nothing = list_all (λ x. not (is_of_body x.kind)) (left_shown (interface_of c.args.sound.now.properties c.args.sound.now.parts)) in
    sym (ap (λ (b : Bool). b || nothing) (sym c.may_leave.ensures ∙ c.if-may_leave.true))

-- what completions show is what their views show (flat_viewed); the rest is the test's own form
pub returns : goal.returns
returns c =
    let nothing = list_all (λ x. not (is_of_body x.kind)) (left_shown (interface_of c.args.sound.now.properties c.args.sound.now.parts)) in
    c.leave_nothing.ensures
    ∙ ap (λ (xs : List LinkSymbol). list_all (λ x. not (is_of_body x.kind)) xs) (ap (λ cs. flat_map (λ k. view_uses k.view) cs) c.as_slice.ensures ∙ flat_viewed c.args.sound.now.properties.completions)
    ∙ sym (ap (λ (b : Bool). b || nothing) (sym c.may_leave.ensures ∙ c.if-may_leave.false))
