use Rattle.std.proofs.Common.{Bool, ◌&&◌, ap, ◌∙◌, if◌then◌else◌}
use Rattle.std.proofs.lemmas.Result.{IfOk-weaker}
use Rattle.al_view_typed.specs.UnitTrees.{unit_model}
use Rattle.al_query_outcome.specs.Results.{Faulty, Sound}
use Rattle.al_query_outcome.specs.Tables.{interface_of}
use Rattle.al_check_promises.specs.SelfChecks.{not_checked, self_checked}
use Rattle.al_check_promises.proofs.checked.self_checked.Goals as goal

pub returns-in-Ok : goal.returns-in-Ok
unfolding self_checked
returns-in-Ok c =
    let s = c.args.sound in
    IfOk-weaker c.answered.result _ _ (λ v h. h ∙ ap (λ (b : Bool). if b then Sound (interface_of s.properties s.parts) (unit_model s.tree) else Faulty (not_checked c.args.unit.now)) (c.both_hold.ensures ∙ ap (λ (b : Bool). b && c.args.complete) c.in-Ok.ensures)) c.answered.ensures
