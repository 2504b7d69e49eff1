use Rattle.std.proofs.Common.{Bool, ap, sym, ◌∙◌, if◌then◌else◌}
use Rattle.std.proofs.lemmas.Result.{IfOk-weaker}
use Rattle.al_view_typed.specs.UnitTrees.{unit_model}
use Rattle.al_query_outcome.specs.Results.{Faulty, Sound}
use Rattle.al_query_outcome.specs.Tables.{interface_of}
use Rattle.al_check_promises.specs.SelfChecks.{not_checked}
use Rattle.al_check_promises.proofs.checked.answered.Goals as goal

pub returns-then-kept : goal.returns-then-kept
returns-then-kept c =
    let s = c.args.sound in
    IfOk-weaker c.made.result _ _ (λ v h. h ∙ sym (ap (λ (b : Bool). if b then Sound (interface_of s.properties s.parts) (unit_model s.tree) else Faulty (not_checked c.args.unit.now)) c.if-kept.true)) c.made.ensures

pub returns-else-kept : goal.returns-else-kept
returns-else-kept c =
    let s = c.args.sound in
    IfOk-weaker c.not_checked.result _ _ (λ v h. h ∙ sym (ap (λ (b : Bool). if b then Sound (interface_of s.properties s.parts) (unit_model s.tree) else Faulty (not_checked c.args.unit.now)) c.if-kept.false)) c.not_checked.ensures
