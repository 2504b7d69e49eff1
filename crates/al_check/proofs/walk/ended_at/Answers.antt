use Rattle.std.proofs.Common.{ap, ◌∙◌}
use Rattle.al_stmts.specs.WalkedViews.{inside_model}
use Rattle.al_check_bounded.specs.Ended.{ended}
use Rattle.al_check_bounded.specs.declared.after.EndedText.{EndedText}
use Rattle.al_check.specs.Ada.{ended_text}
use Rattle.al_check.proofs.UnitResult.{if_ok}
use Rattle.al_check.proofs.walk.ended_at.Goals as goal

pub returns-in-Ok : goal.returns-in-Ok
returns-in-Ok c =
    if_ok c.found_after.result _ _ (λ f h. h ∙ ap (λ (x : EndedText). ended c.args.unit_facts x (inside_model c.args.inside)) (c.without_text.ensures ∙ ap ended_text c.in-Ok.ensures)) c.found_after.ensures
