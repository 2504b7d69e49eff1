use Rattle.std.proofs.Common.{ap, ◌∙◌}
use Rattle.std.proofs.lemmas.Result.{IfOk-weaker}
use Rattle.al_check_bounded.specs.Made.{finding_of}
use Rattle.al_check_bounded.specs.declared.made.WalkedUnit.{WalkedUnit}
use Rattle.al_check_bounded.proofs.MadeLemmas.{with_kind}
use Rattle.al_check_bounded.proofs.after.with_view.Goals as goal

pub returns : goal.returns
returns c =
    let inside = c.args.inside in
    IfOk-weaker c.finding_of.result _ _ (λ f h. h ∙ ap (λ (w : WalkedUnit). finding_of inside.faults w) c.walked_unit-walked.ensures ∙ with_kind c.args.unit_facts c.args.kind c.args.ends inside) c.finding_of.ensures
