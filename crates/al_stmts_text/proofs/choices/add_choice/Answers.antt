use Rattle.std.proofs.Common.{Result, ap, ◌∙◌}
use Rattle.al_stmts.specs.declared.choice.Choice.{Choice}
use Rattle.al_base_fault.specs.declared.fault.Fault.{Fault}
use Rattle.al_stmts.specs.Cases.{with_choice}
use Rattle.al_stmts.specs.Readings.{giving}
use Rattle.al_stmts_text.proofs.Read.{as_made, goes_on, on_ok}
use Rattle.al_stmts_text.proofs.choices.add_choice.Goals as goal

pub returns-clause-answered : goal.returns-clause-answered
returns-clause-answered g c =
    on_ok c.add.result _ _
    (λ is t h.
    let read = c.in_ok-checked.ensures.answered t h in
    (read.0, as_made _ _ _ is ∙ goes_on (λ (k : _) (j : Result Choice Fault). giving k (with_choice c.args.choices.now j)) _ _ _ read.1))
    c.add.ensures
