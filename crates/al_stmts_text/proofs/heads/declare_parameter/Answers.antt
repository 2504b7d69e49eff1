use Rattle.al_tree.specs.Lexemes.{identifier_label}
use Rattle.al_stmts_text.proofs.HeadSteps.{parameter_made}
use Rattle.al_stmts_text.proofs.heads.declare_parameter.Goals as goal

pub returns-in-Ok-with_parameter-clause-answered : goal.returns-in-Ok-with_parameter-clause-answered
returns-in-Ok-with_parameter-clause-answered g c =
    rw c.in-Ok.is
    (λ t h. let taken = c.in-Ok-with_parameter.ensures.answered t h in
    (taken.0, parameter_made (g.R.Analyzer.reading t) (identifier_label c.args.parameter.now) c.args.is_reverse c.args.words _ _ _ _ taken.1 c.for_scheme.ensures))
