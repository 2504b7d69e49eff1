use Rattle.std.proofs.Common.{Option, Result, ap, ◌∙◌}
use Rattle.std.specs.Prelude.{option_map}
use Rattle.al_base_fault.specs.declared.fault.Fault.{Fault}
use Rattle.al_stmts.specs.Simple.{exited}
use Rattle.al_tree.specs.Lexemes.{identifier_label}
use Rattle.al_view_typed.specs.ExpressionTrees.{TypedTree}
use Rattle.al_stmts.specs.Steps.{alone_of, name_of}
use Rattle.al_stmts.specs.Readings.{giving}
use Rattle.al_stmts_text.proofs.Read.{as_made, goes_on, if_ok}
use Rattle.al_stmts_text.proofs.plain.walk_exit.Goals as goal

pub returns-clause-answered : goal.returns-clause-answered
returns-clause-answered g c =
    let made = λ (e : Option (Result TypedTree Fault)). alone_of (exited c.args.statement.now.opening c.args.enclosing.now.loops (name_of (option_map identifier_label c.args.statement.now.name)) e) in
    if_ok c.alone.result _ _
    (λ walked is t h.
    let read = c.in_ok-condition.ensures.answered t h in
    (read.0, as_made _ _ _ (is ∙ ap alone_of c.exit-checked.ensures) ∙ goes_on (λ (k : _) (e : Option (Result TypedTree Fault)). giving k (made e)) _ _ _ read.1))
    c.alone.ensures
