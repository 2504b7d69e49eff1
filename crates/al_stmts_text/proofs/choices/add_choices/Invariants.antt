use Rattle.std.proofs.Common.{◌≡◌, drop}
use Rattle.std.specs.Prelude.{fold}
use Rattle.al_query.specs.Reads.{FromAnswers}
use Rattle.al_tree.specs.ExpressionViews.{expression_model}
use Rattle.al_stmts_text.proofs.ChoiceFolds.{choice_step}
use Rattle.al_stmts_text.proofs.choices.add_choices.Given as goal
use Rattle.al_stmts.specs.Readings.{giving}

abbrev pub invariant-loop-choice : goal.invariant-loop-choice
invariant-loop-choice g l = record {
  asked : g.R.Analyzer.asked l.analyzer ≡ g.R.Analyzer.asked l.initial.analyzer;
  answered : FromAnswers (g.R.Analyzer.log l.initial.analyzer) (g.R.Analyzer.log l.analyzer)
      (λ t. giving (g.R.Analyzer.env l.analyzer) (fold (choice_step (g.R.Analyzer.reading t) (g.R.Analyzer.env l.initial.analyzer) (expression_model l.selector)) l.choices (drop l.choice-index l.others))
      ≡ giving (g.R.Analyzer.env l.initial.analyzer) (fold (choice_step (g.R.Analyzer.reading t) (g.R.Analyzer.env l.initial.analyzer) (expression_model l.selector)) l.initial.choices l.others));
}
