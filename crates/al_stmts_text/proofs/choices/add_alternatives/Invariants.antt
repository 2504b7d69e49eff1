use Rattle.std.proofs.Common.{◌≡◌, drop}
use Rattle.std.specs.Prelude.{fold}
use Rattle.al_query.specs.Reads.{FromAnswers}
use Rattle.al_tree.specs.ExpressionViews.{expression_model}
use Rattle.al_stmts_text.proofs.ChoiceFolds.{alternative_step}
use Rattle.al_stmts_text.proofs.choices.add_alternatives.Given as goal
use Rattle.al_stmts.specs.Readings.{giving}

abbrev pub invariant-loop-alternative : goal.invariant-loop-alternative
invariant-loop-alternative g l = record {
  asked : g.R.Analyzer.asked l.analyzer ≡ g.R.Analyzer.asked l.initial.analyzer;
  answered : FromAnswers (g.R.Analyzer.log l.initial.analyzer) (g.R.Analyzer.log l.analyzer)
      (λ t. giving (g.R.Analyzer.env l.analyzer) (fold (alternative_step (g.R.Analyzer.reading t) (g.R.Analyzer.env l.initial.analyzer) (expression_model l.selector)) l.so_far (drop l.alternative-index l.others))
      ≡ giving (g.R.Analyzer.env l.initial.analyzer) (fold (alternative_step (g.R.Analyzer.reading t) (g.R.Analyzer.env l.initial.analyzer) (expression_model l.selector)) l.initial.so_far l.others));
}
