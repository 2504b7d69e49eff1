use Rattle.std.proofs.Common.{◌≡◌, drop}
use Rattle.std.specs.Prelude.{fold}
use Rattle.al_query.specs.Reads.{FromAnswers}
use Rattle.al_stmts.specs.WalkedViews.{all_model, branching_model, choosing_model, part_model}
use Rattle.al_stmts_text.proofs.Folds.{alternative_step, branch_step, item_step, operation_step, statement_step}
use Rattle.al_stmts_text.proofs.text.+walk.Given as goal

abbrev pub invariant-more_statements-loop-statement : goal.invariant-more_statements-loop-statement
invariant-more_statements-loop-statement g l = record {
  asked : g.R.Analyzer.asked l.analyzer ≡ g.R.Analyzer.asked l.initial.analyzer;
  kept : l.enclosing ≡ l.initial.enclosing;
  answered : FromAnswers (g.R.Analyzer.log l.initial.analyzer) (g.R.Analyzer.log l.analyzer)
      (λ t. fold (statement_step (g.R.Analyzer.reading t) l.initial.enclosing) (g.R.Analyzer.env l.analyzer, all_model l.so_far) (drop l.statement-index l.others)
      ≡ fold (statement_step (g.R.Analyzer.reading t) l.initial.enclosing) (g.R.Analyzer.env l.initial.analyzer, all_model l.initial.so_far) l.others);
}

abbrev pub invariant-more_branches-loop-other : goal.invariant-more_branches-loop-other
invariant-more_branches-loop-other g l = record {
  asked : g.R.Analyzer.asked l.analyzer ≡ g.R.Analyzer.asked l.initial.analyzer;
  kept : l.enclosing ≡ l.initial.enclosing;
  answered : FromAnswers (g.R.Analyzer.log l.initial.analyzer) (g.R.Analyzer.log l.analyzer)
      (λ t. fold (branch_step (g.R.Analyzer.reading t) l.initial.enclosing) (g.R.Analyzer.env l.analyzer, branching_model l.so_far) (drop l.other-index l.others)
      ≡ fold (branch_step (g.R.Analyzer.reading t) l.initial.enclosing) (g.R.Analyzer.env l.initial.analyzer, branching_model l.initial.so_far) l.others);
}

abbrev pub invariant-more_alternatives-loop-alternative : goal.invariant-more_alternatives-loop-alternative
invariant-more_alternatives-loop-alternative g l = record {
  asked : g.R.Analyzer.asked l.analyzer ≡ g.R.Analyzer.asked l.initial.analyzer;
  kept : l.enclosing ≡ l.initial.enclosing;
  answered : FromAnswers (g.R.Analyzer.log l.initial.analyzer) (g.R.Analyzer.log l.analyzer)
      (λ t. fold (alternative_step (g.R.Analyzer.reading t) l.initial.enclosing) (g.R.Analyzer.env l.analyzer, choosing_model l.so_far) (drop l.alternative-index l.others)
      ≡ fold (alternative_step (g.R.Analyzer.reading t) l.initial.enclosing) (g.R.Analyzer.env l.initial.analyzer, choosing_model l.initial.so_far) l.others);
}

abbrev pub invariant-check_items-loop-item : goal.invariant-check_items-loop-item
invariant-check_items-loop-item g l = record {
  asked : g.R.Analyzer.asked l.analyzer ≡ g.R.Analyzer.asked l.initial.analyzer;
  answered : FromAnswers (g.R.Analyzer.log l.initial.analyzer) (g.R.Analyzer.log l.analyzer)
      (λ t. fold (item_step (g.R.Analyzer.reading t)) (g.R.Analyzer.env l.analyzer, part_model l.so_far) (drop l.item-index l.items)
      ≡ fold (item_step (g.R.Analyzer.reading t)) (g.R.Analyzer.env l.initial.analyzer, part_model l.initial.so_far) l.items);
}

abbrev pub invariant-check_operations-loop-operation : goal.invariant-check_operations-loop-operation
invariant-check_operations-loop-operation g l = record {
  asked : g.R.Analyzer.asked l.analyzer ≡ g.R.Analyzer.asked l.initial.analyzer;
  answered : FromAnswers (g.R.Analyzer.log l.initial.analyzer) (g.R.Analyzer.log l.analyzer)
      (λ t. fold (operation_step (g.R.Analyzer.reading t)) (g.R.Analyzer.env l.analyzer, part_model l.so_far) (drop l.operation-index l.operations)
      ≡ fold (operation_step (g.R.Analyzer.reading t)) (g.R.Analyzer.env l.initial.analyzer, part_model l.initial.so_far) l.operations);
}
