use Rattle.std.proofs.Common.{◌≡◌, drop}
use Rattle.std.specs.Prelude.{fold}
use Rattle.al_query.specs.Reads.{FromAnswers}
use Rattle.al_stmts.specs.WalkedViews.{part_model}
use Rattle.al_check_start.proofs.Units.{declaration_step}
use Rattle.al_check_start.proofs.walk.check_declarations.Given as goal

abbrev pub invariant-loop-declaration : goal.invariant-loop-declaration
invariant-loop-declaration g l = record {
  asked : g.R.Analyzer.asked l.analyzer ≡ g.R.Analyzer.asked l.initial.analyzer;
  answered : FromAnswers (g.R.Analyzer.log l.initial.analyzer) (g.R.Analyzer.log l.analyzer)
      (λ t. fold (declaration_step (g.R.Analyzer.reading t)) (g.R.Analyzer.env l.analyzer, part_model l.so_far) (drop l.declaration-index l.declarations)
      ≡ fold (declaration_step (g.R.Analyzer.reading t)) (g.R.Analyzer.env l.initial.analyzer, part_model l.initial.so_far) l.declarations);
}
