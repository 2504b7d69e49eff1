use Rattle.std.proofs.Common.{◌≡◌, ◌++◌, length, map, take}
use Rattle.al_query.specs.Reads.{FromAnswers}
use Rattle.al_tree.specs.DeclarationViews.{formal_model}
use Rattle.al_decl.specs.Formals.{after_formals, formals_read}
use Rattle.al_decl.proofs.formals.check_formals.Given as goal

abbrev pub invariant-loop-text : goal.invariant-loop-text
invariant-loop-text g l = record {
  asked : l.recorder.asked ≡ l.fn.recorder.asked;
  answered : FromAnswers l.fn.recorder.log l.recorder.log (λ t. l.formals ≡ l.fn.formals ++ formals_read (g.R.PartAnalyzer.reading l.analyzer t) l.fn.scope (map formal_model (take l.text-index l.texts)));
  scope : l.scope ≡ after_formals l.fn.scope (map formal_model (take l.text-index l.texts));
  depth : length l.scope.regions ≡ length l.fn.scope.regions;
}
