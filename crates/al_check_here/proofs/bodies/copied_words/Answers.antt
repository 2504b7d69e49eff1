use Rattle.std.proofs.Common.{arith, rules}
use Rattle.std.proofs.lemmas.Grind.{common_steps}
use Rattle.std.proofs.lemmas.List.Sums.{fold_more}
use Rattle.al_check_here.proofs.bodies.copied_words.Goals as goal

pub loop-formal-preserved : goal.loop-formal-preserved
loop-formal-preserved c = first_of (grind (arith, fold_more), grind (arith, common_steps, fold_more))
