use Rattle.std.proofs.Common.{◌≡◌, take}
use Rattle.al_check_here.specs.BodiesHere.{copied_words}
use Rattle.al_check_here.proofs.bodies.copied_words.Given as goal

abbrev pub invariant-loop-formal : goal.invariant-loop-formal
invariant-loop-formal l = l.words ≡ copied_words (take l.formal-index l.formals)
