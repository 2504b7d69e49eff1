use Rattle.std.proofs.Common.{map}
use Rattle.al_engine.specs.ObjectsSeen.{object_model}
use Rattle.al_engine.proofs.RenewLemmas.{FoundTo}
use Rattle.al_engine.proofs.batch_renewing.place_of.Given as goal

abbrev pub invariant-loop-at : goal.invariant-loop-at
invariant-loop-at l = FoundTo (object_model l.unit) (map object_model l.objects) l.at l.found
