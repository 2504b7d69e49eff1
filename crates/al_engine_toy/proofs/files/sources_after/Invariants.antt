use Rattle.std.proofs.Common.{◌≡◌, map, take}
use Rattle.al_engine_toy.specs.Toys.{toy_library}
use Rattle.al_engine_toy.proofs.files.sources_after.Given as goal

abbrev pub invariant-loop-name : goal.invariant-loop-name
invariant-loop-name l = l.sources ≡ toy_library (map (λ f. (f.0.now, f.1.now.value.items)) (take l.name-index l.name-items))
