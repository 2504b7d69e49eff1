use Rattle.std.proofs.Common.{◌≡◌, map, take}
use Rattle.al_unit_graph.specs.Views.{mention_model}
use Rattle.al_engine_toy.specs.Toys.{mention_of}
use Rattle.al_engine_toy.proofs.reading.mentions_of.Given as goal

abbrev pub invariant-loop-name : goal.invariant-loop-name
invariant-loop-name l = map mention_model l.mentions.items ≡ map mention_of (map (λ n. n.items) (take l.name-index l.names))
