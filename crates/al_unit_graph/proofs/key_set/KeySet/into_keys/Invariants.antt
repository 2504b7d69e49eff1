use Rattle.std.proofs.Common.{◌≡◌, ◌++◌, map}
use Rattle.al_base.specs.Batch.{key_of}
use Rattle.al_unit_graph.specs.Orders.{keys_model}
use Rattle.al_unit_graph.proofs.key_set.KeySet.into_keys.Given as goal

abbrev pub invariant-loop-name : goal.invariant-loop-name
invariant-loop-name l = map key_of l.list.items ++ keys_model l.name-iterator ≡ l.fn.self
