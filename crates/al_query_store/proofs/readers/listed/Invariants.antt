use Rattle.std.proofs.Common.{◌≡◌, ◌++◌}
use Rattle.al_query_store.proofs.readers.listed.Given as goal

abbrev pub invariant-loop-place : goal.invariant-loop-place
invariant-loop-place l = l.list.items ++ l.place-iterator ≡ l.set.keys
