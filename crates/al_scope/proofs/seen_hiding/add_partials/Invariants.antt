use Rattle.std.proofs.Common.{◌≡◌, ◌++◌, take}
use Rattle.std.specs.List.{flat_map}
use Rattle.al_scope.specs.Hidden.{partial_if_hidden}
use Rattle.al_scope.proofs.seen_hiding.add_partials.Given as goal

abbrev pub invariant-loop-of : goal.invariant-loop-of
invariant-loop-of l = l.recasts ≡ l.fn.recasts ++ flat_map (partial_if_hidden l.names) (take l.of-index l.types)
