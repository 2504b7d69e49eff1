use Rattle.std.proofs.Common.{◌≡◌, take}
use Rattle.std.specs.Prelude.{fold}
use Rattle.al_scope.specs.Recasts.{with_type}
use Rattle.al_scope.proofs.types.add_types.Given as goal

abbrev pub invariant-loop-of : goal.invariant-loop-of
invariant-loop-of l = l.types ≡ fold with_type l.fn.types (take l.of-index l.others)
