use Rattle.std.proofs.Common.{map, take}
use Rattle.al_base.specs.Batch.{key_of}
use Rattle.al_bind.specs.Numbers.{Adds, IsFor, OneOf, TiesBy}
use Rattle.al_bind.proofs.edges.add_ties.Given as goal

abbrev pub invariant-loop-y : goal.invariant-loop-y
invariant-loop-y l = Adds l.initial.edges.items l.edges.items (OneOf (take l.y-index l.ys) (λ y. TiesBy l.sources (map key_of l.places.keys.items) l.x (IsFor l.reason (key_of y))))
