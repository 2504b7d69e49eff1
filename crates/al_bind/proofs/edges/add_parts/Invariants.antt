use Rattle.std.proofs.Common.{map, take}
use Rattle.al_base.specs.Batch.{key_of}
use Rattle.al_bind.specs.Numbers.{Adds, OneOf, TiesBy}
use Rattle.al_bind.specs.Steps.{WantsTold}
use Rattle.al_bind.proofs.edges.add_parts.Given as goal

abbrev pub invariant-loop-part : goal.invariant-loop-part
invariant-loop-part l = Adds l.initial.edges.items l.edges.items (OneOf (take l.part-index l.parts) (λ p. TiesBy l.sources (map key_of l.places.keys.items) l.x (WantsTold l.extent l.sources (map key_of l.places.keys.items) (key_of p))))
