use Rattle.std.proofs.Common.{map, take}
use Rattle.al_base.specs.Batch.{key_of}
use Rattle.al_bind.specs.Numbers.{Adds, OneOf, TiesFrom}
use Rattle.al_bind.specs.Steps.{WantsTold}
use Rattle.al_bind.proofs.edges.add_items.Given as goal

abbrev pub invariant-loop-key : goal.invariant-loop-key
invariant-loop-key l = Adds l.initial.edges.items l.edges.items (OneOf (take l.key-index l.keys) (λ k. TiesFrom l.sources (map key_of l.places.keys.items) (WantsTold l.extent l.sources (map key_of l.places.keys.items)) (key_of k)))
