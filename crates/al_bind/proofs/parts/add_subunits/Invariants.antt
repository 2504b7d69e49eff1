use Rattle.std.proofs.Common.{◌≡◌, ◌++◌, ◌∷◌, map, take}
use Rattle.std.specs.List.{flat_map}
use Rattle.al_base.specs.Batch.{key_of}
use Rattle.al_base.specs.declared.unit_key.UnitKind.TheVariants.{Sub}
use Rattle.al_unit_graph.specs.Needed.{present}
use Rattle.al_bind.proofs.parts.add_subunits.Given as goal

abbrev pub invariant-loop-stub : goal.invariant-loop-stub
invariant-loop-stub l =
    map key_of l.keys.items ≡ map key_of l.initial.keys.items ++ flat_map (λ stub. present l.sources (l.name ++ 46 ∷ stub, Sub)) (take l.stub-index l.stubs)
