use Rattle.std.proofs.Common.{◌≡◌, ◌++◌, map, take}
use Rattle.al_tree.specs.DeclarationViews.{compound_model}
use Rattle.al_unit_header.specs.Units.{dotted}
use Rattle.al_unit_header.proofs.context.add_dotted.Given as goal

abbrev pub invariant-loop-compound : goal.invariant-loop-compound
invariant-loop-compound l = l.names.items ≡ l.initial.names.items ++ map dotted (map compound_model (take l.compound-index l.compounds))
