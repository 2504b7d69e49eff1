use Rattle.std.proofs.Common.{◌≡◌, ◌∷◌, map, take}
use Rattle.al_decl.specs.Defining.{defined}
use Rattle.al_tree.specs.Lexemes.{identifier_label}
use Rattle.al_decl.proofs.names.defining_names.Given as goal

abbrev pub invariant-loop-identifier : goal.invariant-loop-identifier
invariant-loop-identifier l = l.names ≡ defined (identifier_label l.fn.identifiers.first) ∷ map defined (map identifier_label (take l.identifier-index l.identifiers.others.items))
