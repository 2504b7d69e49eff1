-- The names that a text defines (ARM 3.1(4)).
use Rattle.std.specs.Prelude.{List, ◌∷◌, map}
use Rattle.al_tree_grammar.specs.Grammar.{Label}
use Rattle.al_overload_lookup.specs.Places.{place_of}
use Rattle.al_tree_syntax.specs.DeclarationTrees.{IdentifiersTree}
use Rattle.al_decl_judged.specs.declared.names.DefiningName.{DefiningName}

-- an identifier with its place
abbrev pub defined : Label → DefiningName
defined l = record { name = l.text; place = place_of l }

-- of a list of identifiers, in its order
abbrev pub defining_names : IdentifiersTree → List DefiningName
defining_names i = defined i.first ∷ map defined i.others
