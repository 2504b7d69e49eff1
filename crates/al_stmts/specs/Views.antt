-- What declarations do at their places, as plain data.
use Rattle.std.specs.Prelude.{List, Vec, map}
use Rattle.std.specs.declared.alloc.Global.{Global}
use Rattle.al_view_typed.specs.DeclarationTrees.{DeclarationTree, declaration_model}
use Rattle.al_view_typed.specs.declared.declaration.TypedDeclaration.{TypedDeclaration}

abbrev pub effects_model : Vec TypedDeclaration Global → List DeclarationTree
effects_model ds = map declaration_model ds.items
