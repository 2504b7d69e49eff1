-- What a declaration declares, and what is left after it.
use Rattle.std.specs.Prelude.{List, Option, None, option_map, Result, Ok, Err}
use Rattle.al_base_fault.specs.declared.fault.Fault.{Fault}
use Rattle.al_view_typed.specs.DeclarationTrees.{DeclarationTree, declaration_model}
use Rattle.al_decl_judged.specs.declared.declaration.Declaration.{Declaration}
use Rattle.al_decl_judged.specs.declared.declared.Declared.{Declared}
use Rattle.al_decl_judged.specs.declared.progress.Progress.{Progress}

-- the names with their views in source order, and what is done at its place
pub record DeclaredTree : Type 0 where
  pub declarations : List Declaration
  pub effect : Option DeclarationTree

-- if nothing is done
abbrev pub declares : List Declaration → DeclaredTree
declares declarations = record { declarations = declarations; effect = None }

abbrev pub declared_model : Declared → DeclaredTree
declared_model d = record { declarations = d.declarations; effect = option_map declaration_model d.effect }

-- what is right, with what is left after it; after a fault nothing follows
abbrev pub joined : {A : Type 0} → Progress → Result A Fault → Result (Progress × A) Fault
joined p (Ok a) = Ok (p, a)
joined p (Err f) = Err f
