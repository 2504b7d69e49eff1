-- What declarations do when they are elaborated, as plain data, and what the program's are.
use Rattle.std.specs.Prelude.{ℕ, List, Option, map, option_map}
use Rattle.al_view.specs.declared.symbol.Symbol.{Symbol}
use Rattle.al_view.specs.declared.view.ObjectPlace.{ObjectPlace}
use Rattle.al_view_typed.specs.ExpressionTrees.{ValueTree}
use Rattle.al_view_typed.specs.ExpressionViews.{value_model}
use Rattle.al_view_typed.specs.declared.declaration.ComponentValue.{ComponentValue}
use Rattle.al_view_typed.specs.declared.declaration.DeclarationForm.{DeclarationForm}
use Rattle.al_view_typed.specs.declared.declaration.DeclarationForm.TheVariants as declared
use Rattle.al_view_typed.specs.declared.declaration.TypedDeclaration.{TypedDeclaration}

-- the value of components of a protected object that are declared together, each of so many words from one of these words of it on
pub record ComponentValueTree : Type 0 where
  pub places : List ℕ
  pub words : ℕ
  pub value : ValueTree

pub data DeclarationFormTree : Type 0 where
  -- objects of so many words each, with their initial value
  Objects : List ObjectPlace → ℕ → Option ValueTree → DeclarationFormTree
  -- the flag that says whether the body is elaborated begins with no
  Subprogram : ObjectPlace → DeclarationFormTree
  -- the body is elaborated from here on
  Elaborated : ObjectPlace → DeclarationFormTree
  -- a task with its priority
  SingleTask : Symbol → ℕ → DeclarationFormTree
  -- a protected object with the components that have a value
  SingleProtected : Symbol → List ComponentValueTree → DeclarationFormTree

-- a declaration with the line of its first token
pub record DeclarationTree : Type 0 where
  pub line : ℕ
  pub form : DeclarationFormTree

abbrev pub component_value_model : ComponentValue → ComponentValueTree
component_value_model c = record { places = c.places; words = c.words; value = value_model c.value }

abbrev pub form_model : DeclarationForm → DeclarationFormTree
form_model (declared.Objects places words value) = Objects places words (option_map value_model value)
form_model (declared.Subprogram flag) = Subprogram flag
form_model (declared.Elaborated flag) = Elaborated flag
form_model (declared.Task symbol priority) = SingleTask symbol priority
form_model (declared.Protected symbol values) = SingleProtected symbol (map component_value_model values.items)

abbrev pub declaration_model : TypedDeclaration → DeclarationTree
declaration_model d = record { line = d.line; form = form_model d.form }
