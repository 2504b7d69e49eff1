-- Operations of protected objects after the object's name (ARM 9.5, 4.1.3).
use Rattle.std.specs.Prelude.{ℕ, List, [], ◌∷◌, Option, Some, None, if◌then◌else◌}
use Rattle.std.specs.List.{flat_map}
use Rattle.std.specs.Str.{bytes_eq}
use Rattle.al_base.specs.declared.place.Place.{Place}
use Rattle.al_overload_lookup.specs.Keys.{is_none}
use Rattle.al_overload.specs.Terms.{TermTree, TermTree as terms}
use Rattle.al_view.specs.declared.view.Operation.{Operation}
use Rattle.al_view.specs.declared.view.ProtectedView.{ProtectedView}
use Rattle.al_view.specs.declared.view.ViewKind.{ViewKind}
use Rattle.al_view.specs.declared.view.ViewKind.TheVariants as views

-- the operation, if it has that name
abbrev pub named_so : List ℕ → Operation → List ViewKind
named_so name o = if bytes_eq name o.name then views.OfSubprogram o.subprogram ∷ [] else []

-- all operations of that name, which may be overloaded (ARM 8.3(7), 8.6)
abbrev pub operations_named : List ℕ → List Operation → List ViewKind
operations_named name operations = flat_map (named_so name) operations

-- one of these; if there are none it fits nothing
abbrev pub called : Place → List ViewKind → TermTree
called p vs = if is_none vs then terms.NothingTerm p else terms.NamedTerm p vs

-- the operations of that name
unfoldable pub operation_of : Place → ProtectedView → List ℕ → TermTree
operation_of p object name = called p (operations_named name object.operations)

abbrev pub protected_of : ViewKind → Option ProtectedView
protected_of (views.OfProtected p) = Some p
protected_of _ = None

-- the protected object that is all that is visible under a name: it isn't overloadable (ARM 8.3(26))
abbrev pub protected_in : List ViewKind → Option ProtectedView
protected_in (v ∷ []) = protected_of v
protected_in _ = None
