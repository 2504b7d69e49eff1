-- The region of a protected body: its operations and components are visible in it (ARM 8.1, 9.4, 9.5.1).
use mathlib.Core.Bool.{beq}
use Rattle.std.specs.Prelude.{ℕ, Bool, false, not, List, [], ◌∷◌, ◌++◌, None, fold}
use Rattle.al_check_here.specs.Stacks.{is_bare}
use Rattle.al_decl.specs.Regions.{in_regions}
use Rattle.al_decl.specs.Declaring.{with_declaration}
use Rattle.al_decl.specs.declared.env.Environment.{Environment}
use Rattle.al_decl_judged.specs.TypeDeclarations.{declared_as}
use Rattle.al_decl_judged.specs.WordCounts.{place_after}
use Rattle.al_overload.specs.PickedTypes.{words_in}
use Rattle.al_scope.specs.Places.{entered_construct, inner_declared}
use Rattle.al_scope.specs.declared.region.Region.{Region}
use Rattle.al_view.specs.Interfaces.{views_of}
use Rattle.al_view.specs.declared.symbol.Symbol.{Symbol}
use Rattle.al_view.specs.declared.types.Component.{Component}
use Rattle.al_view.specs.declared.view.ObjectPlace.TheVariants.{Static}
use Rattle.al_view.specs.declared.view.Operation.{Operation}
use Rattle.al_view.specs.declared.view.ProtectedView.{ProtectedView}
use Rattle.al_view.specs.declared.view.ViewKind.{ViewKind}
use Rattle.al_view.specs.declared.view.ViewKind.TheVariants.{OfObject, OfSubprogram}

-- ---- operations

abbrev pub with_operation : Environment → Operation → Environment
with_operation env o = with_declaration env (declared_as o.name (OfSubprogram o.subprogram))

-- ---- components, each in the words of the object from one word on

-- in the body of a function of the object they are constants (ARM 9.5.1(2))
abbrev pub component_view : ProtectedView → Bool → Component → ℕ → ViewKind
component_view object is_constant c word =
    OfObject (record { subtype = c.subtype; types = object.types; is_constant = is_constant; value = None; place = Static object.symbol word })

abbrev pub word_after : ProtectedView → Component → ℕ → ℕ
word_after object c word = place_after word (words_in object.types c.subtype.base)

-- one more component, and the word after it
abbrev pub with_component : ProtectedView → Bool → Environment × ℕ → Component → Environment × ℕ
with_component object is_constant at c =
    (with_declaration at.0 (declared_as c.name (component_view object is_constant c at.1)), word_after object c at.1)

abbrev pub with_components : ProtectedView → Bool → Environment → Environment
with_components object is_constant env = (fold (with_component object is_constant) (env, 0) object.components).0

-- ---- the region

abbrev pub entered_alone : Environment → Symbol → Environment
entered_alone env symbol =
    record env { scope = in_regions env.scope (env.scope.regions ++ entered_construct symbol [] env.scope.regions ∷ []); declared = [] }

abbrev pub region_entered : Environment → ProtectedView → Bool → Environment
region_entered env object is_constant = with_components object is_constant (fold with_operation (entered_alone env object.symbol) object.operations)

-- ---- the form of a region: in it the components are constants or variables

abbrev pub is_object : Bool → ViewKind → Bool
is_object is_constant (OfObject o) = beq o.is_constant is_constant
is_object is_constant _ = false

abbrev pub is_first_object : Bool → List ViewKind → Bool
is_first_object is_constant [] = false
is_first_object is_constant (v ∷ vs) = is_object is_constant v

-- the first component decides; without components both forms are the same
abbrev pub has_form : Bool → List Component → List Region → Bool
has_form is_constant [] regions = not (is_bare regions)
has_form is_constant (c ∷ cs) regions = is_first_object is_constant (views_of (inner_declared regions) c.name)
