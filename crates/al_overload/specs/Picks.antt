-- Which declaration the number of a candidate means.
use Rattle.std.specs.Prelude.{◌≡◌, ℕ, ◌-◌, nat_lt, List, [], ◌∷◌, slice_get, Option, Some, None, if◌then◌else◌}
use Rattle.std.specs.List.{flat_map}
use Rattle.std.specs.Option.{option_and_then, option_map_or}
use Rattle.al_overload.specs.Candidates.{candidates_of}
use Rattle.al_view_predefined.specs.StandardTypes.{type_of}
use Rattle.al_view.specs.declared.symbol.Symbol.{Symbol}
use Rattle.al_view.specs.declared.types.TypeDefinition.{TypeDefinition}
use Rattle.al_view.specs.declared.types.TypeDefinition.TheVariants as definitions
use Rattle.al_view.specs.declared.types.TypeView.{TypeView}
use Rattle.al_view.specs.declared.view.ViewKind.{ViewKind}
use Rattle.al_view.specs.declared.view.ViewKind.TheVariants as views

-- an object of an array type may be itself or one of its components
abbrev pub object_count : TypeDefinition → ℕ
object_count (definitions.Array index component) = 2
object_count (definitions.Integer bounds) = 1
object_count (definitions.Enumeration literals) = 1
object_count (definitions.Record components) = 1
object_count definitions.Time = 1
object_count definitions.Private = 1

-- how many candidates a declaration gives
abbrev pub candidate_count : ViewKind → ℕ
candidate_count (views.OfObject o) = option_map_or (λ (t : TypeView). object_count t.definition) (type_of o.types o.subtype.base) 1
candidate_count (views.OfNumber value) = 1
candidate_count (views.OfLiteral l) = 1
candidate_count (views.OfSubprogram s) = 1
candidate_count views.OfComponent = 0
candidate_count (views.OfType t) = 0
candidate_count (views.OfSubtype s) = 0
candidate_count (views.OfTask t) = 0
candidate_count (views.OfProtected p) = 0
candidate_count (views.OfPackage symbol) = 0

-- the declaration whose candidate has this number, and which of its candidates it is
abbrev pub pick : ℕ → List ViewKind → Option (ViewKind × ℕ)
pick n [] = None
pick n (v ∷ vs) = if nat_lt n (candidate_count v) then Some (v, n) else pick (n - candidate_count v) vs

-- the candidate that has the number, among all that the declarations may be, is that one of that declaration
abbrev pub NumbersMeanCandidates : Type 0
NumbersMeanCandidates =
    (root : Symbol) (visible : List ViewKind) (n : ℕ)
    → slice_get (flat_map (candidates_of root) visible) n
    ≡ option_and_then (λ (p : ViewKind × ℕ). slice_get (candidates_of root p.0) p.1) (pick n visible)
