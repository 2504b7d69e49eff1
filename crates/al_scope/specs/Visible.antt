-- What is visible at a place (ARM 8.3, 8.4), as a list.
use Rattle.std.specs.Prelude.{ℕ, List, [], ◌∷◌, ◌++◌, Bool, ◌&&◌, ◌||◌, not, nat_lt, length, map, filter, flat_map, if◌then◌else◌}
use Rattle.std.specs.List.{list_any, list_all}
use Rattle.std.specs.Str.{bytes_eq}
use Rattle.al_view.specs.declared.view.ViewKind.{ViewKind}
use Rattle.al_view.specs.Homographs.{homographs, may_be_overloaded}
use Rattle.al_view.specs.Interfaces as interface
use Rattle.al_view.specs.Named.{Declarations}
use Rattle.al_query.specs.declared.query.Query.{Query}
use Rattle.al_query.specs.declared.query.Query.TheVariants.{Named}
use Rattle.al_query.specs.declared.answer.AnswerKind.{AnswerKind}
use Rattle.al_query.specs.Answers as answer
use Rattle.al_scope.specs.declared.region.UnitPart.{UnitPart}
use Rattle.al_scope.specs.declared.region.Region.{Region}
use Rattle.al_scope.specs.declared.uses.PackageUse.{PackageUse}
use Rattle.al_scope.specs.declared.hiding.RegionEntry.{RegionEntry}
use Rattle.al_scope.specs.PartialViews.{without_partial}
use Rattle.al_scope.specs.Places.{Place, child_name, is_visible_part, uses_at, visible_part}
use Rattle.al_scope.specs.UseClauses.{Uses, opens}

-- the mentioned children of a unit under a name; they count as declared in its visible part (ARM 8.1(9), 10.1.2(8))
abbrev pub children_in : Declarations → List ℕ → UnitPart → List ViewKind
children_in m name p = if is_visible_part p then interface.views_of m (child_name p.unit.name name) else []

-- what a part of a unit declares under a name
abbrev pub declared_by : (Query → AnswerKind) → Declarations → List ℕ → UnitPart → List ViewKind
declared_by t m name p = answer.views_of (t (Named p.unit p.part name)) ++ children_in m name p

-- what a region has of a name: whether a declaration of it was begun, and what is declared, first in the parts that the
-- region continues; the partial view of a private type gives way to its full view
abbrev pub found_in : (Query → AnswerKind) → Declarations → List ℕ → Region → RegionEntry
found_in t m name r = record {
  begun = list_any (bytes_eq name) r.begun;
  views = without_partial (flat_map (declared_by t m name) r.parts ++ interface.views_of r.declared name);
}

-- a region shuts an outer declaration out (ARM 8.3(15, 16)): by a declaration that was begun, or by a homograph
abbrev pub shuts_out : ViewKind → RegionEntry → Bool
shuts_out v f = f.begun || list_any (homographs v) f.views

-- a region decides: what it has of a name shuts out every other declaration of it
abbrev pub decides : RegionEntry → Bool
decides f = f.begun || not (list_all may_be_overloaded f.views)

-- directly visible (ARM 8.3(14)), innermost region first: what a region declares, but for what a region further in
-- shuts out
abbrev pub direct : List RegionEntry → List ViewKind
direct [] = []
direct (f ∷ inner) = direct inner ++ filter (λ v. not (list_any (shuts_out v) inner)) f.views

-- what a package of use clauses offers under a name: what it declares, if it is mentioned at one of them, else the operators that the
-- views of its types have
abbrev pub offered_by : (Query → AnswerKind) → Declarations → List ℕ → List ℕ × PackageUse → List ViewKind
offered_by t m name u = if u.1.is_mentioned then declared_by t m name (visible_part u.0) else flat_map (λ d. interface.views_of d name) u.1.operators

-- what they open of it
abbrev pub opened_by : (Query → AnswerKind) → Declarations → List ℕ → List ℕ × PackageUse → List ViewKind
opened_by t m name u = filter (opens u.1) (offered_by t m name u)

-- potentially use-visible (ARM 8.4(8))
abbrev pub potential : (Query → AnswerKind) → Declarations → List ℕ → Uses → List ViewKind
potential t m name uses = flat_map (opened_by t m name) uses

-- several, not all of them overloadable (ARM 8.4(11))
abbrev pub clash : List ViewKind → Bool
clash views = nat_lt 1 (length views) && not (list_all may_be_overloaded views)

-- use-visible (ARM 8.4(9 to 11)): what is potentially so and doesn't clash, but for what a region at all shuts out
abbrev pub use_visible : List RegionEntry → List ViewKind → List ViewKind
use_visible founds views = if clash views then [] else filter (λ v. not (list_any (shuts_out v) founds)) views

-- what is visible of a name: what is directly visible, and then what is use-visible
abbrev pub visible_at : (Query → AnswerKind) → List ℕ → Place → List ViewKind
visible_at t name place =
    let founds = map (found_in t place.mentioned name) place.regions in
    direct founds ++ use_visible founds (potential t place.mentioned name (uses_at place.regions))

-- what the innermost region has of a name
abbrev pub innermost : (Query → AnswerKind) → Declarations → List ℕ → List Region → List ViewKind
innermost t m name [] = []
innermost t m name (r ∷ []) = (found_in t m name r).views
innermost t m name (r ∷ q ∷ inner) = innermost t m name (q ∷ inner)
