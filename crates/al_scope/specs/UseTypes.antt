-- A use type clause needs no mention of its type's package (ARM 8.4(8)).
use Rattle.std.specs.Prelude.{◌≡◌, ℕ, true, List, [], ◌∷◌, filter}
use Rattle.al_query.specs.Reads.{Table}
use Rattle.al_scope.specs.Places.{used_part, visible_part}
use Rattle.al_scope.specs.UseClauses.{no_use, operators_in, with_operators_in}
use Rattle.al_scope.specs.Visible.{declared_by, opened_by}
use Rattle.al_scope.specs.declared.uses.PackageUse.{PackageUse}
use Rattle.al_view.specs.Interfaces.{views_of}
use Rattle.al_view.specs.Named.{Declarations}
use Rattle.al_view.specs.Operators.{is_operator_of}
use Rattle.al_view.specs.declared.symbol.Symbol.{Symbol}
use Rattle.al_view.specs.declared.types.TypeView.{TypeView}

-- what a use type clause says of a package: if it isn't mentioned, and if it is
abbrev pub from_afar : Symbol → List TypeView → PackageUse
from_afar s types = with_operators_in s types no_use

abbrev pub from_near : Symbol → PackageUse
from_near s = record no_use { is_mentioned = true; types = s ∷ [] }

-- if it isn't mentioned, the clause opens each operator that the type's declaration declares under a sign, and asks no package
abbrev pub OpensAllOperators : Type 0
OpensAllOperators =
    (t : Table) (m : Declarations) (name : List ℕ) (s : Symbol) (types : List TypeView)
    → (opened_by t m name (s.unit.name, from_afar s types) ≡ views_of (operators_in s types) name) × (used_part (s.unit.name, from_afar s types) ≡ [])

-- so it opens what it opens if the package is mentioned, if of what the package declares under the sign these are the type's operators
abbrev pub NeedsNoMention : Type 0
NeedsNoMention =
    (t : Table) (m : Declarations) (name : List ℕ) (s : Symbol) (types : List TypeView)
    → filter (λ v. is_operator_of v s) (declared_by t m name (visible_part s.unit.name)) ≡ views_of (operators_in s types) name
    → opened_by t m name (s.unit.name, from_afar s types) ≡ opened_by t m name (s.unit.name, from_near s)
