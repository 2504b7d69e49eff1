-- What is visible at a place (ARM 8.3, 8.4), as a set.
use Rattle.std.specs.Prelude.{◌≡◌, ℕ, List, [], ◌∷◌, false, true, ◌⊎◌, ⊤, map}
use Rattle.std.specs.List.{list_any}
use Rattle.al_view.specs.declared.symbol.Symbol.{Symbol}
use Rattle.al_view.specs.declared.view.ViewKind.{ViewKind}
use Rattle.al_view.specs.Homographs.{may_be_overloaded}
use Rattle.al_view.specs.Named.{Declarations}
use Rattle.al_view.specs.Operators.{is_operator_of}
use Rattle.al_query.specs.declared.query.Query.{Query}
use Rattle.al_query.specs.declared.answer.AnswerKind.{AnswerKind}
use Rattle.al_scope.specs.declared.hiding.RegionEntry.{RegionEntry}
use Rattle.al_scope.specs.declared.region.Region.{Region}
use Rattle.al_scope.specs.declared.uses.PackageUse.{PackageUse}
use Rattle.al_scope.specs.Places.{Place, uses_at}
use Rattle.al_scope.specs.UseClauses.{Uses}
use Rattle.al_scope.specs.Visible.{clash, found_in, offered_by, potential, shuts_out}

-- a list has an item
abbrev pub Has : {X : Type 0} → List X → X → Type 0
Has [] v = ⊥
Has (x ∷ xs) v = (x ≡ v) ⊎ Has xs v

-- some region declares it, and none further in shuts it out
abbrev pub IsDirect : (Query → AnswerKind) → Declarations → List ℕ → List Region → ViewKind → Type 0
IsDirect t m name [] v = ⊥
IsDirect t m name (r ∷ inner) v =
    (Has (found_in t m name r).views v × (list_any (λ q. shuts_out v (found_in t m name q)) inner ≡ false)) ⊎ IsDirect t m name inner v

-- a use clause names the package, or a type whose operator it is
abbrev pub IsOpen : PackageUse → ViewKind → Type 0
IsOpen u v = (u.is_named ≡ true) ⊎ ((s : Symbol) × Has u.types s × (is_operator_of v s ≡ true))

-- a package that use clauses round the place open offers it, no region shuts it out, and nothing clashes
abbrev pub IsUseVisible : (Query → AnswerKind) → List ℕ → Place → ViewKind → Type 0
IsUseVisible t name place v =
    ((u : List ℕ × PackageUse) × Has (uses_at place.regions) u × Has (offered_by t place.mentioned name u) v × IsOpen u.1 v)
    × (list_any (λ q. shuts_out v (found_in t place.mentioned name q)) place.regions ≡ false)
    × (clash (potential t place.mentioned name (uses_at place.regions)) ≡ false)

abbrev pub IsVisible : (Query → AnswerKind) → List ℕ → Place → ViewKind → Type 0
IsVisible t name place v = IsDirect t place.mentioned name place.regions v ⊎ IsUseVisible t name place v

-- no item is there twice
abbrev pub Once : List ViewKind → Type 0
Once [] = ⊤
Once (v ∷ vs) = (Has vs v → ⊥) × Once vs

abbrev pub AllOnce : List RegionEntry → Type 0
AllOnce [] = ⊤
AllOnce (f ∷ fs) = Once f.views × AllOnce fs

-- no region has a declaration of the name twice
abbrev pub HasOnce : (Query → AnswerKind) → List ℕ → Place → Type 0
HasOnce t name place = AllOnce (map (found_in t place.mentioned name) place.regions)

-- no package that use clauses open offers anything twice under the name
abbrev pub DeclareOnce : (Query → AnswerKind) → Declarations → List ℕ → Uses → Type 0
DeclareOnce t m name [] = ⊤
DeclareOnce t m name (u ∷ us) = Once (offered_by t m name u) × DeclareOnce t m name us

-- no two of them offer one and the same thing that may be overloaded under the name
abbrev pub AreApart : (Query → AnswerKind) → Declarations → List ℕ → Uses → Type 0
AreApart t m name us =
    (a b : List ℕ × PackageUse) (v : ViewKind) → Has us a → Has us b → may_be_overloaded v ≡ true
    → Has (offered_by t m name a) v → Has (offered_by t m name b) v → a.0 ≡ b.0

-- if no region and no package has a declaration twice, and packages share none, none is there twice in the list
abbrev pub KeepsOnce : (Query → AnswerKind) → List ℕ → Place → List ViewKind → Type 0
KeepsOnce t name place views =
    HasOnce t name place → DeclareOnce t place.mentioned name (uses_at place.regions) → AreApart t place.mentioned name (uses_at place.regions) → Once views

-- if no region had a declaration twice, none has one twice
abbrev pub StaysOnce : (Query → AnswerKind) → Place → Place → Type 0
StaysOnce t old new = (name : List ℕ) → HasOnce t name old → HasOnce t name new
