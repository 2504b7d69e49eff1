-- Laws of declarations, in the words of the Manual.
use Rattle.std.specs.Prelude.{◌≡◌, ◌↔◌, ℕ, ℤ, ◌+◌, ◌<◌, ◌≤◌, ◌-ℤ◌, unsigned_abs, count_by, sum, Bool, true, not, ◌&&◌, List, [], ◌∷◌, ◌++◌, length, slice_index, is_ok}
use Rattle.std.specs.List.{list_all, list_any}
use Rattle.std.specs.Str.{bytes_eq}
use Rattle.al_view.specs.declared.symbol.Symbol.{Symbol}
use Rattle.al_view.specs.declared.types.Bounds.{Bounds}
use Rattle.al_view.specs.declared.types.TypeView.{TypeView}
use Rattle.al_view.specs.Symbols.{same_symbol}
use Rattle.al_view.specs.ViewSymbols.{definition_symbols}
use Rattle.al_decl_judged.specs.declared.subtype_views.StaticRange.{StaticRange}
use Rattle.al_decl_judged.specs.Homonyms.{count_of}
use Rattle.al_decl_judged.specs.Layouts.{offsets_from, values_in}
use Rattle.al_decl_judged.specs.TypeSubtypes.{fitted, is_within}
use Rattle.al_decl_judged.specs.TypeDeclarations.{with_names}
use Rattle.al_decl_judged.specs.TypeLists.{is_known, joined}

-- a declaration's number is how many declarations of its name come before it
abbrev pub NumbersCountHomonyms : Type 0
NumbersCountHomonyms = (before : List (List ℕ)) (name : List ℕ) → count_of (with_names [] before) name ≡ count_by (bytes_eq name) before

-- a constraint is right if, and only if, each value of its range lies in the mark's (ARM 3.5(6))
abbrev pub ConstraintsNarrow : Type 0
ConstraintsNarrow = (range : StaticRange) (within : Bounds) → (is_ok (fitted range within) ≡ true) ↔ ((value : ℤ) → is_within value range.bounds ≡ true → is_within value within ≡ true)

-- an index of a value of the range is below the number of its values
abbrev pub IndexesLieInside : Type 0
IndexesLieInside = (range : Bounds) (value : ℤ) → is_within value range ≡ true → unsigned_abs (value -ℤ range.low) < values_in range

-- components begin after those before them, and end within the words of the record
abbrev pub ComponentsAreApart : Type 0
ComponentsAreApart =
    (words : List ℕ) (i j : ℕ) → i < j → j < length words →
    (slice_index (offsets_from 0 words) i + slice_index words i ≤ slice_index (offsets_from 0 words) j)
    × (slice_index (offsets_from 0 words) j + slice_index words j ≤ sum words)

-- no type is there twice
abbrev pub each_once : List TypeView → Bool
each_once [] = true
each_once (t ∷ ts) = not (list_any (λ u. same_symbol u.symbol t.symbol) ts) && each_once ts

-- if each type is there once in lists that are joined, it is there once in the result
abbrev pub TypesStandOnce : Type 0
TypesStandOnce = (types others : List TypeView) → each_once types ≡ true → each_once (joined types others) ≡ true

-- the types of these are known where those types are
abbrev pub has_components : List TypeView → TypeView → Bool
has_components types of = list_all (is_known types) (definition_symbols of.definition)

-- each type comes after all types that it is of, if those are known
abbrev pub closed_after : List TypeView → List TypeView → Bool
closed_after before [] = true
closed_after before (t ∷ ts) = has_components before t && closed_after (before ++ t ∷ []) ts

-- if the components of all types of two lists come before them, they do so in both together, and no type is missing
abbrev pub TypesAreThere : Type 0
TypesAreThere =
    (types others : List TypeView) → closed_after [] types ≡ true → closed_after [] others ≡ true →
    (closed_after [] (joined types others) ≡ true)
    × ((symbol : Symbol) → is_known types symbol ≡ true → is_known (joined types others) symbol ≡ true)
    × ((symbol : Symbol) → is_known others symbol ≡ true → is_known (joined types others) symbol ≡ true)
