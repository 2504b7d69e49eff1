-- Use clauses (ARM 8.4), by the package whose declarations they open.
use Rattle.std.specs.Prelude.{ℕ, List, [], ◌∷◌, ◌++◌, Bool, true, false, ◌||◌, unwrap_or, map, Vec, if◌then◌else◌}
use Rattle.std.specs.List.{list_any}
use Rattle.std.specs.List.Sorted.{IsStrictlySortedBy}
use Rattle.std.specs.Map.{keys_of, lookup}
use Rattle.std.specs.Option.{option_map_or}
use Rattle.std.specs.BTreeMap.{insert_entry, is_at}
use Rattle.std.specs.declared.rc.Rc.{Rc}
use Rattle.al_base.specs.Files.{name_cmp}
use Rattle.al_base.specs.declared.unit_key.UnitKey.{UnitKey}
use Rattle.al_base.specs.declared.unit_key.UnitKind.TheVariants.{Decl}
use Rattle.al_view.specs.declared.symbol.Symbol.{Symbol}
use Rattle.al_view.specs.declared.view.ViewKind.{ViewKind}
use Rattle.al_view.specs.declared.types.TypeView.{TypeView}
use Rattle.al_view.specs.Named.{Declarations}
use Rattle.al_view.specs.Operators.{is_operator_of}
use Rattle.al_view.specs.Symbols.{same_symbol}
use Rattle.al_view.specs.Types.{type_in}
use Rattle.al_view_predefined.specs.Operators.{operators_of, with_operators}
use Rattle.al_scope.specs.declared.uses.PackageUse.{PackageUse}

-- packages, in the order of their names, each with what use clauses say of it
abbrev pub Uses : Type 0
Uses = List (List ℕ × PackageUse)

-- no package is there twice, as the names ascend
abbrev pub EachOnce : Uses → Type 0
EachOnce uses = IsStrictlySortedBy name_cmp (keys_of uses)

-- what use clauses say of a package that none names
abbrev pub no_use : PackageUse
no_use = record { is_named = false; is_mentioned = false; types = []; operators = [] }

abbrev pub use_of : Uses → List ℕ → PackageUse
use_of uses package_name = unwrap_or (lookup (is_at (name_cmp package_name)) uses) no_use

-- a use clause more that names the package (ARM 8.4(3))
abbrev pub with_package : List ℕ → Uses → Uses
with_package package_name uses = insert_entry name_cmp uses package_name (record (use_of uses package_name) { is_named = true; is_mentioned = true })

-- a use type clause more, for a type of a package that is mentioned at the clause (ARM 8.4(4)): the package is asked for its operators
abbrev pub with_type : Symbol → Uses → Uses
with_type s uses =
    let before = use_of uses s.unit.name in
    insert_entry name_cmp uses s.unit.name (record before { is_mentioned = true; types = before.types ++ s ∷ [] })

-- the operators that the declaration of a type declares (ARM 3.2.3(6)), if it is one of these types
abbrev pub operators_in : Symbol → List TypeView → Declarations
operators_in s types = option_map_or (λ (t : TypeView). with_operators s types [] [] (operators_of t.definition)) (type_in types s) []

abbrev pub with_operators_in : Symbol → List TypeView → PackageUse → PackageUse
with_operators_in s types u =
    if list_any (same_symbol s) u.types then u else record u { types = u.types ++ s ∷ []; operators = u.operators ++ operators_in s types ∷ [] }

-- a use type clause more, for a type of a package that isn't mentioned at the clause: its operators are those that the type's view
-- has, each once, and the package is asked for nothing
abbrev pub with_type_view : Symbol → List TypeView → Uses → Uses
with_type_view s types uses = insert_entry name_cmp uses s.unit.name (with_operators_in s types (use_of uses s.unit.name))

-- the package of that name
abbrev pub package_unit : List ℕ → UnitKey
package_unit name = record { name = name; kind = Decl }

-- what use clauses open of what the package offers (ARM 8.4(8)): all of it if one names the package, the operators
-- of the types else
abbrev pub opens : PackageUse → ViewKind → Bool
opens u v = u.is_named || list_any (is_operator_of v) u.types

-- the entries of a map by name, seen so
abbrev pub uses_of : {Y W : Type 0} → List (Vec ℕ Y × Rc PackageUse W) → Uses
uses_of entries = map (λ e. (e.0.items, e.1.value)) entries
