-- What the declarations of a unit have taken so far.
use Rattle.std.specs.Prelude.{ℕ, Bool, ◌==◌, List, [], ◌∷◌, ◌++◌, is_some, unwrap_or, if◌then◌else◌}
use Rattle.al_view.specs.declared.symbol.Symbol.{Symbol}
use Rattle.al_view.specs.declared.view.ObjectPlace.{ObjectPlace}
use Rattle.al_view.specs.declared.view.ObjectPlace.TheVariants.{Frame, Static}
use Rattle.al_view_typed.specs.declared.unit.DataPlace.{DataPlace}
use Rattle.al_view_typed.specs.declared.unit.ProtectedWords.{ProtectedWords}
use Rattle.al_decl_judged.specs.Homonyms.{with_name}
use Rattle.al_decl_judged.specs.TypeDeclarations.{next_symbol, with_names}
use Rattle.al_decl_judged.specs.WordCounts.{after_data, after_frame}
use Rattle.al_decl_judged.specs.declared.names.TypeName.{TypeName}
use Rattle.al_decl_judged.specs.declared.progress.Progress.{Progress}

-- depth 0 is library level, which has no frame
abbrev pub is_library_level : Progress → Bool
is_library_level p = p.depth == 0

-- one more declaration of a name
abbrev pub with_counted : Progress → List ℕ → Progress
with_counted p name = record p { homonyms = with_name p.homonyms name }

-- one more declaration of each of these names
abbrev pub with_all_counted : Progress → List (List ℕ) → Progress
with_all_counted p names = record p { homonyms = with_names p.homonyms names }

-- the symbol of the next declaration of a name
abbrev pub symbol_of : Progress → List ℕ → Symbol
symbol_of p name = next_symbol p.unit p.homonyms name

-- the symbol of a type that is declared: that of the private type that it completes, or else of the next declaration of its name
abbrev pub type_symbol : Progress → TypeName → Symbol
type_symbol p n = unwrap_or n.partial (symbol_of p n.defining.name)

-- if it completes one, its name is counted already
abbrev pub type_counted : Progress → TypeName → Progress
type_counted p n = if is_some n.partial then p else with_counted p n.defining.name

-- where the next object or flag lies: in the unit's words, or in the innermost frame
abbrev pub next_place : Progress → Symbol → ObjectPlace
next_place p symbol = if is_library_level p then Static symbol 0 else Frame p.depth p.words.frame

-- a symbol, and the next of the unit's words
abbrev pub next_data : Progress → Symbol → DataPlace
next_data p symbol = record { symbol = symbol; word = p.words.data }

-- an object of so many words lies there
abbrev pub after_object : Progress → Symbol → ℕ → Progress
after_object p symbol words =
    if is_library_level p then record p { words = after_data p.words words; objects = p.objects ++ next_data p symbol ∷ [] }
    else record p { words = after_frame p.words words }

-- a flag of one word lies there
abbrev pub after_flag : Progress → Symbol → Progress
after_flag p symbol =
    if is_library_level p then record p { words = after_data p.words 1; flags = p.flags ++ next_data p symbol ∷ [] }
    else record p { words = after_frame p.words 1 }

-- so many words of the unit for the components of a protected object with this ceiling
abbrev pub next_region : Progress → Symbol → ℕ → ℕ → ProtectedWords
next_region p symbol words ceiling = record { symbol = symbol; word = p.words.data; words = words; ceiling = ceiling }

abbrev pub with_region : Progress → Symbol → ℕ → ℕ → Progress
with_region p symbol words ceiling =
    record p { words = after_data p.words words; protected_objects = p.protected_objects ++ next_region p symbol words ceiling ∷ [] }

-- a protected object lies there: its flag comes first, outside of the words that are entered (ARM 9.5.1)
abbrev pub after_protected : Progress → Symbol → ℕ → ℕ → Progress
after_protected p symbol words ceiling = with_region (after_flag p symbol) symbol words ceiling
