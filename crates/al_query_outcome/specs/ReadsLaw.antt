-- What a check may ask and what its result may name.
use Rattle.std.specs.Prelude.{ℕ, ◌≡◌, ◌⊎◌, Bool, true, ◌&&◌, ◌||◌, ◌==◌, not, List, [], ◌∷◌, ◌++◌, ⊤, map, nat_lt, Option, Some, None, length, if◌then◌else◌}
use Rattle.std.specs.List.{Contains, flat_map, list_all, list_any}
use Rattle.std.specs.Option.{option_map_or}
use Rattle.std.specs.Str.{bytes_eq}
use Rattle.al_base.specs.Batch.{key_of}
use Rattle.al_base.specs.FileNames.{file_name_of}
use Rattle.al_base.specs.declared.diagnostic.Diagnostic.{Diagnostic}
use Rattle.al_base.specs.declared.unit_key.UnitKey.{UnitKey}
use Rattle.al_base.specs.declared.unit_key.UnitKind.TheVariants.{Sub}
use Rattle.al_view.specs.Named.{Declarations}
use Rattle.al_view.specs.Symbols.{same_unit}
use Rattle.al_view.specs.ViewUses.{view_uses}
use Rattle.al_view.specs.declared.link.LinkSymbol.{LinkSymbol}
use Rattle.al_query.specs.Answers.{declaration, names_told, units_named}
use Rattle.al_query.specs.Known.{body, has_unit, predefined_units}
use Rattle.al_query.specs.Queries.{unit_of}
use Rattle.al_query.specs.declared.answer.AnswerKind.{AnswerKind}
use Rattle.al_query.specs.declared.answer.AnswerKind.TheVariants as answers
use Rattle.al_query.specs.declared.query.Property.TheVariants.{Completions}
use Rattle.al_query.specs.declared.query.Query.{Query}
use Rattle.al_query.specs.declared.query.Query.TheVariants.{Named, Of}
use Rattle.al_view_typed.specs.Uses.{unit_uses}
use Rattle.al_view_typed.specs.WellFormed.{IsWellFormed}
use Rattle.al_unit_graph.specs.Headers.{Header, Mention, is_library_body}
use Rattle.al_unit_graph.specs.Names.{lineage, parent_of}
use Rattle.al_query_outcome.specs.Results.{Outcome, Faulty, Sound}
use Rattle.al_query_outcome.specs.declared.interface.UnitInterface.{UnitInterface}

abbrev pub subunit : List ℕ → UnitKey
subunit name = record { name = name; kind = Sub }

-- the units that a unit names without a clause: for a library body its declaration; for a library unit its parent's; for a subunit
-- the parent body (ARM 10.1.3(8)), which is a body or a subunit: both ask for one file, so one of them at most is there
abbrev pub own_names : Header → Option Mention → List UnitKey
own_names h None = (if is_library_body h.form then declaration h.name ∷ [] else []) ++ option_map_or (λ p. declaration p ∷ []) (parent_of h.name) []
own_names h (Some parent) = body parent.name ∷ subunit parent.name ∷ []

-- the units that a unit's source names: its own declaration, its parent's, its parent body, and each unit of a with clause with its
-- ancestors (ARM 10.1.1(26)); the predefined ones it needn't name. A body is named as a parent body alone: that a body acts as its
-- declaration is learned if there is no declaration.
unfoldable pub named_by : Header → List UnitKey
named_by h = predefined_units ++ own_names h h.parent_body ++ flat_map (λ m. map declaration (lineage m.name)) h.mentions

-- a question of a predefined unit, or of another unit than this one
abbrev pub is_of_another : UnitKey → Query → Bool
is_of_another unit q = has_unit predefined_units (unit_of q) || not (same_unit unit (unit_of q))

-- no question is of the unit itself
abbrev pub AsksOthers : UnitKey → List (Query × AnswerKind) → Type 0
AsksOthers unit log = list_all (λ e. is_of_another unit e.0) log ≡ true

-- a question of a unit is by one of these names, or for a property; for what a body must complete, of the unit's own declaration alone
abbrev pub is_by_names : UnitKey → List (List ℕ) → Query → Bool
is_by_names unit names (Named of part name) = list_any (bytes_eq name) names
is_by_names unit names (Of of Completions) = same_unit of (declaration unit.name)
is_by_names unit names (Of of _) = true

-- all questions of a log are so; a name that an answer gives may be asked for after it
abbrev pub asks_by_names : UnitKey → List (List ℕ) → List (Query × AnswerKind) → Bool
asks_by_names unit names [] = true
asks_by_names unit names (e ∷ es) = is_by_names unit names e.0 && asks_by_names unit (names ++ names_told e.1) es

abbrev pub AsksByNames : UnitKey → List (List ℕ) → List (Query × AnswerKind) → Type 0
AsksByNames unit names log = asks_by_names unit names log ≡ true

-- a unit's answers to questions of its properties, but for those that name no unit
abbrev pub property_answers : UnitInterface → List AnswerKind
property_answers i = answers.Kind i.properties.kind ∷ i.properties.parent ∷ i.properties.context ∷ i.properties.completions ∷ []

-- what its parts declare
abbrev pub declarations_of : UnitInterface → List Declarations
declarations_of i = i.parts.visible ∷ i.parts.private_part ∷ i.parts.body ∷ map (λ s. s.before) i.parts.stubs

-- the units that an outcome names: a parent, and those of with clauses. Symbols name no unit: other definitions say what they may
-- be used for, and who defines them.
unfoldable pub outcome_units : Outcome → List UnitKey
outcome_units (Faulty faults) = []
outcome_units (Sound interface tree) = flat_map units_named (property_answers interface)

-- an outcome names no units but these
abbrev pub NamesOnly : List UnitKey → Outcome → Type 0
NamesOnly units outcome = list_all (has_unit units) (outcome_units outcome) ≡ true

-- what the linker must find for who names what is answered
unfoldable pub answer_uses : AnswerKind → List LinkSymbol
answer_uses (answers.Views views) = flat_map view_uses views
answer_uses (answers.Kind view) = view_uses view
answer_uses (answers.Completions completions) = flat_map (λ c. view_uses c.view) completions
answer_uses _ = []

unfoldable pub log_uses : List (Query × AnswerKind) → List LinkSymbol
log_uses log = flat_map (λ e. answer_uses e.1) log

-- the labelled tree uses only what is the unit's own, and what recorded answers show
abbrev pub UsesOnly : UnitKey → List (Query × AnswerKind) → Outcome → Type 0
UsesOnly unit log (Faulty faults) = ⊤
UsesOnly unit log (Sound interface tree) = (x : LinkSymbol) → Contains (unit_uses tree) x → (x.symbol.unit ≡ unit) ⊎ Contains (log_uses log) x

-- code can be made of the labelled tree, which is the unit's
abbrev pub HasCode : UnitKey → Outcome → Type 0
HasCode unit (Faulty faults) = ⊤
HasCode unit (Sound interface tree) = (tree.unit ≡ unit) × IsWellFormed tree

-- the numbers of the rules that a check finds broken: declarations, names and expressions, statements, tasks; 700 stands for
-- what isn't checked yet
abbrev pub is_check_code : ℕ → Bool
is_check_code code =
    list_any (λ c. c == code)
    (301 ∷ 302 ∷ 303 ∷ 304 ∷ 305 ∷ 306 ∷ 307 ∷ 308 ∷ 309 ∷ 310 ∷ 401 ∷ 402 ∷ 403 ∷ 404 ∷ 405 ∷ 406 ∷ 501 ∷ 502 ∷ 503 ∷ 504
    ∷ 601 ∷ 602 ∷ 603 ∷ 604 ∷ 700 ∷ [])

-- a fault in the unit's own file
abbrev pub is_fault_of : UnitKey → Diagnostic → Bool
is_fault_of unit d = bytes_eq d.file (file_name_of (key_of unit)) && is_check_code d.code

-- what is wrong is something, each of it in the unit's own file
abbrev pub FaultsFit : UnitKey → Outcome → Type 0
FaultsFit unit (Faulty faults) = (nat_lt 0 (length faults) ≡ true) × (list_all (is_fault_of unit) faults ≡ true)
FaultsFit unit (Sound interface tree) = ⊤
