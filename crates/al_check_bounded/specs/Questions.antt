-- The questions that may show a unit what it uses of others, and the views in their answers.
use Rattle.std.specs.Prelude.{ℕ, Bool, true, false, ◌&&◌, List, [], ◌∷◌, ◌++◌, map, if◌then◌else◌}
use Rattle.std.specs.List.{Contains, flat_map, list_any}
use Rattle.std.specs.Str.{bytes_eq}
use Rattle.al_base.specs.declared.unit_key.UnitKey.{UnitKey}
use Rattle.al_view.specs.declared.part.Part.{Part}
use Rattle.al_view.specs.declared.part.Part.TheVariants.{Visible, Private, Body, Stub}
use Rattle.al_view.specs.declared.view.ViewKind.{ViewKind}
use Rattle.al_query.specs.Known.{has_unit}
use Rattle.al_query.specs.Reads.{Log, HoldsBy, Table}
use Rattle.al_query.specs.declared.answer.AnswerKind.{AnswerKind}
use Rattle.al_query.specs.declared.answer.AnswerKind.TheVariants as answers
use Rattle.al_query.specs.declared.query.Property.TheVariants as property
use Rattle.al_query.specs.declared.query.Query.{Query}
use Rattle.al_query.specs.declared.query.Query.TheVariants.{Named, Of}
use Rattle.al_check_bounded.specs.declared.wanted.Wanted.{Wanted}

-- the views in an answer
abbrev pub answer_views : AnswerKind → List ViewKind
answer_views (answers.Views views) = views
answer_views (answers.Kind view) = view ∷ []
answer_views (answers.Completions completions) = map (λ c. c.view) completions
answer_views _ = []

-- all parts of a unit, and what is declared before each of these stubs
abbrev pub parts_of : List (List ℕ) → List Part
parts_of stubs = Visible ∷ Private ∷ Body ∷ map Stub stubs

-- each of these names in a part
abbrev pub named_in : UnitKey → List (List ℕ) → Part → List Query
named_in unit names part = map (Named unit part) names

-- for a unit: what it is, what its body must complete, and each name in each part
abbrev pub of_unit : Wanted → UnitKey → List Query
of_unit w unit = Of unit property.Kind ∷ Of unit property.Completions ∷ flat_map (named_in unit w.names) (parts_of w.stubs)

unfoldable pub wanted_queries : Wanted → List Query
wanted_queries w = flat_map (of_unit w) w.units

-- the views in the answers to all of these questions
unfoldable pub shown_by : Wanted → Table → List ViewKind
shown_by w t = flat_map (λ q. answer_views (t q)) (wanted_queries w)

abbrev pub has_part : List (List ℕ) → Part → Bool
has_part stubs (Stub name) = list_any (bytes_eq name) stubs
has_part stubs _ = true

-- whether a question is one of these
abbrev pub is_wanted : Wanted → Query → Bool
is_wanted w (Named unit part name) = has_unit w.units unit && (has_part w.stubs part && list_any (bytes_eq name) w.names)
is_wanted w (Of unit property.Kind) = has_unit w.units unit
is_wanted w (Of unit property.Completions) = has_unit w.units unit
is_wanted w (Of unit _) = false

-- the views in a recorded answer, if its question is one of these
abbrev pub shown_in : Wanted → Query × AnswerKind → List ViewKind
shown_in w e = if is_wanted w e.0 then answer_views e.1 else []

abbrev pub recorded_views : Wanted → Log → List ViewKind
recorded_views w log = flat_map (shown_in w) log

-- each of these views is shown by every table that agrees with the log
abbrev pub AreShown : Wanted → Log → List ViewKind → Type 0
AreShown w log views = HoldsBy log (λ t. (v : ViewKind) → Contains views v → Contains (shown_by w t) v)

-- each view that is shown is in an answer of the table
abbrev pub ShownViewsAreAnswered : Type 0
ShownViewsAreAnswered = (w : Wanted) (t : Table) (v : ViewKind) → Contains (shown_by w t) v → (q : Query) × Contains (answer_views (t q)) v
