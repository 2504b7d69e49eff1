-- What an answer says.
use Rattle.std.specs.Prelude.{ℕ, Bool, false, List, [], ◌∷◌, map, Option, Some, None}
use Rattle.std.specs.List.{flat_map}
use Rattle.al_base.specs.declared.unit_key.UnitKey.{UnitKey}
use Rattle.al_base.specs.declared.unit_key.UnitKind.TheVariants.{Decl}
use Rattle.al_unit_graph.specs.Names.{lineage}
use Rattle.al_view.specs.declared.types.Subtype.{Subtype}
use Rattle.al_view.specs.declared.view.Profile.{Profile}
use Rattle.al_view.specs.declared.view.ViewKind.{ViewKind}
use Rattle.al_view.specs.declared.view.ViewKind.TheVariants.{OfPackage, OfSubprogram}
use Rattle.al_query.specs.declared.answer.Completion.{Completion}
use Rattle.al_query.specs.declared.answer.ContextView.{ContextView}
use Rattle.al_query.specs.declared.answer.UnitForm.{UnitForm}
use Rattle.al_query.specs.declared.answer.UnitForm.TheVariants as form
use Rattle.al_query.specs.declared.answer.AnswerKind.{AnswerKind}
use Rattle.al_query.specs.declared.answer.AnswerKind.TheVariants.{Views, Kind, Parent, IsPrivate, Context, NeedsBody, Completions}

-- the views of a name; none in an answer to another question
abbrev pub views_of : AnswerKind → List ViewKind
views_of (Views views) = views
views_of _ = []

-- a subprogram that has a result is a function (ARM 6.1)
abbrev pub form_of_profile : Profile → UnitForm
form_of_profile p = at p.result
  where
    at : Option Subtype → UnitForm
    at (Some r) = form.Function
    at None = form.Procedure

-- what a unit with that own view is; none if no library unit has such a view
abbrev pub form_of_view : ViewKind → Option UnitForm
form_of_view (OfPackage s) = Some form.Package
form_of_view (OfSubprogram s) = Some (form_of_profile s.profile)
form_of_view _ = None

-- the unit's own view; none if that isn't answered
abbrev pub own_view_of : AnswerKind → Option ViewKind
own_view_of (Kind view) = Some view
own_view_of _ = None

-- what the unit is; none if its own view isn't answered
abbrev pub form_of : AnswerKind → Option UnitForm
form_of (Kind view) = form_of_view view
form_of _ = None

-- the parent unit; none if there is none or that isn't answered
abbrev pub parent_of : AnswerKind → Option UnitKey
parent_of (Parent parent) = parent
parent_of _ = None

-- whether the answer is that it is a private unit
abbrev pub is_private_of : AnswerKind → Bool
is_private_of (IsPrivate b) = b
is_private_of _ = false

-- whether the answer is that it needs a body
abbrev pub needs_body_of : AnswerKind → Bool
needs_body_of (NeedsBody b) = b
needs_body_of _ = false

-- the context; none if that isn't answered
abbrev pub context_of : AnswerKind → Option ContextView
context_of (Context context) = Some context
context_of _ = None

-- the private types that its visible part declares, by their names; none if its context isn't answered
abbrev pub names_told : AnswerKind → List (List ℕ)
names_told (Context c) = c.private_types
names_told _ = []

-- what must be completed; nothing if that isn't answered
abbrev pub completions_of : AnswerKind → List Completion
completions_of (Completions completions) = completions
completions_of _ = []

abbrev pub declaration : List ℕ → UnitKey
declaration name = record { name = name; kind = Decl }

-- the units that a context names: each unit of a with clause with its ancestors, as who names a unit names these (ARM
-- 10.1.2(6))
abbrev pub context_units : ContextView → List UnitKey
context_units c = flat_map (λ u. map declaration (lineage u.name)) c.withs

-- the units that an answer names: a parent, and those of with clauses. Symbols in views name no unit.
unfoldable pub units_named : AnswerKind → List UnitKey
units_named (Parent (Some unit)) = unit ∷ []
units_named (Context c) = context_units c
units_named _ = []
