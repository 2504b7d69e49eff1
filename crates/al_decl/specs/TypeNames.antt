-- Names of types at a place: of a new type, or of a private one that is completed (ARM 7.3(4), 8.3).
use Rattle.std.specs.Prelude.{ℕ, List, [], ◌∷◌, Option, Some, None, is_some, if◌then◌else◌}
use Rattle.al_base_fault.specs.Faults.{earlier}
use Rattle.al_base_fault.specs.declared.fault.Fault.{Fault}
use Rattle.al_decl_judged.specs.declared.names.DefiningName.{DefiningName}
use Rattle.al_decl_judged.specs.declared.names.TypeName.{TypeName}
use Rattle.al_query.specs.declared.answer.AnswerKind.{AnswerKind}
use Rattle.al_query.specs.declared.query.Query.{Query}
use Rattle.al_scope.specs.PartialViews.{first_partial}
use Rattle.al_scope.specs.Places.{Place, inner_declared}
use Rattle.al_view.specs.Interfaces.{views_of}
use Rattle.al_view.specs.declared.symbol.Symbol.{Symbol}
use Rattle.al_view.specs.declared.view.ViewKind.{ViewKind}
use Rattle.al_view.specs.declared.view.ViewKind.TheVariants.{OfComponent}
use Rattle.al_view_predefined.specs.Standard.{literal}
use Rattle.al_decl.specs.Declaring.{begun_one, duplicate, duplicates, overloaded_duplicates}
use Rattle.al_decl.specs.declared.env.Environment.{Environment}

-- if the part itself declares nothing under a name, the private type of the region under it
abbrev pub partial_among : List ViewKind → List ViewKind → Option Symbol
partial_among [] views = first_partial views
partial_among (v ∷ vs) views = None

-- the private type that a declaration of this name completes: the region has its partial view from the part before, the visible one (ARM 7.3(4))
abbrev pub completed_at : Environment → DefiningName → Option Symbol
completed_at h n = partial_among (views_of h.declared n.name) (views_of (inner_declared h.scope.regions) n.name)

abbrev pub type_name : Environment → DefiningName → TypeName
type_name h n = record { defining = n; partial = completed_at h n }

-- E301 at the name of a type, which may not be overloaded: what completes a private type is no homograph of it
abbrev pub type_duplicate : (Query → AnswerKind) → Place → TypeName → Option Fault
type_duplicate t place n = if is_some n.partial then None else duplicate t place OfComponent n.defining

-- the name of a type that is new is begun; what completes one leaves its partial view visible until its end
abbrev pub type_begun : Place → TypeName → Place
type_begun place n = if is_some n.partial then place else begun_one place n.defining

-- E301 at the first of the literals of a type: nothing else there is of a new type, but functions may be of a private one
abbrev pub literal_duplicates : (Query → AnswerKind) → Place → Option Symbol → List DefiningName → Option Fault
literal_duplicates t place (Some s) literals = duplicates t place (literal s [] 0) literals
literal_duplicates t place None literals = overloaded_duplicates t place literals

-- at the type's name or at a literal
abbrev pub enumeration_duplicate : (Query → AnswerKind) → Place → TypeName → List DefiningName → Option Fault
enumeration_duplicate t place n literals = earlier (type_duplicate t place n) (literal_duplicates t place n.partial literals)
