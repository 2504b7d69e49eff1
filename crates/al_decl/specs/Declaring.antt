-- What is declared at a place (ARM 8.3).
use Rattle.std.specs.Prelude.{ℕ, Bool, List, fold, not, Option, Some, None, if◌then◌else◌}
use Rattle.std.specs.List.{list_any}
use Rattle.al_view.specs.declared.view.ViewKind.{ViewKind}
use Rattle.al_view.specs.Homographs.{homographs, may_be_overloaded}
use Rattle.al_view.specs.Interfaces.{with_view}
use Rattle.al_query.specs.declared.query.Query.{Query}
use Rattle.al_query.specs.declared.answer.AnswerKind.{AnswerKind}
use Rattle.al_base_fault.specs.Faults.{earlier}
use Rattle.al_base_fault.specs.declared.fault.Fault.{Fault}
use Rattle.al_scope.specs.Places.{Place, in_last, with_begun, with_declared}
use Rattle.al_scope.specs.Visible.{innermost}
use Rattle.al_scope.specs.declared.region.Region.{Region}
use Rattle.al_decl_judged.specs.declared.declaration.Declaration.{Declaration}
use Rattle.al_decl_judged.specs.DefiningNames.{duplicate_at}
use Rattle.al_decl_judged.specs.declared.names.DefiningName.{DefiningName}
use Rattle.al_decl.specs.declared.env.Environment.{Environment}

-- a place whose innermost region is changed
abbrev pub in_innermost : (Region → Region) → Place → Place
in_innermost change place = record { mentioned = place.mentioned; regions = in_last change place.regions }

-- ---- names that are begun hide what is outside from then on (ARM 8.3(15, 16))

abbrev pub begun_one : Place → DefiningName → Place
begun_one place n = in_innermost (with_begun n.name) place

abbrev pub begun : Place → List DefiningName → Place
begun place names = fold begun_one place names

-- ---- homographs (ARM 8.3(26))

-- the innermost region has a homograph of that view under a name
abbrev pub has_homograph : (Query → AnswerKind) → Place → List ℕ → ViewKind → Bool
has_homograph t place name view = list_any (homographs view) (innermost t place.mentioned name place.regions)

abbrev pub duplicate : (Query → AnswerKind) → Place → ViewKind → DefiningName → Option Fault
duplicate t place view n = if has_homograph t place n.name view then Some (duplicate_at n) else None

-- the first of several names
abbrev pub duplicates : (Query → AnswerKind) → Place → ViewKind → List DefiningName → Option Fault
duplicates t place view names = fold (λ (found : Option Fault) (n : DefiningName). earlier found (duplicate t place view n)) None names

-- the innermost region has a declaration of that name that may not be overloaded
abbrev pub has_fixed : (Query → AnswerKind) → Place → List ℕ → Bool
has_fixed t place name = list_any (λ (v : ViewKind). not (may_be_overloaded v)) (innermost t place.mentioned name place.regions)

-- of a name that may be overloaded, and whose types nothing else there has: a literal of a type that is being declared
abbrev pub overloaded_duplicate : (Query → AnswerKind) → Place → DefiningName → Option Fault
overloaded_duplicate t place n = if has_fixed t place n.name then Some (duplicate_at n) else None

abbrev pub overloaded_duplicates : (Query → AnswerKind) → Place → List DefiningName → Option Fault
overloaded_duplicates t place names = fold (λ (found : Option Fault) (n : DefiningName). earlier found (overloaded_duplicate t place n)) None names

-- ---- declarations become visible

-- in the innermost region, and in what the part declares
abbrev pub with_declaration : Environment → Declaration → Environment
with_declaration h d = record h { scope = in_innermost (with_declared d.name d.view) h.scope; declared = with_view h.declared d.name d.view }

abbrev pub with_declarations : Environment → List Declaration → Environment
with_declarations h declarations = fold with_declaration h declarations
