-- A declaration that is right is visible at its end, and what it took is taken (ARM 8.3(16)).
use Rattle.std.specs.Prelude.{List, Option, Result, Ok, Err}
use Rattle.al_decl_judged.specs.Declaring.{DeclaredTree}
use Rattle.al_decl_judged.specs.declared.names.DefiningName.{DefiningName}
use Rattle.al_decl_judged.specs.declared.names.TypeName.{TypeName}
use Rattle.al_decl_judged.specs.declared.progress.Progress.{Progress}
use Rattle.al_decl.specs.Declaring.{begun, begun_one, with_declarations}
use Rattle.al_decl.specs.TypeNames.{type_begun}
use Rattle.al_decl.specs.declared.env.Environment.{Environment}
use Rattle.al_base_fault.specs.Judging.{map_ok}
use Rattle.al_base_fault.specs.declared.fault.Fault.{Fault}
use Rattle.al_scope.specs.Places.{Place}
use Rattle.al_view_typed.specs.DeclarationTrees.{DeclarationTree}
use Rattle.al_decl.specs.Effects.{after_effect, effect_numbered}

-- what is right, with the place after it; after a fault nothing follows
abbrev pub at_place : {A : Type 0} → Environment → Result A Fault → Result (Environment × A) Fault
at_place h (Ok a) = Ok (h, a)
at_place h (Err f) = Err f

abbrev pub with_progress : Environment → Progress → Environment
with_progress h p = record h { progress = p }

abbrev pub with_scope : Environment → Place → Environment
with_scope h place = record h { scope = place }

-- inside a declaration of these names, which may not be overloaded
abbrev pub inside : Environment → List DefiningName → Environment
inside h names = with_scope h (begun h.scope names)

abbrev pub inside_one : Environment → DefiningName → Environment
inside_one h n = with_scope h (begun_one h.scope n)

-- inside that of a type
abbrev pub inside_type : Environment → TypeName → Environment
inside_type h n = with_scope h (type_begun h.scope n)

-- after what it declares, which left the unit so; what it does, with the words of its temporaries
abbrev pub after : Environment → Progress × DeclaredTree → Environment × Option DeclarationTree
after h d = (
  with_declarations (with_progress h (after_effect d.0 d.1.effect)) d.1.declarations,
  effect_numbered d.0.words.frame d.1.effect,
)

abbrev pub finished : Environment → Result (Progress × DeclaredTree) Fault → Result (Environment × Option DeclarationTree) Fault
finished h declared = map_ok (after h) declared
