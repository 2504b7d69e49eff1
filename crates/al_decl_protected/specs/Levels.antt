-- Priorities of tasks and ceilings of protected objects (ARM D.1, D.3), and where tasks and protected objects are allowed.
use Rattle.std.specs.Prelude.{ℕ, Bool, pos, codes, Option, Some, None, Result, Ok, Err, int_lt, nat_le, unsigned_abs, if◌then◌else◌}
use Rattle.std.specs.Str.{bytes_eq}
use Rattle.al_base.specs.declared.place.Place.{Place as TextPlace}
use Rattle.al_base_fault.specs.declared.check_rule.CheckRule.TheVariants.{NotLibraryLevel, OutOfLimits, WrongKind}
use Rattle.al_base_fault.specs.Faults.{earlier, fault_at}
use Rattle.al_base_fault.specs.Judging.{next, unless}
use Rattle.al_base_fault.specs.declared.fault.Fault.{Fault}
use Rattle.al_overload_lookup.specs.Places.{place_of}
use Rattle.al_query.specs.Reads.{Table}
use Rattle.al_scope.specs.Places.{Place}
use Rattle.al_tree_syntax.specs.DeclarationTrees.{AspectTree}
use Rattle.al_view.specs.declared.types.StaticValue.{StaticValue}
use Rattle.al_view.specs.declared.view.ViewKind.TheVariants.{OfComponent}
use Rattle.al_view_typed.specs.ExpressionTrees.{TypedTree}
use Rattle.al_decl.specs.Declaring.{begun_one, duplicate}
use Rattle.al_decl.specs.declared.env.Environment.{Environment}
use Rattle.al_decl_judged.specs.Progressing.{is_library_level}
use Rattle.al_decl_judged.specs.StaticPieces.{place_label, static_of}
use Rattle.al_decl_judged.specs.declared.names.DefiningName.{DefiningName}
use Rattle.al_decl_judged.specs.declared.progress.Progress.{Progress}
use Rattle.al_decl.specs.PartReadings.{PartReading}

-- ---- levels

abbrev pub out_of_limits : TextPlace → Fault
out_of_limits place = fault_at place OutOfLimits

-- there are the priorities 0 to 30
abbrev pub level_at : TextPlace → StaticValue → Result ℕ Fault
level_at place v =
    if int_lt v.word (pos 0) then Err (out_of_limits place)
    else (if nat_le (unsigned_abs v.word) 30 then Ok (unsigned_abs v.word) else Err (out_of_limits place))

-- of an expression, which must be static
abbrev pub level_of : TypedTree → Result ℕ Fault
level_of t = next (static_of t) (level_at (place_label t))

abbrev pub is_priority : AspectTree → Bool
is_priority a = bytes_eq a.name.text (codes "priority")

abbrev pub wrong_aspect : AspectTree → Fault
wrong_aspect a = fault_at (place_of a.name) WrongKind

-- of an aspect: there is no other than Priority
abbrev pub aspect_level : PartReading → Place → AspectTree → Result ℕ Fault
aspect_level R place a = if is_priority a then next (R.priority place a.value) level_of else Err (wrong_aspect a)

-- without an aspect it is the usual one
abbrev pub level_read : PartReading → Place → ℕ → Option AspectTree → Result ℕ Fault
level_read R place usual None = Ok usual
level_read R place usual (Some a) = aspect_level R place a

-- ---- names

-- below library level none is allowed
abbrev pub library_fault : Progress → TextPlace → Option Fault
library_fault p place = if is_library_level p then None else Some (fault_at place NotLibraryLevel)

abbrev pub name_fault : Table → Environment → DefiningName → Option Fault
name_fault t h n = earlier (duplicate t h.scope OfComponent n) (library_fault h.progress n.place)

-- the name and the aspect, which is read where the name is begun: the level, or the first rule that either breaks
abbrev pub level_named : PartReading → Table → Environment → DefiningName → ℕ → Option AspectTree → Result ℕ Fault
level_named R t h n usual aspect = unless (name_fault t h n) (level_read R (begun_one h.scope n) usual aspect)
