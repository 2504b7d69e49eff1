-- What is reported of a build, from its result.
use Rattle.std.specs.Prelude.{ℕ, List, [], map, Option, Some, None}
use Rattle.std.specs.List.{fold}
use Rattle.std.specs.BTreeSet.{insert_key}
use Rattle.al_base.specs.Files.{name_cmp}
use Rattle.al_base.specs.declared.diagnostic.Diagnostic.{Diagnostic}
use Rattle.al_base.specs.declared.unit_key.UnitKey.{UnitKey}
use Rattle.al_engine.specs.declared.compiled.Compiled.{Compiled}
use Rattle.al_engine.specs.declared.compiled.Compiled.TheVariants.{Faulty, Unbound, TooLarge, Made}
use Rattle.al_engine.specs.declared.compiled.Program.{Program}

-- the errors in the files; none if the partition was bound, or couldn't be
abbrev pub diagnostics_of : Compiled → List Diagnostic
diagnostics_of (Faulty diagnostics) = diagnostics.items
diagnostics_of (Unbound fault) = []
diagnostics_of (TooLarge order) = []
diagnostics_of (Made program) = []

-- the order of elaboration, if there is one
abbrev pub order_of : Compiled → Option (List UnitKey)
order_of (Faulty diagnostics) = None
order_of (Unbound fault) = None
order_of (TooLarge order) = Some order.items
order_of (Made program) = Some program.order.items

-- the program, if there is one
abbrev pub program_of : Compiled → Option Program
program_of (Faulty diagnostics) = None
program_of (Unbound fault) = None
program_of (TooLarge order) = None
program_of (Made program) = Some program

-- the files for which errors are reported, in the order of their names
abbrev pub files_reported : Compiled → List (List ℕ)
files_reported compiled = fold (insert_key name_cmp) [] (map (λ d. d.file) (diagnostics_of compiled))
