-- Declarations of tasks at a place (ARM 9.1).
use Rattle.std.specs.Prelude.{ℕ, Option, Result}
use Rattle.al_base_fault.specs.Judging.{map_ok}
use Rattle.al_base_fault.specs.declared.fault.Fault.{Fault}
use Rattle.al_decl.specs.Checking.{inside_one, with_progress}
use Rattle.al_decl.specs.declared.env.Environment.{Environment}
use Rattle.al_decl_judged.specs.Progressing.{symbol_of, with_counted}
use Rattle.al_decl_judged.specs.declared.names.DefiningName.{DefiningName}
use Rattle.al_decl.specs.Defining.{defined}
use Rattle.al_decl.specs.PartReadings.{PartReading}
use Rattle.al_query.specs.Reads.{Table}
use Rattle.al_tree_syntax.specs.DeclarationTrees.{TaskTree}
use Rattle.al_view.specs.declared.symbol.Symbol.{Symbol}
use Rattle.al_view.specs.declared.view.ViewKind.{ViewKind}
use Rattle.al_view.specs.declared.view.ViewKind.TheVariants.{OfTask}
use Rattle.al_view_typed.specs.DeclarationTrees.{DeclarationTree, SingleTask}
use Rattle.al_decl_protected.specs.Levels.{level_named}
use Rattle.al_decl_protected.specs.Placing.{placed}

abbrev pub task_view : Symbol → ℕ → ViewKind
task_view symbol level = OfTask (record { symbol = symbol; priority = level })

-- it is created at its place
abbrev pub task_effect : ℕ → Symbol → ℕ → DeclarationTree
task_effect line symbol level = record { line = line; form = SingleTask symbol level }

abbrev pub task_placed : Environment → ℕ → DefiningName → ℕ → Environment × Option DeclarationTree
task_placed h line n level =
    placed (with_progress h (with_counted h.progress n.name)) n.name (task_view (symbol_of h.progress n.name) level)
    (task_effect line (symbol_of h.progress n.name) level)

-- its name is begun; without an aspect its priority is 15 (ARM D.1(18))
abbrev pub task_named : PartReading → Table → Environment → ℕ → DefiningName → TaskTree → Result (Environment × Option DeclarationTree) Fault
task_named R t h line n k = map_ok (task_placed (inside_one h n) line n) (level_named R t h n 15 k.aspect)

abbrev pub task_checked : PartReading → Table → Environment → TaskTree → Result (Environment × Option DeclarationTree) Fault
task_checked R t h k = task_named R t h k.opening.line (defined k.name) k
