-- Loops and blocks at the place that the check of a unit has reached (ARM 5.5, 5.6, 8.1).
use Rattle.std.specs.Prelude.{ℕ, true, List, [], ◌∷◌, ◌++◌, Option, Some, None, unwrap_or, if◌then◌else◌}
use Rattle.al_decl.specs.Regions.{block_entered, outside_of, taken_back}
use Rattle.al_decl.specs.declared.block.Outside.{Outside}
use Rattle.al_decl_judged.specs.TypeObjects.{object_view}
use Rattle.al_decl_judged.specs.TypeDeclarations.{declared_as}
use Rattle.al_decl_judged.specs.declared.declaration.Declaration.{Declaration}
use Rattle.al_decl_judged.specs.Progressing.{with_counted}
use Rattle.al_decl.specs.Declaring.{begun_one, with_declarations}
use Rattle.al_decl.specs.declared.env.Environment.{Environment}
use Rattle.al_decl.specs.Defining.{defined}
use Rattle.al_tree_grammar.specs.Grammar.{Label}
use Rattle.al_scope.specs.Places.{Place}
use Rattle.al_stmts.specs.LoopForms.{RangeTree, parameter_bounds}
use Rattle.al_stmts.specs.declared.loops.LoopWords.{LoopWords}
use Rattle.al_view.specs.declared.types.Bounds.{Bounds}
use Rattle.al_view.specs.declared.view.ObjectPlace.TheVariants.{Frame}
use Rattle.al_view.specs.declared.view.SubtypeView.{SubtypeView}
use Rattle.al_check_here.specs.Stacks.{innermost, without_innermost}
use Rattle.al_check_here.specs.Standings.{is_nowhere, with_here}
use Rattle.al_check_here.specs.declared.state.LoopType.{LoopType}
use Rattle.al_check_here.specs.declared.state.CheckState.{CheckState}

-- the regions that enclose the innermost one
abbrev pub region_left : Place → Place
region_left place = record { mentioned = place.mentioned; regions = without_innermost place.regions }

-- ---- how blocks and loops are entered and left

abbrev pub in_block : CheckState → CheckState
in_block h = record h { env = block_entered h.env; blocks = h.blocks ++ outside_of h.env ∷ [] }

-- the place at which the declaration of a name has begun
abbrev pub with_begun : Environment → Label → Environment
with_begun env i = record env { scope = begun_one env.scope (defined i) }

-- in its region the declaration of a loop's parameter has begun, so that it is hidden from its own range (ARM 8.3(16))
abbrev pub in_loop : CheckState → Label → CheckState
in_loop h i = let inner = in_block h in with_here inner (with_begun inner.env i)

-- the place after the innermost region is left, outside of which this waited and was declared
abbrev pub left_to : Environment → Outside → Environment
left_to env o = taken_back (record env { scope = region_left env.scope }) o

abbrev pub out_of : CheckState → Option Outside → CheckState
out_of h None = h
out_of h (Some o) = record h { env = left_to h.env o; blocks = without_innermost h.blocks }

-- if no loop and no block is open, nothing is left
abbrev pub out_of_block : CheckState → CheckState
out_of_block h = out_of h (innermost h.blocks)

-- ---- the parameter of a loop (ARM 5.5(9))

-- it has the bounds of its range if these are static; else it has all values of its type, as a selector of which nothing more is known (ARM 5.4(7))
abbrev pub parameter_subtype : LoopType → Option Bounds → SubtypeView
parameter_subtype f bounds = record { subtype = record { base = f.of; bounds = Some (unwrap_or bounds f.values) }; types = f.types; literals = [] }

-- a constant without a static value, in that word of the frame
abbrev pub parameter_declaration : Environment → List ℕ → LoopType → Option Bounds → ℕ → Declaration
parameter_declaration env name f bounds word =
    declared_as name (object_view (parameter_subtype f bounds) true None (Frame env.progress.depth word))

abbrev pub parameter_declared : Environment → List ℕ → LoopType → Option Bounds → ℕ → Environment
parameter_declared env name f bounds word =
    with_declarations (record env { progress = with_counted env.progress name }) (parameter_declaration env name f bounds word ∷ [])

-- it has the type of its range; if no range was read, it isn't declared
abbrev pub with_found : CheckState → Label → Option Bounds → ℕ → Option LoopType → CheckState
with_found h i bounds word None = h
with_found h i bounds word (Some f) = with_here h (parameter_declared h.env (defined i).name f bounds word)

abbrev pub with_parameter : CheckState → Label → RangeTree → LoopWords → CheckState
with_parameter h i r w = if is_nowhere h then h else with_found h i (parameter_bounds r) w.parameter h.parameter
