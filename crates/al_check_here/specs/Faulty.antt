-- After an error in a declaration, which ends the list of errors, nothing of the place is looked at any more.
use Rattle.std.specs.Prelude.{List, [], ◌∷◌, Option, Some, None, Result, Ok, Err}
use Rattle.al_base.specs.declared.unit_key.UnitKey.{UnitKey}
use Rattle.al_decl_judged.specs.declared.progress.Progress.{Progress}
use Rattle.al_decl.specs.declared.env.Environment.{Environment}
use Rattle.al_base_fault.specs.declared.fault.Fault.{Fault}
use Rattle.al_view_typed.specs.DeclarationTrees.{DeclarationTree}
use Rattle.al_check_here.specs.Standings.{with_here}
use Rattle.al_check_here.specs.declared.state.CheckState.{CheckState}

-- the counters of a unit that has taken nothing
abbrev pub nothing_taken : UnitKey → Progress
nothing_taken unit = record { unit = unit; depth = 0; words = record { frame = 3; «data» = 0 }; homonyms = []; objects = []; flags = []; protected_objects = [] }

-- the environment outside of all regions
abbrev pub nowhere : UnitKey → Environment
nowhere unit = record { scope = record { mentioned = []; regions = [] }; progress = nothing_taken unit; uncompleted = []; declared = [] }

abbrev pub ended : CheckState → CheckState
ended h = with_here h (nowhere h.unit.own.unit)

-- the effect of a declaration as a list
abbrev pub effect_list : Option DeclarationTree → List DeclarationTree
effect_list None = []
effect_list (Some e) = e ∷ []

-- the result of a declaration that is right, with the place after it; or an error
abbrev pub effect_settled : CheckState → Result (Environment × Option DeclarationTree) Fault → CheckState × Result (List DeclarationTree) Fault
effect_settled h (Ok x) = (with_here h x.0, Ok (effect_list x.1))
effect_settled h (Err f) = (ended h, Err f)
