-- The state of the check of a unit.
use Rattle.std.specs.Prelude.{ℕ, Bool, not, ◌&&◌, ◌==◌, List, [], Option, Some, None, is_some, length, if◌then◌else◌}
use Rattle.al_base.specs.declared.unit_key.UnitKey.{UnitKey}
use Rattle.al_base.specs.declared.unit_key.UnitKind.{UnitKind}
use Rattle.al_base.specs.declared.unit_key.UnitKind.TheVariants.{Decl, Body, Sub}
use Rattle.al_decl_judged.specs.WordCounts.{after_frame}
use Rattle.al_decl_judged.specs.declared.progress.Progress.{Progress}
use Rattle.al_decl.specs.declared.env.Environment.{Environment}
use Rattle.al_query.specs.declared.answer.Completion.{Completion}
use Rattle.al_scope.specs.Places.{Place}
use Rattle.al_decl_judged.specs.Frames.{from_word}
use Rattle.al_scope.specs.declared.own.OwnText.{OwnText}
use Rattle.al_view.specs.declared.part.Part.{Part}
use Rattle.al_view.specs.declared.part.Part.TheVariants as part
use Rattle.al_check_here.specs.Stacks.{is_bare}
use Rattle.al_check_here.specs.declared.state.CheckState.{CheckState}
use Rattle.al_check_here.specs.declared.state.UnitText.{UnitText}

-- ---- the start of a unit

abbrev pub part_of_kind : UnitKind → Part
part_of_kind Decl = part.Visible
part_of_kind Body = part.Body
part_of_kind Sub = part.Body

abbrev pub first_part : OwnText → Part
first_part own = part_of_kind own.unit.kind

abbrev pub begun_at : UnitText → Place → Progress → List Completion → CheckState
begun_at unit scope progress uncompleted = record {
  unit = unit;
  env = record { scope = scope; progress = progress; uncompleted = uncompleted; declared = [] };
  blocks = [];
  bodies = [];
  object = None;
  pending = None;
  parameter = None;
  part = first_part unit.own;
  visible = [];
  stubs = [];
  uses = [];
  own = [];
}

-- ---- questions about a state

abbrev pub with_here : CheckState → Environment → CheckState
with_here h env = record h { env = env }

abbrev pub with_progress : CheckState → Progress → CheckState
with_progress h p = with_here h (record h.env { progress = p })

-- no region is open, as after an error that ended the list
abbrev pub is_nowhere : CheckState → Bool
is_nowhere h = is_bare h.env.scope.regions

-- the place is in no body yet, and the unit is one subprogram: the next head and body are the unit's own
abbrev pub is_whole : CheckState → Bool
is_whole h = not h.unit.own.is_package && is_bare h.bodies

-- the place is immediately in a protected body: the next heads and bodies are those of its operations
abbrev pub is_operation : CheckState → Bool
is_operation h = is_some h.object && is_bare h.bodies

-- the place is immediately in a part of the unit: for a package in no body, for a subprogram in its body
abbrev pub is_immediate : CheckState → Bool
is_immediate h = is_bare h.blocks && (if h.unit.own.is_package then is_bare h.bodies else length h.bodies == 1)

-- ---- words of the frame

abbrev pub word_of : CheckState → ℕ
word_of h = h.env.progress.words.frame

abbrev pub at_word : CheckState → ℕ → CheckState
at_word h word = with_progress h (record h.env.progress { words = from_word h.env.progress.words word })

abbrev pub with_word : CheckState → CheckState
with_word h = with_progress h (record h.env.progress { words = after_frame h.env.progress.words 1 })
