-- The analyzer of Ada units, by a table of answers.
use Rattle.std.specs.Prelude.{List, Option, Some, None, if◌then◌else◌}
use Rattle.al_base_fault.specs.declared.check_rule.CheckRule.TheVariants.{MissingCompletion}
use Rattle.al_base_fault.specs.Faults.{fault_at}
use Rattle.al_scope.specs.PartialViews.{some_incomplete}
use Rattle.al_scope.specs.Places.{inner_declared}
use Rattle.al_check_here.specs.BodiesHere.{labelled, out_of_body, returns_in}
use Rattle.al_check_here.specs.PartsHere.{in_statements}
use Rattle.al_check_here.specs.RegionsHere.{in_block, in_loop, out_of_block, with_parameter}
use Rattle.al_check_here.specs.Standings.{is_nowhere, is_whole, with_word, word_of}
use Rattle.al_check_here.specs.declared.state.CheckState.{CheckState}
use Rattle.al_check_reading.specs.ValuesHere.{choice_here, condition_here, loop_range_here, moment_here, call_effect_here, result_here, selector_here, source_here, target_here, whole_here}
use Rattle.al_decl_judged.specs.Uncompleted.{missing_fault}
use Rattle.al_tree_grammar.specs.Grammar.{Label}
use Rattle.al_base_fault.specs.declared.fault.Fault.{Fault}
use Rattle.al_overload_lookup.specs.Places.{place_of}
use Rattle.al_query.specs.Reads.{Table}
use Rattle.al_stmts_right_choices.specs.ChoicesTest.{choices_right}
use Rattle.al_tree_syntax.specs.DeclarationTrees.{SpecificationTree}
use Rattle.al_view_typed.specs.DeclarationTrees.{DeclarationTree}
use Rattle.al_stmts.specs.Readings.{Read, Reading}
use Rattle.al_check_declared.specs.DeclarationsHere.{declared_here, nested_declared, no_place}
use Rattle.al_check_declared.specs.EnteredHere.{body_here, private_here}
use Rattle.al_check_declared.specs.HeadsHere.{stub_here}
use Rattle.al_check_declared.specs.ObjectsHere.{entry_head, inner_head, object_entered, object_here, task_head, task_here}
use Rattle.al_check_declared.specs.OpenObjects.{object_left}
use Rattle.al_check_declared.specs.WholeHere.{whole_declared, whole_head}

-- outside of all regions nothing is declared
abbrev pub where_open : CheckState → Read CheckState (List DeclarationTree) → Read CheckState (List DeclarationTree)
where_open h read = if is_nowhere h then no_place h else read

abbrev pub subprogram_here : Table → CheckState → SpecificationTree → Read CheckState (List DeclarationTree)
subprogram_here t h s = where_open h (if is_whole h then whole_declared t h s else nested_declared t h s)

abbrev pub head_here : Table → CheckState → SpecificationTree → Read CheckState (List DeclarationTree)
head_here t h s = where_open h (if is_whole h then whole_head t h s else inner_head t h s)

-- what waits for completion in the innermost part
abbrev pub missing_here : CheckState → Label → Option Fault
missing_here h l = missing_fault (place_of l) h.env.uncompleted

-- a private type of the unit's own that has no full declaration
abbrev pub incomplete_here : CheckState → Label → Option Fault
incomplete_here h l = if some_incomplete (inner_declared h.env.scope.regions) then Some (fault_at (place_of l) MissingCompletion) else None

unfoldable pub ada : Table → Reading CheckState
ada t = record {
  condition = condition_here t;
  moment = moment_here t;
  target = target_here t;
  source = source_here t;
  call_effect = call_effect_here t;
  result = result_here t;
  selector = selector_here t;
  whole = whole_here t;
  choice = choice_here t;
  are_right = choices_right;
  word = word_of;
  with_word = with_word;
  loop_entered = in_loop;
  loop_range = loop_range_here t;
  with_parameter = with_parameter;
  block_entered = in_block;
  left = out_of_block;
  declared = declared_here t;
  subprogram = subprogram_here t;
  stub = λ h s l. where_open h (stub_here t h s);
  single_task = λ h k. where_open h (task_here t h k);
  single_object = λ h l p. where_open h (object_here t h l.line p);
  missing = missing_here;
  head = head_here t;
  task_head = λ h n. where_open h (task_head t h n);
  entry_head = λ h n barrier. where_open h (entry_head t h n barrier);
  body_entered = body_here t;
  returns = returns_in;
  body = labelled;
  body_left = out_of_body;
  object_entered = λ h l n os. where_open h (object_entered t h l.line n os);
  object_left = object_left;
  incomplete = incomplete_here;
  private_entered = private_here t;
  statements_entered = in_statements;
}
