-- How bodies and private parts are entered (ARM 6.3, 7.1, 8.2).
use Rattle.std.specs.Prelude.{Option, Some, None, if◌then◌else◌}
use Rattle.al_check_here.specs.BodiesHere.{nested_entered, whole_entered}
use Rattle.al_check_here.specs.PartsHere.{private_begun}
use Rattle.al_check_here.specs.Standings.{is_nowhere, is_whole}
use Rattle.al_check_here.specs.declared.state.AnalyzedHeading.{AnalyzedHeading}
use Rattle.al_check_here.specs.declared.state.CheckState.{CheckState}
use Rattle.al_check_declared.specs.OpenObjects.{is_of_object, renewed}
use Rattle.al_base_fault.specs.Judging.{map_ok}
use Rattle.al_decl_judged.specs.declared.heading.ReturnedPart.{ReturnedPart}
use Rattle.al_decl_judged.specs.declared.heading.ReturnedPart.TheVariants.{NoValue, Value}
use Rattle.al_scope.specs.Seen.{subtype_seen_at}
use Rattle.al_query.specs.Reads.{Table}
use Rattle.al_scope.specs.Places.{Place}
use Rattle.al_scope.specs.UnitPlaces.{private_regions}
use Rattle.al_check_declared.specs.DeclarationsHere.{with_regions}

-- from here on the private parts of the ancestors are visible (ARM 8.2(5))
abbrev pub opened : Table → CheckState → CheckState
opened t h = if is_nowhere h then h else with_regions h (private_regions t h.unit.own h.env.scope.regions)

abbrev pub private_here : Table → CheckState → CheckState
private_here t h = private_begun (opened t h)

-- the body of the unit, whose profile is its visible part (ARM 8.2); outside of all regions no body is entered
-- the result of a function is seen as the place of its statements sees it
abbrev pub visible_result : Table → Place → ReturnedPart → ReturnedPart
visible_result t place NoValue = NoValue
visible_result t place (Value of) = Value (map_ok (subtype_seen_at t place) of)

abbrev pub visible_heading : Table → Place → AnalyzedHeading → AnalyzedHeading
visible_heading t place read = record read { heading = record read.heading { returned = visible_result t place read.heading.returned } }

abbrev pub whole_body : Table → CheckState → AnalyzedHeading → CheckState
whole_body t h read =
    if is_nowhere h then h else let inner = with_regions h (private_regions t h.unit.own h.env.scope.regions) in whole_entered inner (visible_heading t inner.env.scope read)

-- the body of an operation is entered in the region of its protected object, in the form for it; another body inside the unit in a region of its own
abbrev pub renewed_for : CheckState → AnalyzedHeading → CheckState
renewed_for h read = if is_of_object read.role then renewed h read else h

abbrev pub nested_body : CheckState → AnalyzedHeading → CheckState
nested_body h read = nested_entered (renewed_for h read) read

abbrev pub read_entered : Table → CheckState → Option AnalyzedHeading → CheckState
read_entered t h None = h
read_entered t h (Some read) = if is_whole h then whole_body t h read else nested_body h read

-- the body whose head was read last is entered
abbrev pub body_here : Table → CheckState → CheckState
body_here t h = read_entered t h h.pending
