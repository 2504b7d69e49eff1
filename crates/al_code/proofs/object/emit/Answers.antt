use Rattle.std.proofs.Common.{Option, ap, ◌∙◌}
use Rattle.al_view_typed.specs.UnitTrees.{unit_model}
use Rattle.al_code.specs.Written.{Buffer, written}
use Rattle.al_code.specs.Routines.{unit_code}
use Rattle.al_code.proofs.Objects.{object_large, object_small, unit_keeps, unit_lines}
use Rattle.al_code.proofs.object.emit.Goals as goal

pub returns-in_default : goal.returns-in_default
returns-in_default c =
    object_large (unit_model c.args.unit.now) c.emit_unit.new.out
    (c.in_ok-emit_unit.ensures ∙ ap (λ (w : Option Buffer). written w (unit_code (unit_model c.args.unit.now))) c.new-out.ensures) c.in_default.ensures.value

pub new-requires : goal.new-requires
unfolding unit_model
new-requires c =
    rw (c.in_ok-add_data.ensures, c.in_ok-regions.ensures, c.as_slice.ensures, c.in_ok-lines.ensures)
    (unit_keeps (unit_model c.args.unit.now) c.in-Some.written.code.items c.in-Some.written.uses.items c.in-Some.written.defines.items c.word_of-tasks.result _ c.requires c.in-Some.ensures.code c.in-Some.ensures.within c.in-Some.ensures.standing
    (unit_lines (unit_model c.args.unit.now) c.emit_unit.new.out c.in-Some.written.code.items c.in-Some.written.uses.items c.in-Some.written.defines.items c.in-Some.written.lines.items
    (c.in_ok-emit_unit.ensures ∙ ap (λ (w : Option Buffer). written w (unit_code (unit_model c.args.unit.now))) c.new-out.ensures) c.in-Some.ensures.value))

pub returns : goal.returns
unfolding unit_model
returns c =
    rw (c.new.ensures, c.in_ok-add_data.ensures, c.in_ok-regions.ensures, c.as_slice.ensures, c.in_ok-lines.ensures, c.word_of-tasks.ensures, c.task_count.ensures)
    (object_small (unit_model c.args.unit.now) c.emit_unit.new.out c.in-Some.written.code.items c.in-Some.written.uses.items c.in-Some.written.defines.items c.in-Some.written.lines.items
    (c.in_ok-emit_unit.ensures ∙ ap (λ (w : Option Buffer). written w (unit_code (unit_model c.args.unit.now))) c.new-out.ensures) c.in-Some.ensures.value)
