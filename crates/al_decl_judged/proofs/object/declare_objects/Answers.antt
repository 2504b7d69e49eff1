use Rattle.std.proofs.Common.{◌≡◌, List, Option, option_map, Result, Ok, Err, sym, ◌∙◌, ap, ap₂}
use Rattle.al_base_fault.specs.Judging.{both, unless}
use Rattle.al_view_typed.specs.ExpressionViews.{typed_model}
use Rattle.al_decl_judged.specs.declared.new_object.NewObject.{NewObject}
use Rattle.al_decl_judged.specs.declared.progress.Progress.{Progress}
use Rattle.al_decl_judged.specs.Declaring.{DeclaredTree}
use Rattle.al_decl_judged.specs.Objects.{objects_fault, placed_objects}
use Rattle.al_decl_judged.proofs.ObjectLemmas.{declared_right, declared_wrong}
use Rattle.al_decl_judged.proofs.object.declare_objects.Goals as goal

pub returns-in_ok-declared-in-Ok : goal.returns-in_ok-declared-in-Ok
returns-in_ok-declared-in-Ok c =
    let fault = c.in_ok-fault.fault in
    let checked = c.optional_value.result in
    let os = c.in-Ok.objects in
    let v = c.in-Ok.value in
    let wrong = c.in_ok-fault.ensures ∙ ap (λ b. objects_fault c.args.is_constant b c.args.duplicate c.args.names.now) c.is_some.ensures in
    let right : unless fault (both c.args.objects checked) ≡ Ok (os, v) = cc in
    let made = c.in_ok-declared-in-Ok.ensures in
    ap Ok (ap₂ (λ (x : Progress) (y : DeclaredTree). (x, y)) made.taken made.declared
    ∙ ap (λ (l : List NewObject). placed_objects c.args.progress.now c.args.line c.args.is_constant l (option_map typed_model v)) c.as_slice-objects.ensures)
    ∙ sym (declared_right c.args.progress.now c.args.line c.args.is_constant c.args.duplicate c.args.names.now c.args.objects c.args.value checked fault os v c.optional_value.ensures wrong right)

pub returns-in-Err : goal.returns-in-Err
returns-in-Err c =
    let fault = c.in_ok-fault.fault in
    let checked = c.optional_value.result in
    let wrong = c.in_ok-fault.ensures ∙ ap (λ b. objects_fault c.args.is_constant b c.args.duplicate c.args.names.now) c.is_some.ensures in
    let found : unless fault (both c.args.objects checked) ≡ Err c.in-Err.fault = cc in
    sym (declared_wrong c.args.progress.now c.args.line c.args.is_constant c.args.duplicate c.args.names.now c.args.objects c.args.value checked fault c.in-Err.fault c.optional_value.ensures wrong found)
