use Rattle.std.proofs.Common.{Bool, Some, ap, sym, ◌∙◌, if◌then◌else◌}
use Rattle.al_check_here.specs.declared.state.CheckState.{CheckState}
use Rattle.al_check_declared.specs.EnteredHere.{nested_body, whole_body}
use Rattle.al_check_declared.proofs.Composed.{nested_kept, on_ok}
use Rattle.al_check_declared.proofs.bodies.enter_read.Goals as goal

pub returns-then-is_whole-clause-answered : goal.returns-then-is_whole-clause-answered
returns-then-is_whole-clause-answered g c =
    let s = c.args.state.now in
    let kept : CheckState = record s { pending = Some c.args.read } in
    on_ok c.enter_unit_body.result _ _
    (λ answered t h.
    let read = answered t h in
    (read.0, read.1 ∙ ap (λ (b : Bool). if b then whole_body t kept c.args.read else nested_body kept c.args.read) (sym c.if-is_whole.true ∙ c.is_whole.ensures)))
    c.enter_unit_body.ensures.answered

pub returns-clause-answered : goal.returns-clause-answered
returns-clause-answered g c =
    let s = c.args.state.now in
    let kept : CheckState = record s { pending = Some c.args.read } in
    on_ok c.enter_nested_body.result _ _
    (λ entered t h. (h, entered ∙ nested_kept s (Some c.args.read) c.args.read ∙ ap (λ (b : Bool). if b then whole_body t kept c.args.read else nested_body kept c.args.read) (sym c.if-is_whole.false ∙ c.is_whole.ensures)))
    c.enter_nested_body.ensures
