use Rattle.std.proofs.Common.{Option, ap, ◌∙◌}
use Rattle.al_check_here.specs.declared.state.OpenObject.{OpenObject}
use Rattle.al_check_declared.specs.OpenObjects.{out_of_object}
use Rattle.al_check_declared.proofs.object.leave_object.Goals as goal

pub returns-in-Some : goal.returns-in-Some
returns-in-Some c = let s = c.args.state.now in c.leave_open.ensures ∙ ap (λ (o : Option OpenObject). out_of_object s o) c.in-Some.ensures.value

pub returns-in-None : goal.returns-in-None
returns-in-None c =
    let s = c.args.state.now in
    ap (λ (o : Option OpenObject). record s { object = o }) (c.in-None.ensures.after ∙ c.in-None.ensures.value) ∙ ap (λ (o : Option OpenObject). out_of_object s o) c.in-None.ensures.value
