use Rattle.std.proofs.Common.{◌≡◌, subst, refl, List, Some}
use Rattle.al_machine.specs.declared.regions.Entered.{Entered}
use Rattle.al_machine.specs.Machine.{machine}
use Rattle.al_machine.specs.Bursts.{At, at_place, carried}
use Rattle.al_tasks.specs.Task.{Task}
use Rattle.al_tasks.specs.Bursts.{CarriesOn}
use Rattle.al_tasks.proofs.tasks.Task.carry_on.Goals as goal

pub returns-clause-carried : goal.returns-clause-carried
returns-clause-carried c =
    let i = c.self.inside in
    let r = c.carry_on-carried in
    let b : At = at_place r.result.place (machine r.new.memory r.new.registers) in
    let now : Task = record { number = i.number; base = i.base; active = i.active; held = i.held.items; place = r.result.place; registers = r.new.registers; begun = i.begun; pause = i.pause } in
    let a : At = record { place = i.place; machine = machine c.args.memory.now i.registers } in
    let went = subst (λ (held : List Entered). carried c.args.bursts.now.objects held c.args.bursts.now.code r.result.done a ≡ Some b) c.deref.ensures.value r.ensures.carried in
    subst (λ (t : Task). CarriesOn c.args.bursts.now.objects c.args.bursts.now.code r.result.done t c.args.memory.now now r.new.memory) c.self.view_is (b, went, refl, refl)
