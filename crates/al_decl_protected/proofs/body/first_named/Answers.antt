use Rattle.std.proofs.Common.{subst, sym, ap}
use Rattle.al_decl_judged.specs.declared.specification.BodyHead.{BodyHead}
use Rattle.al_decl_protected.specs.Bodies.{has_body}
use Rattle.al_decl_protected.proofs.Named.{IsNamed, named-is, named-never}
use Rattle.al_decl_protected.proofs.body.first_named.Goals as goal

pub returns-in-Subprogram : goal.returns-in-Subprogram
returns-in-Subprogram c = named-never 0 c.args.name.now c.args.head.now c.args.uncompleted.now (λ v. ap (λ (h : BodyHead). has_body h v) c.in-Subprogram.is)

pub returns-in-Entry : goal.returns-in-Entry
returns-in-Entry c = named-is c.args.name.now c.args.head.now c.args.uncompleted.now c.completed_by.result (subst (λ (h : BodyHead). IsNamed h) (sym c.in-Entry.is) tt) c.completed_by.ensures

pub returns-in-Task : goal.returns-in-Task
returns-in-Task c = named-is c.args.name.now c.args.head.now c.args.uncompleted.now c.completed_by-in-Task.result (subst (λ (h : BodyHead). IsNamed h) (sym c.in-Task.is) tt) c.completed_by-in-Task.ensures

pub returns-in-Protected : goal.returns-in-Protected
returns-in-Protected c = named-is c.args.name.now c.args.head.now c.args.uncompleted.now c.completed_by-in-Protected.result (subst (λ (h : BodyHead). IsNamed h) (sym c.in-Protected.is) tt) c.completed_by-in-Protected.ensures
