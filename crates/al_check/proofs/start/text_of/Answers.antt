use Rattle.std.proofs.Common.{◌≡◌, None, ap, ◌∙◌}
use Rattle.std.specs.Coded.{Unit-prop}
use Rattle.std.specs.Global.{Global}
use Rattle.al_overload.specs.declared.everywhere.Predefined.{Predefined}
use Rattle.al_check_bounded.specs.Constants.{the_memory}
use Rattle.al_check_here.specs.declared.state.UnitText.{UnitText}
use Rattle.al_check.proofs.start.text_of.Goals as goal

one_memory : (alloc : Global) → alloc ≡ the_memory
one_memory alloc = ap (λ (u : Unit {0}). let g : Global = record { memory = record { seal = u } } in g) (Unit-prop alloc.memory.seal tt)

pub returns : goal.returns
returns c =
    let make = λ (alloc : Global) (p : Predefined). let text : UnitText = record { labeller = record { alloc = alloc; predefined = p; own = None }; packages = c.args.packages; own = c.args.own; hidden = c.args.hidden; private_part = c.args.private_part } in text in
    ap (λ (a : Global). make a c.in_ok-predefined.predefined) (one_memory c.args.alloc) ∙ ap (λ (p : Predefined). make the_memory p) c.in_ok-predefined.ensures
