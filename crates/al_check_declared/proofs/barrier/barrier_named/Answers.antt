use Rattle.std.proofs.Common.{List, ap, ◌∙◌}
use Rattle.al_check_declared.specs.Barriers.{barrier_among}
use Rattle.al_view.specs.declared.symbol.Symbol.{Symbol}
use Rattle.al_view.specs.declared.types.Component.{Component}
use Rattle.al_view_predefined.specs.Standard.{boolean}
use Rattle.al_check_here.proofs.Lists.{if_ok}
use Rattle.al_check_declared.proofs.barrier.barrier_named.Goals as goal

pub returns : goal.returns
returns c =
    let o = c.args.object.now in
    let name = c.args.name.now in
    if_ok c.barrier_among.result _ _
    (λ barrier is.
    is
    ∙ ap (λ (s : Symbol). barrier_among o name s 0 c.as_slice-components.result.now) c.in_ok-of.ensures
    ∙ ap (λ (cs : List Component). barrier_among o name boolean 0 cs) c.as_slice-components.ensures)
    c.barrier_among.ensures
