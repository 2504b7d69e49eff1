use Rattle.std.proofs.Common.{ℕ, List, map, ap, sym, subst, arith, ◌∙◌}
use Rattle.al_base.specs.Batch.{key_of}
use Rattle.al_base.specs.declared.unit_key.UnitKey.{UnitKey}
use Rattle.al_unit_graph.specs.Orders.{in_order}
use Rattle.al_engine_refresh.specs.Moving.{IsCompared}
use Rattle.al_engine_refresh.proofs.Comparing.{compared-none, quiet-unmoved}
use Rattle.al_engine_refresh.proofs.LoopLemmas.{count-start}
use Rattle.al_engine_refresh.specs.declared.unit.Done.{Done}
use Rattle.al_engine.proofs.WalkLemmas.{walk-counted, walk-updated}
use Rattle.al_engine.proofs.renewing.renew.Goals as goal

pub returns-clause-updated : goal.returns-clause-updated
returns-clause-updated g c =
    let meaning = g.C.UnitCheck.meaning in
    let header = g.C.Text.ReadText.header in
    let pre = g.P.Answers.table c.args.predefined.now in
    let lib = c.args.sources.now in
    let old = c.args.entries.now in
    let new = c.walk_in_order.new.entries in
    let given = c.in_ok-is_renewal.ensures in
    let row = c.walk_in_order.new.done.checked in
    let counted = given.compared (subst (λ (d : Done). IsCompared old d.compared) (sym c.begun-done.ensures) (compared-none old (quiet-unmoved old c.requires.ready.quiet))) in
    walk-updated meaning header pre lib c.args.order.now c.requires.order c.args.edits.now old c.requires.ready c.requires.edits new row _ given.built
    (c.in_ok-checked.ensures ∙ ap (λ us. in_order (map key_of us)) c.as_slice.ensures ∙ ap (λ parts. in_order (map key_of parts.0)) c.into_parts-checked.ensures)
    c.walk_in_order.ensures.left given.steady given.marks _ (subst (λ (parts : List UnitKey × ℕ). IsCompared new parts.1) (sym c.into_parts-checked.ensures) counted)

pub returns-clause-counted : goal.returns-clause-counted
returns-clause-counted g c =
    let given = c.in_ok-is_renewal.ensures in
    walk-counted g.C.UnitCheck.meaning g.C.Text.ReadText.header (g.P.Answers.table c.args.predefined.now) c.args.sources.now c.args.order.now c.requires.order c.args.edits.now c.args.entries.now c.requires.ready c.requires.edits c.walk_in_order.new.entries c.walk_in_order.new.done.checked _ given.built
    (c.in_ok-checked.ensures ∙ ap (λ us. in_order (map key_of us)) c.as_slice.ensures ∙ ap (λ parts. in_order (map key_of parts.0)) c.into_parts-checked.ensures) (g.C.UnitCheck.count c.args.checker.now) _ (given.counted (g.C.UnitCheck.count c.args.checker.now) (count-start (g.C.UnitCheck.count c.args.checker.now) c.checks-before.result _ c.checks-before.ensures (omega arith) (ap (λ (d : Done). d.checked) c.begun-done.ensures)))
