use Rattle.std.proofs.Common.{drop, refl, sym, ◌∙◌}
use Rattle.al_stmts.specs.WalkedViews.{part_model}
use Rattle.al_stmts_text.proofs.Loops.{ends, step}
use Rattle.al_check_start.proofs.Units.{declaration_added, declaration_step, declarations_folded, declarations_stop}
use Rattle.al_check_start.proofs.walk.check_declarations.Goals as goal

pub loop-declaration-init : goal.loop-declaration-init
loop-declaration-init g c = record { asked = refl; answered = λ t h. (h, refl) }

pub loop-declaration-preserved : goal.loop-declaration-preserved
loop-declaration-preserved g c = record {
  asked = c.in_ok-one.ensures.asked ∙ c.loop-declaration.invariant.asked;
  answered = λ t h.
      let one = c.in_ok-one.ensures.answered t h in
      let before = c.loop-declaration.invariant.answered t one.0 in
      let R = g.R.Analyzer.reading t in (
        before.0,
        step (declaration_step R) _ _ c.args.declarations.now c.loop-declaration.declaration-index c.declaration-item.result
            (declaration_added R _ _ _ _ _ c.declaration-item.result (sym c.is_ended.ensures ∙ c.if-is_ended.false) one.1 c.in_ok-add.ensures)
            c.declaration-item.is c.loop-declaration-test.true
            ∙ before.1,
      );
}

pub returns-then-is_ended-clause-answered : goal.returns-then-is_ended-clause-answered
returns-then-is_ended-clause-answered g c = λ t h.
    let before = c.loop-declaration.invariant.answered t h in
    let R = g.R.Analyzer.reading t in
    (before.0, sym (declarations_stop R (g.R.Analyzer.env c.loop-declaration.analyzer, part_model c.loop-declaration.so_far) (drop c.loop-declaration.declaration-index c.args.declarations.now) (sym c.is_ended.ensures ∙ c.if-is_ended.true)) ∙ before.1 ∙ declarations_folded R _ c.args.declarations.now)

pub returns-clause-answered : goal.returns-clause-answered
returns-clause-answered g c = λ t h.
    let before = c.loop-declaration.invariant.answered t h in
    let R = g.R.Analyzer.reading t in
    (before.0, sym (ends (declaration_step R) _ c.args.declarations.now c.loop-declaration.declaration-index c.loop-declaration-test.false) ∙ before.1 ∙ declarations_folded R _ c.args.declarations.now)
