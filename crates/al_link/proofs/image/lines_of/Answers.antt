use Rattle.std.proofs.Common.{length}
use Rattle.al_instr.specs.Lines.{AreLines}
use Rattle.al_link.proofs.LineLemmas.{each_more, lines_more}
use Rattle.al_link.proofs.image.lines_of.Goals as goal

pub loop-unit-preserved : goal.loop-unit-preserved
loop-unit-preserved c = record {
  value = lines_more c.args.units.now c.loop-unit.unit-index c.unit-item.result c.loop-unit-test.true c.unit-item.is c.loop-unit.lines.items c.push_lines.new.out.items c.loop-unit.invariant.value c.in_ok-push_lines.ensures.value;
  each = each_more c.args.units.now c.loop-unit.unit-index c.unit-item.result c.loop-unit-test.true c.unit-item.is (λ k. AreLines (length k.object.now.code) k.object.now.lines) c.loop-unit.invariant.each c.in_ok-push_lines.ensures.each;
}
