use Rattle.std.proofs.Common.{arith}
use Rattle.std.proofs.lemmas.Grind.{common_steps, take-set_at}
use Rattle.al_base.proofs.name.short_folded.Goals as goal

pub loop-i-preserved : goal.loop-i-preserved
loop-i-preserved c = record {
  whole = grind (arith, common_steps, c.loop-i.invariant.whole);
  done = grind (arith, common_steps, take-set_at, c.requires, c.loop-i.invariant.whole, c.loop-i.invariant.done, c.loop-i-test.true, c.to_ascii_lowercase.ensures.value);
}
