use Rattle.std.proofs.Common.{◌≡◌, ◌-◌, ◌+◌, sym, ◌∙◌, ap, refl, arith, Some, rules, FitsSigned, w64}
use Rattle.std.proofs.Math.Nat.{mod-le}
use Rattle.std.proofs.lemmas.Int.{to_z-of_z}
use Rattle.al_machine.specs.Machine.{machine}
use Rattle.al_machine.specs.Stack.{word_at}
use Rattle.al_machine.specs.Frames.{followed, own_place}
use Rattle.al_machine.proofs.FrameLemmas.{own_below, after_link, cut_rounds}
use Rattle.al_machine.proofs.frames.follow.Goals as goal

pub loop-left-preserved-then-frame-passed : goal.loop-left-preserved-then-frame-passed
loop-left-preserved-then-frame-passed c =
    let m = machine c.args.memory.now c.args.registers.now in
    let next = c.in-Some.next in
    let fits : FitsSigned w64 (word_at m c.loop-left.frame) = search rules in
    let there : own_place m (word_at m c.loop-left.frame) ≡ Some next = simp to_z-of_z at (sym c.own_place.ensures ∙ c.in-Some.is) in
    let link = after_link m c.loop-left.frame next c.loop-left.left c.loop-left.ago c.loop-left.passed (followed c.args.links m c.args.registers.now.frame) (omega arith) there c.loop-left.invariant.leads c.loop-left.invariant.passed in
    let round : followed (c.loop-left.ago + 1) m next ≡ Some next = ap (λ n. followed (c.loop-left.ago + 1) m n) c.if-frame-passed.true ∙ link.1 in
    record {
      within = omega (arith, own_below m _ next there);
      bound = omega (arith, mod-le (c.loop-left.left - 1) (c.loop-left.ago + 1));
      most = c.loop-left.invariant.most;
      leads = sym (cut_rounds m (c.loop-left.ago + 1) next (c.loop-left.left - 1) round) ∙ link.0;
      passed = link.1;
    }

pub loop-left-preserved-then-ago-most : goal.loop-left-preserved-then-ago-most
loop-left-preserved-then-ago-most c =
    let m = machine c.args.memory.now c.args.registers.now in
    let next = c.in-Some.next in
    let fits : FitsSigned w64 (word_at m c.loop-left.frame) = search rules in
    let there : own_place m (word_at m c.loop-left.frame) ≡ Some next = simp to_z-of_z at (sym c.own_place.ensures ∙ c.in-Some.is) in
    let link = after_link m c.loop-left.frame next c.loop-left.left c.loop-left.ago c.loop-left.passed (followed c.args.links m c.args.registers.now.frame) (omega arith) there c.loop-left.invariant.leads c.loop-left.invariant.passed in
    record {
      within = omega (arith, own_below m _ next there);
      bound = omega arith;
      most = omega arith;
      leads = link.0;
      passed = refl;
    }

pub loop-left-preserved : goal.loop-left-preserved
loop-left-preserved c =
    let m = machine c.args.memory.now c.args.registers.now in
    let next = c.in-Some.next in
    let fits : FitsSigned w64 (word_at m c.loop-left.frame) = search rules in
    let there : own_place m (word_at m c.loop-left.frame) ≡ Some next = simp to_z-of_z at (sym c.own_place.ensures ∙ c.in-Some.is) in
    let link = after_link m c.loop-left.frame next c.loop-left.left c.loop-left.ago c.loop-left.passed (followed c.args.links m c.args.registers.now.frame) (omega arith) there c.loop-left.invariant.leads c.loop-left.invariant.passed in
    record {
      within = omega (arith, own_below m _ next there);
      bound = omega arith;
      most = c.loop-left.invariant.most;
      leads = link.0;
      passed = link.1;
    }
