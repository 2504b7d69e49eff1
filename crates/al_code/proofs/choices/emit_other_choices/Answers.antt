use Rattle.std.proofs.Common.{sym}
use Rattle.al_code.specs.Statements.{other_choice_code}
use Rattle.al_code.proofs.Writing.{written_nothing, written_all}
use Rattle.al_code.proofs.Lists.{written_copied}
use Rattle.al_code.proofs.choices.emit_other_choices.Goals as goal

pub loop-choice-init : goal.loop-choice-init
loop-choice-init c = sym (written_nothing c.args.out.now)

pub loop-choice-preserved : goal.loop-choice-preserved
loop-choice-preserved c =
    written_copied (other_choice_code c.args.word) c.args.out.now c.loop-choice.out c.emit_other_choice.new.out c.args.choices.now c.loop-choice.choice-index _
    c.loop-choice.invariant c.in_ok-emit_other_choice.ensures c.loop-choice-test.true

pub returns : goal.returns
returns c = written_all (other_choice_code c.args.word) c.args.out.now c.loop-choice.out c.args.choices.now c.loop-choice.choice-index c.loop-choice.invariant c.loop-choice-test.false
