use Rattle.al_stmts_right_choices.specs.ChoicesTest.{choices_right}
use Rattle.al_stmts_right_choices.proofs.Deciding.{decides, same_test}
use Rattle.al_stmts_right_choices.proofs.Tests.{if_ok}
use Rattle.al_stmts_right_choices.proofs.choices.are_right.Goals as goal

pub returns : goal.returns
returns c =
    let s = c.args.selector in
    let alts = c.args.alternatives.now in if_ok c.are_right.result _ _ (λ right h. same_test right (choices_right s alts) h (decides s alts)) c.are_right.ensures
