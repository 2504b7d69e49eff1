use Rattle.std.proofs.lemmas.Result.{IfOk-weaker}
use Rattle.al_check_bounded.proofs.bounded_check.BoundedCheckUnitCheck.check.Goals as goal

pub returns-clause-meaning : goal.returns-clause-meaning
returns-clause-meaning g c = IfOk-weaker c.check_unit.result _ _ (λ v k t a. k.meaning t a) c.check_unit.ensures.checked

pub returns-clause-grounded : goal.returns-clause-grounded
returns-clause-grounded g c = IfOk-weaker c.check_unit.result _ _ (λ v k. k.grounded) c.check_unit.ensures.checked

pub returns-clause-words : goal.returns-clause-words
returns-clause-words g c = c.check_unit.ensures.names

pub returns-clause-names : goal.returns-clause-names
returns-clause-names g c = IfOk-weaker c.check_unit.result _ _ (λ v k. k.names) c.check_unit.ensures.checked

pub returns-clause-uses : goal.returns-clause-uses
returns-clause-uses g c = IfOk-weaker c.check_unit.result _ _ (λ v k. k.promised.uses) c.check_unit.ensures.checked

pub returns-clause-defines : goal.returns-clause-defines
returns-clause-defines g c = IfOk-weaker c.check_unit.result _ _ (λ v k. k.promised.defines) c.check_unit.ensures.checked

pub returns-clause-shows : goal.returns-clause-shows
returns-clause-shows g c = IfOk-weaker c.check_unit.result _ _ (λ v k. k.promised.shows) c.check_unit.ensures.checked

pub returns-clause-parts : goal.returns-clause-parts
returns-clause-parts g c = IfOk-weaker c.check_unit.result _ _ (λ v k. k.parts) c.check_unit.ensures.checked

pub returns-clause-code : goal.returns-clause-code
returns-clause-code g c = IfOk-weaker c.check_unit.result _ _ (λ v k. k.promised.code) c.check_unit.ensures.checked

pub returns-clause-faults : goal.returns-clause-faults
returns-clause-faults g c = IfOk-weaker c.check_unit.result _ _ (λ v k. k.promised.faults) c.check_unit.ensures.checked
