use Rattle.al_base_words.proofs.RuleLemmas.{IfNone-rule_of}
use Rattle.al_base_words.proofs.message.rule_of.Goals as goal

pub returns-clause-none : goal.returns-clause-none
returns-clause-none c = IfNone-rule_of c.found.result c.args.number c.found.ensures.value
