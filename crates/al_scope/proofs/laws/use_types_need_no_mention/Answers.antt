use Rattle.al_scope.proofs.UseTypeLemmas.{needs_no_mention, opens_all_operators}
use Rattle.al_scope.proofs.laws.use_types_need_no_mention.Goals as goal

pub returns-clause-all : goal.returns-clause-all
returns-clause-all c = opens_all_operators

pub returns-clause-same : goal.returns-clause-same
returns-clause-same c = needs_no_mention
