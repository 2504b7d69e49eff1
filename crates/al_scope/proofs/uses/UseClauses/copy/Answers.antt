use Rattle.std.proofs.Common.{◌∙◌}
use Rattle.al_scope.proofs.UseLemmas.{uses_of-clone}
use Rattle.al_scope.proofs.uses.UseClauses.copy.Goals as goal

pub returns-clause-is : goal.returns-clause-is
returns-clause-is c = uses_of-clone c.self.inside.by_package.entries c.in_ok-by_package.by_package.entries c.in_ok-by_package.ensures.cases ∙ c.self.view_is
