use Rattle.al_base.proofs.Renames.{sorted_pairs}
use Rattle.al_base.proofs.files.Files.shared.Goals as goal

pub returns-in_err-list-clause-ascend : goal.returns-in_err-list-clause-ascend
returns-in_err-list-clause-ascend c = rw (← c.self.view_is) (sorted_pairs c.self.inside.texts.entries c.len.ensures.ordered)

pub returns-in_err-push-clause-ascend : goal.returns-in_err-push-clause-ascend
returns-in_err-push-clause-ascend c = rw (← c.self.view_is) (sorted_pairs c.self.inside.texts.entries c.len.ensures.ordered)

pub returns-clause-ascend : goal.returns-clause-ascend
returns-clause-ascend c = rw (← c.self.view_is) (sorted_pairs c.self.inside.texts.entries c.len.ensures.ordered)
