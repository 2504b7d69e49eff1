use Rattle.std.proofs.Common.{sym}
use Rattle.al_check_promises.proofs.checked.is_still_kept.Goals as goal

pub returns-then-known_kept : goal.returns-then-known_kept
returns-then-known_kept c = sym (c.requires c.if-known_kept.true)
