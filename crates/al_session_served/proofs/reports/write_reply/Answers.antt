use Rattle.std.proofs.Common.{append-nil}
use Rattle.al_session_served.proofs.reports.write_reply.Goals as goal

pub returns-clause-adds : goal.returns-clause-adds
returns-clause-adds g c = rw append-nil at (c.finish.ensures.adds _ _ c.emit_reply-so_far.ensures)
