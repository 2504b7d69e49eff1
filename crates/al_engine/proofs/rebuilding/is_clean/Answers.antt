use Rattle.std.proofs.Common.{sym, ◌∙◌}
use Rattle.al_query_store.specs.Keyed.{now_at}
use Rattle.al_engine.proofs.RebuildClean.{each-sound}
use Rattle.al_engine.proofs.rebuilding.is_clean.Goals as goal

pub returns-in-Some-clause-sound : goal.returns-in-Some-clause-sound
returns-in-Some-clause-sound c = λ is. rw c.in-Some.is (each-sound (now_at c.args.entries.now) c.in-Some.edits.now (sym c.are_sound.ensures ∙ is))
