use Rattle.std.proofs.Common.{map, take}
use Rattle.al_query_store.specs.Keyed.{settled_at}
use Rattle.al_engine.specs.Edits.{AreEditedIn}
use Rattle.al_engine.proofs.edits.edited_units.Given as goal

abbrev pub invariant-loop-file : goal.invariant-loop-file
invariant-loop-file g l = AreEditedIn l.sources (settled_at l.cache.store) l.graph (take l.file-index l.files) l.edits.items
