use Rattle.std.proofs.Common.{map, ap, sym, ◌∙◌}
use Rattle.al_base.specs.Batch.{finding_of}
use Rattle.al_engine.proofs.planning.found_in.Goals as goal

pub returns-then-is_clean : goal.returns-then-is_clean
returns-then-is_clean c = ap (map finding_of) c.new.ensures.items ∙ sym (c.requires.clean c.if-is_clean.true)
