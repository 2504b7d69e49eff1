use Rattle.std.proofs.Common.{map, sym, ◌∙◌}
use Rattle.al_base.specs.Batch.{key_of}
use Rattle.al_folder_served.proofs.Gathered.{with_other_some, with_other_none}
use Rattle.al_folder_served.proofs.reasons.add_other.Goals as goal

pub returns-then-is_other : goal.returns-then-is_other
returns-then-is_other c = rw (with_other_some (key_of c.args.x.now) (map key_of c.args.found.now.items) (key_of c.args.y.now) (sym c.is_other.ensures ∙ c.if-is_other.true)) c.add_new.ensures

pub returns : goal.returns
returns c = sym (with_other_none (key_of c.args.x.now) (map key_of c.args.found.now.items) (key_of c.args.y.now) (sym c.is_other.ensures ∙ c.if-is_other.false))
