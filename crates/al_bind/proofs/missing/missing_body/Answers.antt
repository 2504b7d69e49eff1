use Rattle.std.proofs.Common.{map}
use Rattle.al_base.specs.Batch.{key_of}
use Rattle.al_bind.proofs.Least.{lacks_body_least}
use Rattle.al_bind.proofs.missing.missing_body.Goals as goal

pub returns : goal.returns
returns c = lacks_body_least c.args.sources.now c.args.main.now (map key_of c.args.needed.now) c.in_ok-least.least c.requires c.in_ok-least.ensures
