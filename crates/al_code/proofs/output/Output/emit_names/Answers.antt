use Rattle.al_code.proofs.Beyond.{names_beyond}
use Rattle.al_code.proofs.output.Output.emit_names.Goals as goal

pub returns-then-names-gt-MAX_CODE : goal.returns-then-names-gt-MAX_CODE
returns-then-names-gt-MAX_CODE c = names_beyond c.args.self.now c.args.below c.args.names.now c.if-names-gt-MAX_CODE.true
