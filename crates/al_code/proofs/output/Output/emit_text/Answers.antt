use Rattle.al_code.proofs.Beyond.{text_beyond}
use Rattle.al_code.proofs.output.Output.emit_text.Goals as goal

pub returns-then-text-gt-MAX_CODE : goal.returns-then-text-gt-MAX_CODE
returns-then-text-gt-MAX_CODE c = text_beyond c.args.self.now c.args.text.now c.if-text-gt-MAX_CODE.true
