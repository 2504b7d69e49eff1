use Rattle.al_lex.proofs.Order.{tokens_lie_in_text}
use Rattle.al_lex.proofs.laws.tokens_lie_in_text.Goals as goal

pub returns : goal.returns
returns c = tokens_lie_in_text
