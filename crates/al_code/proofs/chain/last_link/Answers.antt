use Rattle.al_code.proofs.ChainLemmas.{binary_value}
use Rattle.al_code.proofs.chain.last_link.Goals as goal

pub returns-in-Binary-clause-code : goal.returns-in-Binary-clause-code
returns-in-Binary-clause-code c = binary_value c.args.typed.now c.deref-in-Binary-2.result.now c.deref-in-Binary.result.now c.deref.result.now c.in-Binary.operator c.in-Binary.left c.in-Binary.right (search (c.is_some.ensures, c.if-is_some.false)) c.in-Binary.is c.deref-in-Binary-2.ensures c.deref-in-Binary.ensures c.deref.ensures
