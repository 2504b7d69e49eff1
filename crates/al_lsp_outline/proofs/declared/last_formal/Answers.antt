use Rattle.std.proofs.Common.{arith}
use Rattle.al_lsp_outline.proofs.Lasts.{last_formal_is}
use Rattle.al_lsp_outline.proofs.declared.last_formal.Goals as goal

pub returns-in-len1-up : goal.returns-in-len1-up
returns-in-len1-up c = last_formal_is c.args.part.now c.as_slice.result.now c.last-item.result c.as_slice.ensures.value (omega arith) c.last-item.is
