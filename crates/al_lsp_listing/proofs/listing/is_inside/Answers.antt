use Rattle.std.proofs.Common.{sym}
use Rattle.al_lsp_listing.proofs.Stacks.{is_inside_last}
use Rattle.al_lsp_listing.proofs.listing.is_inside.Goals as goal

pub returns-in-Some : goal.returns-in-Some
returns-in-Some c = sym (is_inside_last c.args.depth c.args.pending.now c.in-Some.last.now (sym c.in-Some.ensures.value))
