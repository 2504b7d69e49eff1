use Rattle.std.proofs.Common.{◌≡◌, take}
use Rattle.al_lsp_served.specs.Documents.{after_changes}
use Rattle.al_lsp_served.proofs.document.after_changes.Given as goal

abbrev pub invariant-loop-change : goal.invariant-loop-change
invariant-loop-change l = l.so_far.items ≡ after_changes l.counting l.text (take l.change-index l.changes)
