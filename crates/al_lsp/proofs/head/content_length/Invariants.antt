use Rattle.std.proofs.Common.{◌≡◌, true, drop}
use Rattle.al_lsp.specs.Heads.{length_told, told_from}
use Rattle.al_lsp.proofs.head.content_length.Given as goal

abbrev pub invariant-loop-i : goal.invariant-loop-i
invariant-loop-i l = length_told 67108864 l.head ≡ told_from 67108864 l.is_at_start (drop l.i l.head)
