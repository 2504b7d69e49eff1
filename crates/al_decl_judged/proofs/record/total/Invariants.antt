use Rattle.std.proofs.Common.{◌≡◌, min, sum, take}
use Rattle.al_decl_judged.proofs.record.total.Given as goal

-- the sum so far
abbrev pub invariant-loop-more : goal.invariant-loop-more
invariant-loop-more l = l.total ≡ min (sum (take l.more-index l.words)) 4294967295
