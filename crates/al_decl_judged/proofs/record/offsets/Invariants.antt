use Rattle.std.proofs.Common.{◌≡◌, sum, take}
use Rattle.al_decl_judged.specs.Layouts.{offsets_from}
use Rattle.al_decl_judged.proofs.record.offsets.Given as goal

-- where the next component begins, and where those so far do
abbrev pub invariant-loop-more : goal.invariant-loop-more
invariant-loop-more l = (l.place ≡ sum (take l.more-index l.words)) × (l.offsets ≡ offsets_from 0 (take l.more-index l.words))
