use Rattle.std.proofs.Common.{get_or, pos, arith, rules, FitsSigned, w64}
use Rattle.std.proofs.lemmas.Int.{to_z-of_z}
use Rattle.al_machine.proofs.MemoryLemmas.{one_copied, none_copied}
use Rattle.al_machine.proofs.memory.copy.Goals as goal

pub returns-then-words-eq1 : goal.returns-then-words-eq1
returns-then-words-eq1 c =
    let one = c.if-words-eq1.true in
    let fits : FitsSigned w64 (get_or c.args.memory.now c.args.from (pos 0)) = search rules in
    let value = to_z-of_z w64 (get_or c.args.memory.now c.args.from (pos 0)) fits in
    rw (value, one) (one_copied c.args.memory.now c.args.from c.args.to (let h = c.requires.from in omega arith) (let h = c.requires.to in omega arith))

pub returns-then-words-eq0 : goal.returns-then-words-eq0
returns-then-words-eq0 c = rw c.if-words-eq0.true (none_copied c.args.memory.now c.args.from c.args.to)
