use Rattle.std.proofs.Common.{append_assoc}
use Rattle.al_report.proofs.Lines.{some_wait}
use Rattle.al_report.proofs.text.emit_dependents.Goals as goal

pub returns-clause-adds : goal.returns-clause-adds
returns-clause-adds g c = λ start before wrote.
    let one = c.emit_number-so_far.ensures.adds start before wrote in
    let two = rw c.dependents_words.ensures at (c.emit-so_far.ensures.adds start _ one) in
    let three = c.emit_causes-so_far.ensures.adds start _ two in
    let four = c.emit-2.ensures.adds start _ three in
    rw (some_wait c.args.count c.args.causes.now c.if-count-eq0.false) (simp append_assoc (simp append_assoc at four))

pub returns-then-count-eq0-clause-adds : goal.returns-then-count-eq0-clause-adds
returns-then-count-eq0-clause-adds g c = λ start before wrote. rw c.if-count-eq0.true (c.emit.ensures.adds start before wrote)
