use Rattle.std.proofs.Common.{sym, ◌∙◌}
use Rattle.al_folder.proofs.ExcerptLines.{excerpt_none, excerpt_some}
use Rattle.al_folder.proofs.excerpt.emit_excerpt.Goals as goal

pub returns-then-is_empty-clause-adds : goal.returns-then-is_empty-clause-adds
returns-then-is_empty-clause-adds g c = λ start before wrote.
    rw (excerpt_none c.args.place c.args.line.now (sym c.is_empty.ensures ∙ c.if-is_empty.true)) (c.emit.ensures.adds start before wrote)

pub returns-else-is_empty-clause-adds : goal.returns-else-is_empty-clause-adds
returns-else-is_empty-clause-adds g c = λ start before wrote.
    rw (excerpt_some c.args.place c.args.line.now (sym c.is_empty.ensures ∙ c.if-is_empty.false)) (c.emit_marked.ensures.adds start before wrote)
