use Rattle.std.proofs.Common.{sym, ◌∙◌}
use Rattle.al_folder_served.proofs.CheckedTold.{checked_none, checked_some}
use Rattle.al_folder_served.proofs.telling.tell_checked.Goals as goal

pub returns-then-is_empty-clause-told : goal.returns-then-is_empty-clause-told
returns-then-is_empty-clause-told g c = λ start before wrote.
    rw (checked_none c.args.screen.now.is_open c.args.units.now (sym c.is_empty.ensures ∙ c.if-is_empty.true)) (c.tell_line.ensures.told start before wrote)

pub returns-clause-told : goal.returns-clause-told
returns-clause-told g c = λ start before wrote.
    rw (checked_some c.args.screen.now.is_open c.args.units.now (sym c.is_empty.ensures ∙ c.if-is_empty.false)) (c.tell_parts.ensures.told start before wrote)
