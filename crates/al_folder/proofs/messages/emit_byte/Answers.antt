use Rattle.al_folder.proofs.ShownBytes.{shown_tab, shown_control, shown_delete, shown_other}
use Rattle.al_folder.proofs.messages.emit_byte.Goals as goal

pub returns-then-byte-eq9-clause-adds : goal.returns-then-byte-eq9-clause-adds
returns-then-byte-eq9-clause-adds g c = λ start before wrote.
    rw (shown_tab c.args.byte c.if-byte-eq9.true) (c.emit.ensures.adds start before wrote)

pub returns-then-byte-lt32-clause-adds : goal.returns-then-byte-lt32-clause-adds
returns-then-byte-lt32-clause-adds g c = λ start before wrote.
    rw (shown_control c.args.byte c.if-byte-eq9.false c.if-byte-lt32.true) (c.emit-then-byte-lt32.ensures.adds start before wrote)

pub returns-then-byte-eq127-clause-adds : goal.returns-then-byte-eq127-clause-adds
returns-then-byte-eq127-clause-adds g c = λ start before wrote.
    rw (shown_delete c.args.byte c.if-byte-eq9.false c.if-byte-lt32.false c.if-byte-eq127.true) (c.emit-then-byte-eq127.ensures.adds start before wrote)

pub returns-else-byte-eq127-clause-adds : goal.returns-else-byte-eq127-clause-adds
returns-else-byte-eq127-clause-adds g c = λ start before wrote.
    rw (shown_other c.args.byte c.if-byte-eq9.false c.if-byte-lt32.false c.if-byte-eq127.false) (c.emit-else-byte-eq127.ensures.adds start before wrote)
