use Rattle.std.proofs.Common.{append_assoc}
use Rattle.std.proofs.lemmas.List.{length-map}
use Rattle.al_bind.specs.Binding.{line_model}
use Rattle.al_session_served.proofs.reports.emit_cycle.Goals as goal

pub returns-clause-adds : goal.returns-clause-adds
returns-clause-adds g c = λ start before wrote.
    let one = c.emit-so_far.ensures.adds start before wrote in
    let two = c.emit_number-so_far.ensures.adds start _ one in
    let three = c.emit-so_far-2.ensures.adds start _ two in
    let four = c.emit_cycle_lines.ensures.adds start _ three in
    let count = length-map c.args.lines.now line_model in
    rw count (simp append_assoc (simp append_assoc at four))
