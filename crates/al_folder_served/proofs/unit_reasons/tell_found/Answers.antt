use Rattle.std.proofs.Common.{◌≡◌, ◌∙◌, ◌++◌, ℕ, List, map, subst, sym}
use Rattle.al_session_stream.specs.Output.{Adds}
use Rattle.al_folder_served.specs.Told.{line_end}
use Rattle.al_folder_served.specs.UnitReasons.{part_text, parts_text}
use Rattle.al_folder_served.proofs.WhyTold.{no_parts, some_parts}
use Rattle.al_folder_served.proofs.unit_reasons.tell_found.Goals as goal

pub returns-then-is_empty-clause-told : goal.returns-then-is_empty-clause-told
returns-then-is_empty-clause-told g c = λ start before wrote.
    rw (no_parts c.args.name.now c.args.parts.now (sym c.is_empty.ensures ∙ c.if-is_empty.true)) (c.tell_line.ensures.told start before wrote)

pub returns-clause-told : goal.returns-clause-told
returns-clause-told g c =
    let is : c.as_slice.result.now ≡ parts_text c.args.name.now (map part_text c.args.parts.now) =
    c.as_slice.ensures.value ∙ c.in_ok-text.ensures ∙ sym (some_parts c.args.name.now c.args.parts.now (sym c.is_empty.ensures ∙ c.if-is_empty.false)) in
    subst (λ (b : List ℕ). Adds g.E.Sink.written g.E.Sink.faults g.E.Sink.waits c.args.screen.now.error.sink c.tell.new.self.error.sink c.args.screen.now.error.so_far c.tell.new.self.error.so_far (line_end c.args.screen.now.is_open ++ b)) is c.tell.ensures.told
