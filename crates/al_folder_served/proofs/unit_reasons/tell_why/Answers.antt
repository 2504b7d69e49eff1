use Rattle.std.proofs.Common.{◌≡◌, ◌∙◌, ◌++◌, List, ap, map, subst}
use Rattle.al_base.specs.declared.unit_key.UnitKind.TheVariants.{Decl, Body, Sub}
use Rattle.al_session_stream.specs.Output.{Adds}
use Rattle.al_folder_served.specs.Told.{line_end}
use Rattle.al_folder_served.specs.UnitReasons.{Part, part_of, part_text, parts_text}
use Rattle.al_folder_served.proofs.unit_reasons.tell_why.Goals as goal

pub returns-clause-told : goal.returns-clause-told
returns-clause-told g c =
    let one = c.in_ok-add_part.ensures in
    let two = c.in_ok-add_part-2.ensures in
    let three = c.in_ok-add_part-3.ensures in
    let is : map part_text c.as_slice.result.now ≡ (part_of Decl one.0 ++ part_of Body two.0) ++ part_of Sub three.0 =
    ap (λ ps. map part_text ps) c.as_slice.ensures.value
    ∙ three.2
    ∙ ap (λ (ps : List Part). ps ++ part_of Sub three.0) (two.2 ∙ ap (λ (ps : List Part). ps ++ part_of Body two.0) (one.2 ∙ ap (λ ps. map part_text ps ++ part_of Decl one.0) c.new-parts.ensures.items)) in (
      one.0,
      two.0,
      three.0,
      one.1,
      two.1,
      three.1,
      subst (λ (ps : List Part). Adds g.E.Sink.written g.E.Sink.faults g.E.Sink.waits c.args.screen.now.error.sink c.tell_found.new.screen.error.sink c.args.screen.now.error.so_far c.tell_found.new.screen.error.so_far (line_end c.args.screen.now.is_open ++ parts_text c.args.name.now ps)) is c.in_ok-tell_found.ensures.told,
    )
