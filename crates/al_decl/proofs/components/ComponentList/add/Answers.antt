use Rattle.std.proofs.Common.{List, Option, Ok, map, sym, ap, ◌∙◌}
use Rattle.al_decl_judged.specs.declared.record.Part.{Part}
use Rattle.al_base_fault.specs.Judging.{map_ok, unless}
use Rattle.al_base_fault.specs.declared.fault.Fault.{Fault}
use Rattle.al_view.specs.declared.view.SubtypeView.{SubtypeView}
use Rattle.al_decl.specs.Components.{part, parts_of_both}
use Rattle.al_decl.specs.Founds.{found_model}
use Rattle.al_decl.proofs.Lists.{found_right, found_wrong, unless_model}
use Rattle.al_decl.proofs.Outcomes.{on_ok}
use Rattle.al_decl.proofs.components.ComponentList.add.Goals as goal

pub returns-in-Ok : goal.returns-in-Ok
returns-in-Ok c =
    let found = c.args.self.now in
    let make = λ (s : SubtypeView). map (part s) c.args.names.now in
    on_ok c.add_parts.result _ _
    (λ made.
    ap (λ (ps : List Part). unless found.fault (Ok ps)) made
    ∙ found_right found.fault found.parts (make c.in-Ok.of)
    ∙ ap (parts_of_both (found_model found)) (ap (map_ok make) c.in-Ok.ensures ∙ sym (unless_model c.args.fault make c.args.of)))
    c.add_parts.ensures

pub returns-in-Err : goal.returns-in-Err
returns-in-Err c =
    let found = c.args.self.now in
    let make = λ (s : SubtypeView). map (part s) c.args.names.now in
    ap (λ (d : Option Fault). unless d (Ok found.parts)) c.earlier-self.ensures
    ∙ found_wrong found.fault found.parts c.in-Err.fault
    ∙ ap (parts_of_both (found_model found)) (ap (map_ok make) c.in-Err.ensures ∙ sym (unless_model c.args.fault make c.args.of))
