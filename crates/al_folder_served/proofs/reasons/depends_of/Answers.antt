use Rattle.std.proofs.Common.{List, [], fold, map, sym, ap, ◌∙◌}
use Rattle.std.proofs.lemmas.List.{take_all}
use Rattle.al_base.specs.Batch.{Key, key_of}
use Rattle.al_base.specs.declared.unit_key.UnitKey.{UnitKey}
use Rattle.al_folder_served.specs.Reasons.{with_part}
use Rattle.al_folder_served.proofs.Gathered.{fold_one_more}
use Rattle.al_folder_served.proofs.reasons.depends_of.Goals as goal

pub loop-part-preserved : goal.loop-part-preserved
loop-part-preserved c =
    let x = key_of c.args.x.now in
    c.in_ok-add_depends.ensures
    ∙ ap (λ (found : List Key). with_part c.args.sources.now x found (key_of c.part-item.result)) c.loop-part.invariant
    ∙ sym (fold_one_more (with_part c.args.sources.now x) [] key_of c.args.parts.now c.loop-part.part-index c.part-item.result c.loop-part-test.true c.part-item.is)

pub returns : goal.returns
returns c = c.loop-part.invariant ∙ ap (λ (us : List UnitKey). fold (with_part c.args.sources.now (key_of c.args.x.now)) [] (map key_of us)) (take_all c.loop-part.part-index c.args.parts.now c.loop-part-test.false)
