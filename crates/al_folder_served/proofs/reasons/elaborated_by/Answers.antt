use Rattle.std.proofs.Common.{◌++◌, ℕ, List, map, sym, ap, ◌∙◌}
use Rattle.std.specs.List.{flat_map}
use Rattle.std.proofs.lemmas.List.{take_all}
use Rattle.al_base.specs.Batch.{key_of}
use Rattle.al_base.specs.declared.unit_key.UnitKey.{UnitKey}
use Rattle.al_folder_served.specs.Reasons.{elaborated}
use Rattle.al_folder_served.proofs.Gathered.{flat_one_more}
use Rattle.al_folder_served.proofs.reasons.elaborated_by.Goals as goal

pub loop-part-preserved : goal.loop-part-preserved
loop-part-preserved c =
    c.in_ok-add_elaborated.ensures
    ∙ ap (λ (found : List (List ℕ)). found ++ elaborated c.args.sources.now (key_of c.part-item.result)) c.loop-part.invariant
    ∙ sym (flat_one_more (elaborated c.args.sources.now) key_of c.args.parts.now c.loop-part.part-index c.part-item.result c.loop-part-test.true c.part-item.is)

pub returns : goal.returns
returns c = c.loop-part.invariant ∙ ap (λ (us : List UnitKey). flat_map (elaborated c.args.sources.now) (map key_of us)) (take_all c.loop-part.part-index c.args.parts.now c.loop-part-test.false)
