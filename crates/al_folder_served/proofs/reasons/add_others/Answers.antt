use Rattle.std.proofs.Common.{List, fold, map, sym, ap, ◌∙◌}
use Rattle.std.proofs.lemmas.List.{take_all}
use Rattle.al_base.specs.Batch.{Key, key_of}
use Rattle.al_base.specs.declared.unit_key.UnitKey.{UnitKey}
use Rattle.al_folder_served.specs.Reasons.{with_other}
use Rattle.al_folder_served.proofs.Gathered.{fold_one_more}
use Rattle.al_folder_served.proofs.reasons.add_others.Goals as goal

pub loop-key-preserved : goal.loop-key-preserved
loop-key-preserved c =
    let x = key_of c.args.x.now in
    c.in_ok-add_other.ensures
    ∙ ap (λ (found : List Key). with_other x found (key_of c.key-item.result)) c.loop-key.invariant
    ∙ sym (fold_one_more (with_other x) (map key_of c.args.found.now.items) key_of c.args.keys.now c.loop-key.key-index c.key-item.result c.loop-key-test.true c.key-item.is)

pub returns : goal.returns
returns c = c.loop-key.invariant ∙ ap (λ (us : List UnitKey). fold (with_other (key_of c.args.x.now)) (map key_of c.args.found.now.items) (map key_of us)) (take_all c.loop-key.key-index c.args.keys.now c.loop-key-test.false)
