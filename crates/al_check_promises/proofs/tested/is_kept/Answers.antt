use Rattle.std.proofs.Common.{◌∙◌}
use Rattle.al_view_typed.specs.UnitTrees.{unit_model}
use Rattle.al_check_promises.proofs.Joined.{kept_by}
use Rattle.al_check_promises.proofs.tested.is_kept.Goals as goal

pub returns : goal.returns
returns c =
    c.all_hold.ensures
    ∙ kept_by c.args.unit.now c.args.shown.now c.args.sound.now.properties c.args.sound.now.parts (unit_model c.args.sound.now.tree)
    c.in_ok-allowed.allowed c.links_allowed-links.result c.in_ok-declared.declared c.has_code-code.result
    c.in_ok-allowed.ensures c.links_allowed-links.ensures c.in_ok-declared.ensures c.has_code-code.ensures
