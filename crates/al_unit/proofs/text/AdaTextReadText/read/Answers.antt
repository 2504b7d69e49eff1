use Rattle.std.proofs.Common.{◌≡◌, ap, ◌∙◌}
use Rattle.al_unit.specs.Texts.{unit_in}
use Rattle.al_unit.proofs.text.AdaTextReadText.read.Goals as goal

pub invariant_of-result : goal.invariant_of-result
invariant_of-result c =
    let same : c.as_slice.result.now ≡ c.args.bytes.value.items = c.as_slice.ensures.value ∙ ap (λ v. v.items) c.deref.ensures in
    record { tree = c.in_ok-unit.ensures.tree ∙ ap unit_in same; header = c.in_ok-unit.ensures.header }
