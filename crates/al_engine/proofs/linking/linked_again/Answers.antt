use Rattle.std.proofs.Common.{◌≡◌, map, ap, subst, ◌∙◌}
use Rattle.al_link.specs.Partitions.{IsFaultOf}
use Rattle.al_link_image.specs.declared.fault.LinkFault.{LinkFault}
use Rattle.al_engine.specs.ObjectsSeen.{left_model, object_model}
use Rattle.al_engine.proofs.LinkLemmas.{closed-of, linkable-of, linkable-to, named-left, units-are}
use Rattle.al_engine.proofs.PatchLemmas.{are_patched}
use Rattle.al_engine.proofs.linking.linked_again.Goals as goal

pub relink-requires-clause-named : goal.relink-requires-clause-named
relink-requires-clause-named c =
    named-left c.as_slice.result.now (map object_model c.args.objects.now) (ap (map left_model) c.as_slice.ensures.value ∙ c.in_ok-left.ensures) c.requires.named

pub relink-requires-clause-closed : goal.relink-requires-clause-closed
relink-requires-clause-closed c =
    closed-of c.as_slice.result.now (map object_model c.args.objects.now) (ap (map left_model) c.as_slice.ensures.value ∙ c.in_ok-left.ensures) c.args.main.now c.requires.closed

pub returns-in-Ok-clause-again : goal.returns-in-Ok-clause-again
returns-in-Ok-clause-again c =
    let left = c.as_slice.result.now in
    let us = map object_model c.args.objects.now in
    let same : map left_model left ≡ us = ap (map left_model) c.as_slice.ensures.value ∙ c.in_ok-left.ensures in
    let is = c.in-Ok.ensures in (
      (linkable-of left us same c.requires.named is.within, is.main, is.units ∙ units-are left us same),
      are_patched left c.args.main.now c.args.linked.now c.relink.new.self is.within.none_large is.main is.units c.relink.ensures.patched is.otherwise,
    )

pub returns-in-Err-TooLarge-clause-again : goal.returns-in-Err-TooLarge-clause-again
returns-in-Err-TooLarge-clause-again c is =
    let left = c.as_slice.result.now in
    let us = map object_model c.args.objects.now in
    let same : map left_model left ≡ us = ap (map left_model) c.as_slice.ensures.value ∙ c.in_ok-left.ensures in
    (subst (λ (e : LinkFault). IsFaultOf left e) c.in-Err-TooLarge.field-0-is c.in-Err-TooLarge.ensures.fault) (linkable-to left us same is)
