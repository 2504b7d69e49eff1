use Rattle.std.proofs.Common.{◌≡◌, map, ap, subst, ◌∙◌}
use Rattle.al_link.specs.Partitions.{IsFaultOf}
use Rattle.al_link_image.specs.declared.fault.LinkFault.{LinkFault}
use Rattle.al_engine.specs.ObjectsSeen.{left_model, object_model}
use Rattle.al_engine.proofs.LinkLemmas.{closed-of, linkable-of, linkable-to, named-left, units-are}
use Rattle.al_engine.proofs.linking.linked_anew.Goals as goal

pub new-requires-clause-named : goal.new-requires-clause-named
new-requires-clause-named c =
    named-left c.as_slice.result.now (map object_model c.args.objects.now) (ap (map left_model) c.as_slice.ensures.value ∙ c.in_ok-left.ensures) c.requires.named

pub new-requires-clause-closed : goal.new-requires-clause-closed
new-requires-clause-closed c =
    closed-of c.as_slice.result.now (map object_model c.args.objects.now) (ap (map left_model) c.as_slice.ensures.value ∙ c.in_ok-left.ensures) c.args.main.now c.requires.closed

pub returns-in-Ok : goal.returns-in-Ok
returns-in-Ok c =
    let left = c.as_slice.result.now in
    let us = map object_model c.args.objects.now in
    let same : map left_model left ≡ us = ap (map left_model) c.as_slice.ensures.value ∙ c.in_ok-left.ensures in (
      linkable-of left us same c.requires.named c.in-Ok.ensures.within,
      ap (λ l. l.main) c.in-Ok.ensures.linked,
      ap (λ l. l.units) c.in-Ok.ensures.linked ∙ units-are left us same,
    )

pub returns-in-Err-TooLarge : goal.returns-in-Err-TooLarge
returns-in-Err-TooLarge c is =
    let left = c.as_slice.result.now in
    let us = map object_model c.args.objects.now in
    let same : map left_model left ≡ us = ap (map left_model) c.as_slice.ensures.value ∙ c.in_ok-left.ensures in
    (subst (λ (e : LinkFault). IsFaultOf left e) c.in-Err-TooLarge.field-0-is c.in-Err-TooLarge.ensures.fault) (linkable-to left us same is)
