use Rattle.std.proofs.Common.{ℕ, List, Some, refl, sym, ap, subst, ◌∙◌, map, set}
use Rattle.std.proofs.lemmas.List.{map-set}
use Rattle.al_link.specs.Relinking.{LinkedImage}
use Rattle.al_engine.specs.Links.{AreLinked, IsLinkedOver}
use Rattle.al_engine.specs.Objects.{WithObject}
use Rattle.al_engine.specs.ObjectsSeen.{object_model}
use Rattle.al_engine.specs.Patches.{ArePatched, IsPatched, linked_in}
use Rattle.al_engine.specs.declared.compiled.Compiled.{Compiled}
use Rattle.al_engine.specs.declared.compiled.Compiled.TheVariants.{Made}
use Rattle.al_engine.proofs.ExchangeLemmas.{exchanged-linked, exchanged-patched}
use Rattle.al_engine.proofs.linking.link_renewed.Goals as goal

pub returns-then-exchanged-clause-linked : goal.returns-then-exchanged-clause-linked
returns-then-exchanged-clause-linked c =
    let p = c.in-Made.program in
    let t = c.into_parts-main.result in
    let us : List WithObject = map object_model p.objects.items in
    subst (λ (old : Compiled). IsLinkedOver c.args.renewal old (Made (record { order = p.order; objects = c.put.new.objects; linked = c.exchanged.new.linked }))) (sym c.in-Made.is)
    (λ held. (
      refl,
      subst (λ x. AreLinked x.0 (set us x.1 (object_model x.2)) c.exchanged.new.linked) c.into_parts-main.ensures
          (exchanged-linked t.0 t.1 (object_model t.2) p.linked c.exchanged.new.linked us (c.exchanged.ensures.exchanged c.if-exchanged.true) held.0 held.1),
      ap (map object_model) c.put.ensures ∙ map-set object_model p.objects.items t.1 t.2 ∙ ap (λ x. set us x.1 (object_model x.2)) c.into_parts-main.ensures,
    ))

pub returns-then-exchanged-clause-patched : goal.returns-then-exchanged-clause-patched
returns-then-exchanged-clause-patched c =
    let p = c.in-Made.program in
    let t = c.into_parts-main.result in
    let new : LinkedImage = c.exchanged.new.linked in
    subst (λ (old : Compiled). IsPatched (linked_in old) (Some new) c.patched.result) (sym c.in-Made.is)
    (subst (λ (n : ℕ). ArePatched p.linked new n) (sym c.patched.ensures) (exchanged-patched t.0 t.1 (object_model t.2) p.linked new (c.exchanged.ensures.exchanged c.if-exchanged.true)))
