use Rattle.std.proofs.Common.{List, map, subst}
use Rattle.std.specs.List.{flat_map}
use Rattle.std.proofs.lemmas.Result.{on_ok_weaker}
use Rattle.al_view.specs.ViewUses.{link}
use Rattle.al_view.specs.declared.link.LinkKind.TheVariants as kind
use Rattle.al_view_typed.specs.UnitTrees.{body_model}
use Rattle.al_view_typed.specs.Uses.{body_defines, protected_defines}
use Rattle.al_view_typed.specs.declared.unit.DataPlace.{DataPlace}
use Rattle.al_view_typed.specs.declared.unit.ProtectedWords.{ProtectedWords}
use Rattle.al_view_typed.specs.declared.unit.TypedBody.{TypedBody}
use Rattle.al_check_promises.specs.Links.{Gains}
use Rattle.al_check_promises.proofs.Gained.{gains_defines}
use Rattle.al_check_promises.proofs.defines.add_defines.Goals as goal

pub returns : goal.returns
returns c =
    on_ok_weaker c.add_objects.result (λ last.
    gains_defines c.args.set.now c.add_bodies.new.set c.add_places.new.set c.add_places-2.new.set c.add_objects.new.set c.args.unit.now
    (subst (λ (bs : List TypedBody). Gains c.args.set.now c.add_bodies.new.set (flat_map (λ x. body_defines (body_model x).symbol (body_model x).kind) bs)) c.as_slice.ensures.value c.in_ok-add_bodies.ensures)
    (subst (λ (ps : List DataPlace). Gains c.add_bodies.new.set c.add_places.new.set (map (λ p. link kind.Data p.symbol) ps)) c.as_slice-2.ensures c.in_ok-add_places.ensures)
    (subst (λ (ps : List DataPlace). Gains c.add_places.new.set c.add_places-2.new.set (map (λ p. link kind.Flag p.symbol) ps)) c.as_slice-3.ensures c.in_ok-add_places-2.ensures)
    (subst (λ (os : List ProtectedWords). Gains c.add_places-2.new.set c.add_objects.new.set (flat_map protected_defines os)) c.as_slice-4.ensures last)) c.add_objects.ensures
