use Rattle.std.proofs.Common.{◌≡◌, ℕ, List, length, map, sum_by, ap, subst, ◌∙◌, arith}
use Rattle.std.specs.List.{All}
use Rattle.std.proofs.lemmas.List.Elements.{All-map}
use Rattle.std.proofs.lemmas.List.{length-map}
use Rattle.al_instr.specs.Codes.{code_bytes}
use Rattle.al_instr.specs.Lines.{AreLines}
use Rattle.al_link.specs.declared.units.Located.{Located}
use Rattle.al_link.specs.Images.{object_of, start_code}
use Rattle.al_link.specs.Units.{located_model, unit_model}
use Rattle.al_link.proofs.LineLemmas.{HasLines}
use Rattle.al_link.proofs.PreparedLemmas.{prepared_is}
use Rattle.al_link.proofs.prepared.prepare.Goals as goal

abbrev objects : List Located → ℕ
objects xs = sum_by (λ l. length l.object.now.protected) xs

pub returns-clause-made : goal.returns-clause-made
returns-clause-made c =
    let at = c.in_ok-located.ensures in
    let xs = c.in_ok-located.located.items in
    let seen : List Located → List _ = λ ys. map located_model ys in
    let regions : length c.in_ok-protected.protected.items ≡ objects xs = c.in_ok-protected.ensures.count ∙ ap (λ (ys : List Located). objects ys) c.deref-3.ensures.value in
    let units : length c.in_ok-objects.objects.items ≡ length c.args.units.now =
    ap length c.in_ok-objects.ensures.value ∙ length-map (map located_model c.deref-4.result.now) object_of ∙ length-map c.deref-4.result.now located_model ∙ ap length c.deref-4.ensures.value ∙ at.count in
    prepared_is c.args.main.now (map unit_model c.args.units.now) c.first_bases-first.result (map located_model xs) _ c.place_of.result c.first_bases-first.ensures.value at.located at.after at.small (omega (arith, length-map c.args.units.now unit_model, c.if-units.false))
    (rw (← c.deref.ensures.value) c.in_ok-places.ensures) c.place_of.ensures
    (c.in_ok-start.ensures.code ∙ ap (λ (ys : List Located). code_bytes (start_code (map located_model ys) c.place_of.result)) c.deref-2.ensures.value) c.in_ok-start.ensures.is_code
    (rw (← c.deref-3.ensures.value) c.in_ok-protected.ensures.value) c.in_ok-protected.ensures.fit (omega (arith, regions, at.objects, at.small.objects))
    (rw (← c.deref-4.ensures.value) c.in_ok-objects.ensures.value) c.in_ok-objects.ensures.fit (omega (arith, units, c.if-units.false))
    (rw (← c.deref-5.ensures.value) c.in_ok-lines.ensures.value)
    (All-map HasLines located_model xs (subst (λ (ys : List Located). All (λ l. AreLines (length l.object.now.code) l.object.now.lines) ys) c.deref-5.ensures.value c.in_ok-lines.ensures.each))
