use Rattle.std.proofs.Common.{◌≡◌, ◌<◌, ◌≤◌, [], ◌∷◌, ◌++◌, length, arith, ◌∙◌, ap, subst, List}
use Rattle.al_scope.specs.declared.region.Region.{Region}
use Rattle.al_scope.specs.declared.region.UnitPart.{UnitPart}
use Rattle.al_scope.specs.Places.{Place, place_of, with_part}
use Rattle.al_scope.proofs.PlaceLemmas.{with_part-is, with_part-none}
use Rattle.al_scope.proofs.scope.Scope.add_part.Goals as goal

pub returns-in_ok-push-clause-ok : goal.returns-in_ok-push-clause-ok
returns-in_ok-push-clause-ok c =
    let s = c.args.construct.now in
    let p = c.args.part in
    let items = c.self.inside.regions.items in
    let region = c.index_mut-region.result.now in
    let at : c.place_of-at.result ≡ place_of s items = c.place_of-at.ensures.is ∙ ap (place_of s) c.as_slice.ensures.value in
    let less : c.place_of-at.result < length items = omega (arith, c.if-at-len.true, c.len.ensures) in
    let parts = ap (λ (ps : List UnitPart). record region { parts = ps }) c.in_ok-push.ensures ∙ ap (λ (r : Region). record r { parts = r.parts ++ p ∷ [] }) c.index_mut-region.ensures.value in
    with_part-is s p items c.place_of-at.result region _ at less parts ∙ ap (λ (q : Place). with_part s p q.regions) c.self.view_is

pub returns-else-at-len-clause-ok : goal.returns-else-at-len-clause-ok
returns-else-at-len-clause-ok c =
    let s = c.args.construct.now in
    let p = c.args.part in
    let items = c.self.inside.regions.items in
    let at : c.place_of-at.result ≡ place_of s items = c.place_of-at.ensures.is ∙ ap (place_of s) c.as_slice.ensures.value in
    let most : length items ≤ place_of s items = omega (arith, at, c.if-at-len.false, c.len.ensures) in
    subst (λ (q : Place). q.regions ≡ with_part s p q.regions) c.self.view_is (with_part-none s p items most)
