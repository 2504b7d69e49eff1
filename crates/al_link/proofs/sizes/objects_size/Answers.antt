use Rattle.std.proofs.Common.{◌≡◌, ◌≤◌, ℕ, List, length, sym, ap, subst, arith}
use Rattle.al_link_image.specs.Images.{IsObject}
use Rattle.al_link_image.specs.declared.parts.ImageObject.{ImageObject}
use Rattle.al_link.proofs.SizeLemmas.{object_counted}
use Rattle.al_link.proofs.sizes.objects_size.Goals as goal

pub loop-object-preserved : goal.loop-object-preserved
loop-object-preserved c =
    let x : ImageObject = c.object-item.result in
    let i : ℕ = c.loop-object.object-index in
    let len : length c.as_slice.result.now ≡ length x.name = ap (λ (name : List ℕ). length name) c.as_slice.ensures in
    let fits : IsObject x = subst (λ (o : ImageObject). IsObject o) (sym c.object-item.is) (c.requires.names i x c.loop-object-test.true) in
    let short : length x.name ≤ 255 = fits.0.1 in
    record {
      size = object_counted c.args.objects.now i c.loop-object.size (length c.as_slice.result.now) x c.loop-object-test.true c.object-item.is len c.loop-object.invariant.size;
      small = omega (arith, len, short, c.loop-object.invariant.small);
    }
