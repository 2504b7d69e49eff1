use Rattle.al_decl_judged.proofs.PlaceLemmas.{declared_more, places_more, taken_more}
use Rattle.al_decl_judged.proofs.object.place_objects.Goals as goal

pub loop-object-preserved : goal.loop-object-preserved
loop-object-preserved c =
    let first = c.args.progress.now in
    let now = c.loop-object.progress in
    let objects = c.args.objects.now in
    let i = c.loop-object.object-index in
    let o = c.object-item.result in
    let inside = c.loop-object-test.true in
    let is = c.object-item.is in
    let placed = c.loop-object.placed in
    let new = c.place_object.new.placed in
    let so_far = c.loop-object.invariant.0 in (
      taken_more first now c.place_object.new.progress objects i o inside is c.in_ok-place_object.ensures.taken so_far,
      declared_more first now c.args.is_constant c.args.value objects i o placed.declarations new.declarations inside is c.in_ok-place_object.ensures.declarations so_far c.loop-object.invariant.1,
      places_more first now objects i o placed.places new.places inside is c.in_ok-place_object.ensures.places so_far c.loop-object.invariant.2,
    )
