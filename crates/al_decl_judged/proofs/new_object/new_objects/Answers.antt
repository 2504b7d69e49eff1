use Rattle.std.proofs.Common.{◌≡◌, ◌+◌, List, ◌++◌, drop, Result, Ok, sym, ◌∙◌, ap}
use Rattle.al_base_fault.specs.Judging.{map_ok}
use Rattle.al_decl_judged.specs.declared.new_object.NewObject.{NewObject}
use Rattle.al_decl_judged.specs.Objects.{new_object, new_objects}
use Rattle.al_decl_judged.proofs.NewObjectLemmas.{counted_more, objects_more}
use Rattle.al_decl_judged.proofs.new_object.new_objects.Goals as goal

pub loop-name-preserved : goal.loop-name-preserved
loop-name-preserved c =
    let first = c.args.progress.now in
    let now = c.loop-name.progress in
    let new = c.new_object.new.progress in
    let names = c.args.names.now in
    let of = c.args.of.now in
    let i = c.loop-name.name-index in
    let n = c.name-item.result in
    let inside = c.loop-name-test.true in
    let is = c.name-item.is in
    let counted = c.in_ok-object.ensures.counted in
    let right : Ok c.in-Ok.object ≡ new_object now of n = sym c.in-Ok.is ∙ c.in_ok-object.ensures.checked in (
      counted_more first now new names i n inside is counted c.loop-name.invariant.0,
      ap (λ (l : List NewObject). map_ok (λ (os : List NewObject). l ++ os) (new_objects new of (drop (i + 1) names))) c.in_ok-push.ensures
          ∙ objects_more now new of names i n c.loop-name.objects c.in-Ok.object (new_objects first of names) inside is counted right c.loop-name.invariant.1,
    )
