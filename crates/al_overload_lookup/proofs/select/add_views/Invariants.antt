use Rattle.std.proofs.Common.{◌≡◌, take}
use Rattle.al_overload_lookup.specs.Lookups.{with_views}
use Rattle.al_overload_lookup.proofs.select.add_views.Given as goal

abbrev pub invariant-loop-view : goal.invariant-loop-view
invariant-loop-view l = l.views ≡ with_views l.initial.views l.name (take l.view-index l.found)
