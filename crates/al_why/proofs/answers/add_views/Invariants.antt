use Rattle.std.proofs.Common.{◌≡◌, ◌++◌, map, take}
use Rattle.std.specs.List.{flat_map}
use Rattle.al_why.specs.Answers.{next}
use Rattle.al_why.specs.Views.{view_words}
use Rattle.al_why.proofs.answers.add_views.Given as goal

abbrev pub invariant-loop-view : goal.invariant-loop-view
invariant-loop-view l = l.text.items ≡ l.initial.text.items ++ flat_map next (map view_words (take l.view-index l.rest))
