use Rattle.std.proofs.Common.{◌≡◌, take}
use Rattle.al_view_predefined.proofs.copies.copied_components.Given as goal

abbrev pub invariant-loop-component : goal.invariant-loop-component
invariant-loop-component l = l.copies ≡ take l.component-index l.of
