use Rattle.std.proofs.Common.{◌≡◌, take}
use Rattle.std.specs.Prelude.{fold}
use Rattle.al_stmts.specs.Spelled.{with_selector}
use Rattle.al_stmts.proofs.walked_ends.select_all.Given as goal

abbrev pub invariant-loop-selector : goal.invariant-loop-selector
invariant-loop-selector l = l.spelled.items ≡ fold with_selector l.initial.spelled.items (take l.selector-index l.selectors)
