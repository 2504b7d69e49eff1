-- What the test means.
use Rattle.std.specs.Prelude.{◌↔◌, List, IsTrue}
use Rattle.al_stmts.specs.Choosing.{AreRight}
use Rattle.al_stmts.specs.declared.choice.Choice.{Choice}
use Rattle.al_stmts.specs.declared.choice.Selector.{Selector}
use Rattle.al_stmts_right_choices.specs.ChoicesTest.{choices_right}

abbrev pub TheTestDecides : Type 0
TheTestDecides = (selector : Selector) (alternatives : List (List Choice)) → IsTrue (choices_right selector alternatives) ↔ AreRight selector alternatives
