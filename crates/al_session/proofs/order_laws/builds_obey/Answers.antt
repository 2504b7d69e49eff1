use Rattle.std.proofs.Common.{subst}
use Rattle.std.specs.Prelude.{IfSome}
use Rattle.al_unit.specs.Libraries.{library_of}
use Rattle.al_engine_files.specs.PredefinedUnits.{predefined_answer}
use Rattle.al_session.specs.EngineMeanings.{Compiles}
use Rattle.al_session.proofs.Obeyed.{gave_obeys}
use Rattle.al_session.proofs.order_laws.builds_obey.Goals as goal

pub returns : goal.returns
returns g c = λ tick at_end commands marks bytes all last order session built is.
    let meaning = g.C.UnitCheck.meaning in
    let header = g.C.Text.ReadText.header in
    let right = c.builds_are_right.ensures tick at_end commands marks bytes all session in
    let compiled = subst (λ b. IfSome b (λ l. Compiles meaning header predefined_answer library_of l.files l.main l.gave)) built right in
    gave_obeys c.orders_of_texts_obey.ensures meaning header last.files last.main order last.gave compiled is
