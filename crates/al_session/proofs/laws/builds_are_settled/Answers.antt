use Rattle.al_unit.specs.Libraries.{library_of}
use Rattle.al_engine_files.specs.PredefinedUnits.{predefined_answer}
use Rattle.al_session.specs.Settled.{is_settled}
use Rattle.al_session.proofs.laws.builds_are_settled.Goals as goal

pub returns : goal.returns
returns g c = is_settled g.C.UnitCheck.meaning g.C.Text.ReadText.header predefined_answer library_of
