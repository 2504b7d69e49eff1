-- A reading of the code, as the definitions see it.
use Rattle.al_tree.specs.UnitViews.{unit_model}
use Rattle.al_unit.specs.Readings.{Reading as AnyReading, Reading as readings}
use Rattle.al_unit.specs.declared.reading.Reading.{Reading}
use Rattle.al_unit.specs.declared.reading.Reading.TheVariants.{Sentence, Fails}

abbrev pub reading_model : Reading → AnyReading
reading_model (Sentence unit) = readings.Sentence (unit_model unit)
reading_model (Fails place code) = readings.Fails place code
