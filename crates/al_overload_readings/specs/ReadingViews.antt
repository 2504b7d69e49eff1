-- What the program's readings are as plain data.
use Rattle.al_overload.specs.TermViews.{term_model}
use Rattle.al_overload_readings.specs.Readings.{ReadTree, ReadTree as trees}
use Rattle.al_overload_readings.specs.declared.reading.Reading.{Reading}
use Rattle.al_overload_readings.specs.declared.reading.Reading.TheVariants as readings

abbrev pub reading_model : Reading → ReadTree
reading_model (readings.Name p key vs) = trees.NameRead p key.items vs
reading_model (readings.Value t) = trees.TermRead (term_model t)
reading_model (readings.Function p c s) = trees.FunctionRead p c s
reading_model (readings.Image p s) = trees.ImageRead p s
reading_model (readings.Range p s) = trees.RangeRead p s
