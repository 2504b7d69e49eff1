-- The refusals with their numbers.
use Rattle.std.specs.Prelude.{ℕ}
use Rattle.al_base.specs.declared.refusal.Refusal.{Refusal}
use Rattle.al_base.specs.declared.refusal.Refusal.TheVariants.{BadName, NoFile, FileExists, TooManyFiles, TextTooLong, NotBuilt, NoImage, BadCommand, BadLength, NoMemory}

abbrev pub number_of : Refusal → ℕ
number_of BadName = 1
number_of NoFile = 2
number_of FileExists = 3
number_of TooManyFiles = 4
number_of TextTooLong = 5
number_of NotBuilt = 6
number_of NoImage = 7
number_of BadCommand = 8
number_of BadLength = 9
number_of NoMemory = 10
