-- The words of refusals.
use Rattle.std.specs.Prelude.{ℕ, List, codes}
use Rattle.al_base.specs.declared.refusal.Refusal.{Refusal}
use Rattle.al_base.specs.declared.refusal.Refusal.TheVariants.{BadName, NoFile, FileExists, TooManyFiles, TextTooLong, NotBuilt, NoImage, BadCommand, BadLength, NoMemory}

abbrev pub word_of : Refusal → List ℕ
word_of BadName = codes "bad-name"
word_of NoFile = codes "no-file"
word_of FileExists = codes "file-exists"
word_of TooManyFiles = codes "too-many-files"
word_of TextTooLong = codes "text-too-long"
word_of NotBuilt = codes "not-built"
word_of NoImage = codes "no-image"
word_of BadCommand = codes "bad-command"
word_of BadLength = codes "bad-length"
word_of NoMemory = codes "no-memory"
