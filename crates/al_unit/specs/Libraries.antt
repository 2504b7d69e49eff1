-- The units of a library's files, by what the files are read as.
use Rattle.std.specs.Prelude.{ℕ, List, map}
use Rattle.al_base.specs.Files.{Texts}
use Rattle.al_unit_header.specs.Units.{header_of}
use Rattle.al_unit_graph.specs.Headers.{Contents, Headed, Unread, Source, Library}
use Rattle.al_unit.specs.Readings.{Reading, reading_of}
use Rattle.al_unit.specs.Readings.Reading.{Sentence, Fails}

-- what the graph of units needs of a reading
abbrev pub contents_of : Reading → Contents
contents_of (Sentence u) = Headed (header_of u)
contents_of (Fails place code) = Unread place code

-- what the graph of units has of a file with this source
abbrev pub source_of : List ℕ → Source
source_of text = record { text = text; contents = contents_of (reading_of text) }

-- the library of the sources, by what each source is read as
unfoldable pub library_of : Texts → Library
library_of files = map (λ file. (file.0, source_of file.1)) files

-- the sources of a library
abbrev pub texts_of : Library → Texts
texts_of lib = map (λ file. (file.0, file.1.text)) lib
