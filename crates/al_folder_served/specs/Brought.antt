-- Files that are replaced by others.
use Rattle.std.specs.Prelude.{is_some}
use Rattle.std.specs.List.{filter}
use Rattle.al_base.specs.Files.{Texts, text_of}

-- the files that were read before and are read again, under their names
abbrev pub still_there : Texts → Texts → Texts
still_there now before = filter (λ file. is_some (text_of now file.0)) before
