-- The meaning of Ada files to the program.
use Rattle.al_session_served.specs.Library.{LibraryMeaning}
use Rattle.al_session.specs.Meanings.{library_meaning}
use Rattle.al_check_bounded.specs.Meanings.{text_meaning}
use Rattle.al_check.specs.Ada.{ada_names, ada_units, ada_verdict}
use Rattle.al_unit.specs.Texts.{header_in}

-- compiling from nothing, with the check that asks these units for a unit and gives it this verdict
abbrev pub ada_meaning : LibraryMeaning
ada_meaning = library_meaning (text_meaning ada_units ada_names ada_verdict) header_in
