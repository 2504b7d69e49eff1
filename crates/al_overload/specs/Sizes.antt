-- What is inside another thing is less deep.
use Rattle.std.specs.Prelude.{◌<◌}
use Rattle.al_overload.specs.declared.term.Labelled.{Labelled, size-Labelled}
use Rattle.al_overload.specs.declared.term.LabelledTerms.{LabelledTerms, size-LabelledTerms}
use Rattle.al_overload.specs.declared.term.Term.{Term, size-Term}
use Rattle.al_overload.specs.declared.term.Terms.{Terms, size-Terms}

abbrev pub IsWithin : Term → Terms → Type 0
IsWithin first all = size-Term first < size-Terms all

abbrev pub IsLabelledWithin : Labelled → LabelledTerms → Type 0
IsLabelledWithin first all = size-Labelled first < size-LabelledTerms all
