-- Several terms.
use Rattle.std.specs.Prelude.{List, map, Vec}
use Rattle.std.specs.declared.alloc.Global.{Global}
use Rattle.al_overload.specs.Terms.{TermTree}
use Rattle.al_overload.specs.TermViews.{term_model}
use Rattle.al_overload.specs.declared.heads_term.Term.{Term}

abbrev pub all_model : Vec Term Global → List TermTree
all_model terms = map term_model terms.items

abbrev pub pair_model : Term × Term → TermTree × TermTree
pair_model x = (term_model x.0, term_model x.1)
