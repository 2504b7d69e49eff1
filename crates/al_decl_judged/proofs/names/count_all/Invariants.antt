use Rattle.std.proofs.Common.{◌≡◌, take}
use Rattle.al_decl_judged.specs.DefiningNames.{names_of}
use Rattle.al_decl_judged.specs.Progressing.{with_all_counted}
use Rattle.al_decl_judged.proofs.names.count_all.Given as goal

abbrev pub invariant-loop-name : goal.invariant-loop-name
invariant-loop-name l = l.progress ≡ with_all_counted l.fn.progress (names_of (take l.name-index l.names))
