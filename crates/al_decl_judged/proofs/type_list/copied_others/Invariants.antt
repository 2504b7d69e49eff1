use Rattle.std.proofs.Common.{◌≡◌, take}
use Rattle.al_decl_judged.specs.TypeLists.{other_types}
use Rattle.al_decl_judged.proofs.type_list.copied_others.Given as goal

abbrev pub invariant-loop-of : goal.invariant-loop-of
invariant-loop-of l = l.others ≡ other_types (take l.of-index l.types)
