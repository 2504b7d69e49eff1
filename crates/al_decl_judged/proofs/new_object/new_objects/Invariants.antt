use Rattle.std.proofs.Common.{◌≡◌, ◌++◌, take, drop}
use Rattle.al_base_fault.specs.Judging.{map_ok}
use Rattle.al_decl_judged.specs.DefiningNames.{names_of}
use Rattle.al_decl_judged.specs.Objects.{new_objects}
use Rattle.al_decl_judged.specs.Progressing.{with_all_counted}
use Rattle.al_decl_judged.proofs.new_object.new_objects.Given as goal

-- the names so far are counted, and their objects come before those of the others
abbrev pub invariant-loop-name : goal.invariant-loop-name
invariant-loop-name l =
    (l.progress ≡ with_all_counted l.fn.progress (names_of (take l.name-index l.names)))
    × (map_ok (λ os. l.objects ++ os) (new_objects l.progress l.of (drop l.name-index l.names)) ≡ new_objects l.fn.progress l.of l.names)
