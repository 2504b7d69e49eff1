-- Which diagnostics of a build are shown.
use Rattle.std.specs.Prelude.{Bool, not, ◌||◌, ◌==◌, List}
use Rattle.std.specs.List.{filter}
use Rattle.al_base.specs.declared.diagnostic.Diagnostic.{Diagnostic}

-- a diagnostic that only says that others are to be mended first
abbrev pub waits_for_others : Diagnostic → Bool
waits_for_others d = d.code == 208

-- those that are shown, in their order: all of them, or those that say what is wrong
abbrev pub shown : Bool → List Diagnostic → List Diagnostic
shown lists_all found = filter (λ d. lists_all || not (waits_for_others d)) found
