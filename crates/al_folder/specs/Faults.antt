-- Why a library without errors has no program.
use Rattle.std.specs.Prelude.{ℕ, ◌++◌, List, codes}
use Rattle.std.specs.List.{flat_map}
use Rattle.al_base.specs.Batch.{Key}
use Rattle.al_base_graph.specs.declared.edge.Reason.{Reason}
use Rattle.al_base_graph.specs.declared.edge.Reason.TheVariants.{Depends, Elaborate, ElaborateAll}
use Rattle.al_folder.specs.Parts.{part_words}

-- a part of the program that is missing, by its name
abbrev pub no_main : List ℕ → List ℕ
no_main name = codes "error: " ++ name ++ codes " is no procedure of the library without parameters\n"

abbrev pub no_body : List ℕ → List ℕ
no_body name = codes "error: the body of " ++ name ++ codes " is missing\n"

abbrev pub no_subunit : List ℕ → List ℕ
no_subunit name = codes "error: the subunit " ++ name ++ codes " is missing\n"

abbrev pub too_large : List ℕ
too_large = codes "error: the image is too large\n"

-- why an item comes after the one that was just named
abbrev pub reason_words : Reason → List ℕ
reason_words Depends = codes ", on which it depends\n"
reason_words Elaborate = codes ", which a pragma Elaborate names\n"
reason_words ElaborateAll = codes ", which a pragma Elaborate_All reaches\n"

-- one step of a cycle: an item, the one that it comes after, and why
abbrev pub step_line : Key × Key × Reason → List ℕ
step_line step = codes "  " ++ part_words step.0 ++ codes " after " ++ part_words step.1 ++ reason_words step.2

abbrev pub cycle_text : List (Key × Key × Reason) → List ℕ
cycle_text steps = codes "error: no order of elaboration\n" ++ flat_map step_line steps
