-- Names that a declaration declares, and names that it declares twice (ARM 8.3(26)).
use Rattle.std.specs.Prelude.{ℕ, List, [], ◌∷◌, ◌++◌, map, Option, Some, None, option_map, if◌then◌else◌}
use Rattle.std.specs.List.{find, list_any}
use Rattle.std.specs.Str.{bytes_eq}
use Rattle.al_base_fault.specs.declared.check_rule.CheckRule.TheVariants.{Duplicate}
use Rattle.al_base_fault.specs.Faults.{fault_at}
use Rattle.al_base_fault.specs.declared.fault.Fault.{Fault}
use Rattle.al_decl_judged.specs.declared.names.DefiningName.{DefiningName}

abbrev pub duplicate_at : DefiningName → Fault
duplicate_at n = fault_at n.place Duplicate

-- the first of these names that comes before it, among those before or among these
abbrev pub repeated : List DefiningName → List DefiningName → Option Fault
repeated before [] = None
repeated before (n ∷ ns) = if list_any (λ (m : DefiningName). bytes_eq m.name n.name) before then Some (duplicate_at n) else repeated (before ++ n ∷ []) ns

-- the first of these that has this name
abbrev pub named_so : List ℕ → List DefiningName → Option Fault
named_so name names = option_map duplicate_at (find (λ (n : DefiningName). bytes_eq n.name name) names)

abbrev pub names_of : List DefiningName → List (List ℕ)
names_of names = map (λ (n : DefiningName). n.name) names
