-- Which pragmas are right in a context clause (ARM 10.2.1).
use Rattle.std.specs.Prelude.{ℕ, Bool, false, ◌&&◌, ◌||◌, List, ◌∷◌, ◌++◌, codes, Option, Some, None}
use Rattle.std.specs.List.{flat_map, list_all, list_any}
use Rattle.std.specs.Str.{bytes_eq}
use Rattle.al_base.specs.declared.unit_key.UnitKey.{UnitKey}
use Rattle.al_base_fault.specs.declared.fault.Fault.{Fault}
use Rattle.al_tree_syntax.specs.DeclarationTrees.{CompoundNameTree, PragmaArgumentsTree, PragmaTree}
use Rattle.al_scope_context.specs.Pragmas.{unless_right}

-- the identifiers of a name, with dots between them
abbrev pub full_name : CompoundNameTree → List ℕ
full_name n = n.first.text ++ flat_map (λ l. 46 ∷ l.text) n.selectors

-- a unit that a with clause names
abbrev pub is_withed : List UnitKey → CompoundNameTree → Bool
is_withed withs n = list_any (λ u. bytes_eq (full_name n) u.name) withs

abbrev pub all_withed : List UnitKey → Option PragmaArgumentsTree → Bool
all_withed withs None = false
all_withed withs (Some a) = is_withed withs a.names.first && list_all (is_withed withs) a.names.others

-- Elaborate or Elaborate_All of units that earlier with clauses name (ARM 10.2.1(20 to 22))
abbrev pub is_elaborate : List UnitKey → PragmaTree → Bool
is_elaborate withs p = (bytes_eq p.name.text (codes "elaborate") || bytes_eq p.name.text (codes "elaborate_all")) && all_withed withs p.arguments

-- what is wrong with a pragma in a context clause, after with clauses of these units
abbrev pub context_pragma_fault : List UnitKey → PragmaTree → Option Fault
context_pragma_fault withs p = unless_right (is_elaborate withs p) p
