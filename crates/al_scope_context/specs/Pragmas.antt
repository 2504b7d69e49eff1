-- Which pragmas are right (ARM 2.8, 10.2.1).
use Rattle.std.specs.Prelude.{ℕ, Bool, true, false, ◌&&◌, List, [], ◌∷◌, codes, Option, Some, None, if◌then◌else◌}
use Rattle.std.specs.Str.{bytes_eq}
use Rattle.al_base_fault.specs.declared.check_rule.CheckRule.TheVariants.{BadPragma}
use Rattle.al_tree_grammar.specs.Grammar.{Label}
use Rattle.al_base_fault.specs.Faults.{fault_at}
use Rattle.al_base_fault.specs.declared.fault.Fault.{Fault}
use Rattle.al_overload_lookup.specs.Places.{place_of}
use Rattle.al_tree_syntax.specs.DeclarationTrees.{CompoundNameTree, PragmaArgumentsTree, PragmaTree}

-- E307 at the pragma's identifier, unless it is right
abbrev pub unless_right : Bool → PragmaTree → Option Fault
unless_right right p = if right then None else Some (fault_at (place_of p.name) BadPragma)

-- a name of this identifier alone
abbrev pub is_alone : List ℕ → List Label → List ℕ → Bool
is_alone first [] name = bytes_eq first name
is_alone first (l ∷ ls) name = false

-- no argument, or the name alone
abbrev pub names_only : List ℕ → Option PragmaArgumentsTree → Bool
names_only name None = true
names_only name (Some a) = is_one a.names.others
  where
    is_one : List CompoundNameTree → Bool
    is_one [] = is_alone a.names.first.first.text a.names.first.selectors name
    is_one (n ∷ ns) = false

-- Elaborate_Body with the last identifier of the package's name as its argument or with none, where one is allowed: before every declaration of
-- that library package (ARM 10.2.1(20))
abbrev pub is_elaborate_body : Option (List ℕ) → PragmaTree → Bool
is_elaborate_body None p = false
is_elaborate_body (Some name) p = bytes_eq p.name.text (codes "elaborate_body") && names_only name p.arguments

-- what is wrong with a pragma among declarations
abbrev pub pragma_fault : Option (List ℕ) → PragmaTree → Option Fault
pragma_fault name p = unless_right (is_elaborate_body name p) p
