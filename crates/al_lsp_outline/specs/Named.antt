-- Declarations and their names, as an editor lists them.
use Rattle.std.specs.Prelude.{ℕ, ◌+◌, ◌-◌, ◌^◌, min, List, [], ◌∷◌, map, Option, Some, None, unwrap_or}
use Rattle.std.specs.List.{last_or}
use Rattle.al_base.specs.declared.place.Place.{Place}
use Rattle.al_tree_grammar.specs.Grammar.{Label}
use Rattle.al_tree_syntax.specs.DeclarationTrees.{CompoundNameTree, FormalTree, FormalPartTree, IdentifiersTree, SpecificationTree, SpecificationTree as specifications}
use Rattle.al_lsp_outline.specs.declared.declared.Declared.{Declared}
use Rattle.al_lsp_outline.specs.declared.declared.DeclaredKind.{DeclaredKind}

abbrev pub place_in : Label → Place
place_in l = record { line = l.line; col = l.col }

-- without its spelling
abbrev pub placed : Label → Label
placed l = record { text = []; line = l.line; col = l.col }

-- a name that begins with one identifier and ends with another, which is declared, in a declaration with these last words
abbrev pub declared : DeclaredKind → ℕ → Label → Label → Label → Declared
declared kind depth first name last = record { kind = kind; depth = depth; first = place_in first; name = place_in name; last = place_in last }

-- an identifier, behind which no semicolon is in its declaration
abbrev pub named : DeclaredKind → ℕ → Label → Declared
named kind depth l = declared kind depth l l l

abbrev pub all_named : DeclaredKind → ℕ → IdentifiersTree → List Declared
all_named kind depth names = named kind depth names.first ∷ map (named kind depth) names.others

abbrev pub last_identifier : CompoundNameTree → Label
last_identifier n = unwrap_or (last_or None n.selectors) n.first

abbrev pub compound : DeclaredKind → ℕ → CompoundNameTree → Label → Declared
compound kind depth n last = declared kind depth n.first (last_identifier n) last

-- of what is declared inside
abbrev pub deeper : ℕ → ℕ
deeper depth = min (depth + 1) (2 ^ 32 - 1)

-- the name in a specification (ARM 6.1)
abbrev pub compound_name : SpecificationTree → CompoundNameTree
compound_name (specifications.ProcedureSpecification p n f) = n
compound_name (specifications.FunctionSpecification p n f r m) = n

abbrev pub last_formal : FormalPartTree → FormalTree
last_formal part = unwrap_or (last_or None part.others) part.first

-- a place in a specification behind which no semicolon is
abbrev pub last_of : SpecificationTree → Label
last_of (specifications.ProcedureSpecification p n None) = placed p
last_of (specifications.ProcedureSpecification p n (Some part)) = placed (last_formal part).mark.first
last_of (specifications.FunctionSpecification p n f r m) = placed r
