-- Semantic dependence (ARM 10.1.1(26)).
use Rattle.std.specs.Prelude.{◌&&◌, ℕ, List, [], ◌∷◌, ◌++◌, Option, Some, None, if◌then◌else◌}
use Rattle.std.specs.Option.{option_and_then, option_map_or}
use Rattle.std.specs.List.{Contains, flat_map}
use Rattle.al_base.specs.Batch.{Key}
use Rattle.al_base.specs.declared.unit_key.UnitKind.TheVariants.{Decl}
use Rattle.al_unit_graph.specs.Headers.{Mention, Header, Library, is_library_body}
use Rattle.al_unit_graph.specs.Names.{lineage, parent_of}
use Rattle.al_unit_graph.specs.Library.{unit_at, has_declaration_file, declaration_of, parent_body_of}

abbrev pub listed : {X : Type 0} → Option X → List X
listed None = []
listed (Some x) = x ∷ []

-- the declaration of the parent
abbrev pub parent_declaration : Library → List ℕ → List Key
parent_declaration lib name = listed (option_and_then (declaration_of lib) (parent_of name))

-- the declaration that a body completes, if that is another file's
abbrev pub own_declaration : Library → Header → List Key
own_declaration lib h = if is_library_body h.form && has_declaration_file lib h.name then (h.name, Decl) ∷ [] else []

-- a subunit depends on its parent body, other units on their parent's declaration and on their own
abbrev pub parent_dependences : Library → Header → Option Mention → List Key
parent_dependences lib h None = parent_declaration lib h.name ++ own_declaration lib h
parent_dependences lib h (Some parent) = listed (parent_body_of lib parent.name)

-- the declaration of a unit, if there is one
abbrev pub declared : Library → List ℕ → List Key
declared lib name = listed (declaration_of lib name)

-- the declarations of a mentioned unit and of its ancestors
abbrev pub mention_dependences : Library → Mention → List Key
mention_dependences lib m = flat_map (declared lib) (lineage m.name)

unfoldable pub dependences : Library → Header → List Key
dependences lib h = parent_dependences lib h h.parent_body ++ flat_map (mention_dependences lib) h.mentions

-- what a unit of this key depends on by itself; none if there is no such unit
abbrev pub direct : Library → Key → List Key
direct lib key = option_map_or (dependences lib) (unit_at lib key) []

-- the least transitive relation that holds of each unit and what it depends on by itself
pub data DependsOn (lib : Library) : Key → Key → Type 0 where
  directly : {x y : Key} → Contains (direct lib x) y → DependsOn lib x y
  through : {x y z : Key} → DependsOn lib x y → DependsOn lib y z → DependsOn lib x z
