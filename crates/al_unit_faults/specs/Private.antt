-- The mentions of private children that aren't allowed (ARM 10.1.1(12), 10.1.2(8)), as they are computed.
use Rattle.std.specs.Prelude.{ℕ, Bool, true, false, not, ◌&&◌, ◌||◌, List, Option}
use Rattle.std.specs.Bool.{Decides}
use Rattle.std.specs.Option.{option_map_or}
use Rattle.std.specs.List.{list_any}
use Rattle.std.specs.Str.{bytes_eq}
use Rattle.al_base.specs.Batch.{Finding}
use Rattle.al_base.specs.declared.unit_key.UnitKind.TheVariants.{Decl}
use Rattle.al_unit_graph.specs.Headers.{Mention, Header, Library, kind_of}
use Rattle.al_unit_graph.specs.Names.{ancestors, lineage, parent_of}
use Rattle.al_unit_graph.specs.Library.{unit_at, is_kind, acts_as_declaration}
use Rattle.al_unit_graph.specs.Faults.{MayMentionChildrenOf}
use Rattle.al_unit_graph.specs.FaultLists.{finding_if}
use Rattle.al_unit_faults.specs.Parts.{part_of}

-- the declaration of this name is sound and private
abbrev pub is_private : Library → List ℕ → Bool
is_private lib name = option_map_or (λ h. h.is_private) (unit_at lib (name, Decl)) false

abbrev pub is_one_of : List (List ℕ) → List ℕ → Bool
is_one_of names name = list_any (λ n. bytes_eq n name) names

-- each unit descends from Standard
abbrev pub descends : List ℕ → Option (List ℕ) → Bool
descends name ancestor = option_map_or (is_one_of (lineage name)) ancestor true

abbrev pub descends_below : List ℕ → Option (List ℕ) → Bool
descends_below name ancestor = option_map_or (is_one_of (ancestors name)) ancestor true

-- it, or a unit between it and the ancestor, is private
abbrev pub is_private_descendant : Library → List ℕ → Option (List ℕ) → Bool
is_private_descendant lib name ancestor = list_any (λ between. is_private lib between && descends_below between ancestor) (lineage name)

-- a body or a subunit, and not a body that acts as a declaration
abbrev pub is_behind_declaration : Library → Header → Bool
is_behind_declaration lib h = not (is_kind (kind_of h.form) Decl) && not (acts_as_declaration lib h)

-- for a unit that is part of this library unit
abbrev pub may_mention_as : Library → Header → Option (List ℕ) → List ℕ → Bool
may_mention_as lib h parent name = is_private_descendant lib name parent || (is_behind_declaration lib h && descends name parent)

-- the private children of this parent, None being Standard, may be mentioned in the unit
abbrev pub may_mention_children : Library → Header → Option (List ℕ) → Bool
may_mention_children lib h parent = option_map_or (may_mention_as lib h parent) (part_of lib h) false

-- a private child that may not be mentioned there
abbrev pub is_hidden : Library → Header → List ℕ → Bool
is_hidden lib h child = is_private lib child && not (may_mention_children lib h (parent_of child))

-- the unit that is mentioned, or one whose descendant it is, is hidden
abbrev pub private_faults : Library → List ℕ → Header → Mention → List Finding
private_faults lib file h m = finding_if (list_any (is_hidden lib h) (lineage m.name)) file m.place 204

-- the computed answer is that of the relation
abbrev pub MentionsAreDecided : Type 0
MentionsAreDecided = (lib : Library) (h : Header) (parent : Option (List ℕ)) → Decides (may_mention_children lib h parent) (MayMentionChildrenOf lib h parent)
