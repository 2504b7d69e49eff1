-- What a dependence comes from.
use Rattle.std.specs.Prelude.{ℕ, Bool, false, List, if◌then◌else◌}
use Rattle.std.specs.Option.{option_map_or}
use Rattle.std.specs.Str.{bytes_eq}
use Rattle.al_unit_graph.specs.Names.{parent_of}
use Rattle.al_folder_served.specs.declared.why.Why.{Why}
use Rattle.al_folder_served.specs.declared.why.Why.TheVariants.{Completed, Parent, With}

-- the second name is that of the first one's parent
abbrev pub is_parent : List ℕ → List ℕ → Bool
is_parent name other = option_map_or (λ parent. bytes_eq parent other) (parent_of name) false

-- an item with the first name depends on a declaration with the second one: it is the body of that; or its child; or a with clause names that
abbrev pub why_of : List ℕ → List ℕ → Why
why_of name other = if bytes_eq name other then Completed else if is_parent name other then Parent else With
