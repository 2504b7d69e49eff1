-- How compound names are spelled.
use Rattle.std.specs.Prelude.{ℕ, List, ◌∷◌, ◌++◌}
use Rattle.al_tree.specs.declared.names.Identifier.{Identifier}

-- one more identifier, after a dot
abbrev pub with_selector : List ℕ → Identifier → List ℕ
with_selector spelled i = spelled ++ 46 ∷ i.name
