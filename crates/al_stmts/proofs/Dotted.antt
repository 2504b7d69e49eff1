-- How compound names are spelled.
use Rattle.std.proofs.Common.{◌≡◌, ℕ, List, [], ◌∷◌, map, refl}
use Rattle.std.specs.Prelude.{fold}
use Rattle.al_tree.specs.Lexemes.{identifier_label}
use Rattle.al_tree.specs.declared.names.Identifier.{Identifier}
use Rattle.al_stmts.specs.Walking.{dotted}
use Rattle.al_stmts.specs.Spelled.{with_selector}

spelled : (s : List ℕ) (line col : ℕ) (xs : List Identifier) → fold with_selector s xs ≡ dotted (record { text = s; line = line; col = col }) (map identifier_label xs)
spelled s line col [] = refl
spelled s line col (x ∷ xs) = spelled (with_selector s x) line col xs

pub dotted_all : (first : Identifier) (xs : List Identifier) → fold with_selector first.name xs ≡ dotted (identifier_label first) (map identifier_label xs)
dotted_all first xs = spelled first.name first.place.line first.place.col xs
