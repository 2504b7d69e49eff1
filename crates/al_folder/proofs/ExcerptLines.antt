-- An excerpt of a line without a byte, and of another.
use Rattle.std.proofs.Common.{◌≡◌, ◌==◌, ℕ, Bool, true, false, List, [], length, ap}
use Rattle.std.specs.Prelude.{if◌then◌else◌}
use Rattle.al_folder.specs.Excerpts.{marked, excerpt}

pub excerpt_none : (place : ℕ) (line : List ℕ) → (length line == 0) ≡ true → excerpt place line ≡ []
excerpt_none place line is = ap (λ none. if none then [] else marked place line) is

pub excerpt_some : (place : ℕ) (line : List ℕ) → (length line == 0) ≡ false → excerpt place line ≡ marked place line
excerpt_some place line is = ap (λ none. if none then [] else marked place line) is
