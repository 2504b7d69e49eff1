-- The outline of a text.
use Rattle.std.specs.Prelude.{◌≡◌, ℕ, List, map}
use Rattle.std.specs.List.{All}
use Rattle.serde_json.specs.Data.{Data}
use Rattle.al_lsp.specs.declared.position.Counting.{Counting}
use Rattle.al_lsp_outline.specs.Nested.{AreNested, HasName}
use Rattle.al_lsp_outline.specs.Units.{text_declared}
use Rattle.al_lsp_outline.specs.declared.range.Symbol.{Symbol}
use Rattle.al_lsp_listing.specs.Listed.{listed}

-- what the text's tree declares is listed, with ranges of which each holds those of what is declared inside
pub record IsOutline (counting : Counting) (text : List ℕ) (d : Data) : Type 0 where
  pub symbols : List Symbol
  pub declared : map (λ (s : Symbol). s.declared) symbols ≡ text_declared text
  pub names : All HasName symbols
  pub nested : AreNested symbols
  pub listed : d ≡ listed counting text symbols
