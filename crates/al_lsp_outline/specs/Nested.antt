-- Ranges of declarations.
use Rattle.std.specs.Prelude.{ℕ, ◌<◌, ◌≤◌, List, [], ◌∷◌, ⊤}
use Rattle.al_lsp_outline.specs.declared.range.Extent.{Extent}
use Rattle.al_lsp_outline.specs.declared.range.Symbol.{Symbol}

pub record IsWithin (inner outer : Extent) : Type 0 where
  pub from : outer.from ≤ inner.from
  pub to : inner.to ≤ outer.to

-- the identifier that it declares is in its range
abbrev pub HasName : Symbol → Type 0
HasName s = IsWithin s.name s.whole

-- an extent holds the ranges of all declarations in front of a list that are deeper than this
abbrev pub HoldsDeeper : ℕ → Extent → List Symbol → Type 0
HoldsDeeper depth whole [] = ⊤
HoldsDeeper depth whole (s ∷ ss) = depth < s.declared.depth → IsWithin s.whole whole × HoldsDeeper depth whole ss

-- each range holds those of what is declared inside, which follows and is deeper
abbrev pub AreNested : List Symbol → Type 0
AreNested [] = ⊤
AreNested (s ∷ ss) = HoldsDeeper s.declared.depth s.whole ss × AreNested ss
