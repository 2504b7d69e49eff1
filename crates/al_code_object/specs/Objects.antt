-- Objects, and what each of them keeps.
use Rattle.std.specs.Prelude.{ℕ, ◌≡◌, ◌+◌, ◌<◌, ◌≤◌, List, All, length}
use Rattle.al_view.specs.declared.link.LinkKind.{LinkKind}
use Rattle.al_view.specs.declared.link.LinkKind.TheVariants as kind
use Rattle.al_instr.specs.declared.lines.LineEntry.{LineEntry}
use Rattle.al_instr.specs.Lines.{AreLines}
use Rattle.al_code_object.specs.declared.object.Address.{Address}
use Rattle.al_code_object.specs.declared.object.Region.{Region}
use Rattle.al_code_object.specs.declared.object.Relocation.{Relocation}
use Rattle.al_code_object.specs.Parts.{Part, code_of, uses_from, IsPart}

pub record CompiledCode : Type 0 where
  pub code : List ℕ
  pub uses : List Relocation
  pub defines : List Address
  pub data_words : ℕ
  pub tasks : ℕ
  pub protected : List Region
  pub lines : List LineEntry

-- the code is a list of instructions, and the uses are the places in it at which these use symbols
pub record IsCode (code : List ℕ) (uses : List Relocation) : Type 0 where
  pub parts : List Part
  pub are_parts : All IsPart parts
  pub code_is : code ≡ code_of parts
  pub uses_are : uses ≡ uses_from 0 parts

-- the place of a symbol is in its unit: at the end of its code at the latest, in or after its words, or as one of its protected
-- objects
abbrev pub StandsAt : CompiledCode → LinkKind → ℕ → Type 0
StandsAt o kind.Code offset = offset ≤ length o.code
StandsAt o kind.Gate offset = offset ≤ length o.code
StandsAt o kind.EntryBody offset = offset ≤ length o.code
StandsAt o kind.Flag offset = offset ≤ o.data_words
StandsAt o kind.Data offset = offset ≤ o.data_words
StandsAt o kind.Protected offset = offset < length o.protected

abbrev pub StandsIn : CompiledCode → Address → Type 0
StandsIn o a = StandsAt o a.symbol.kind a.offset

abbrev pub LiesIn : ℕ → Region → Type 0
LiesIn words r = r.word + r.words ≤ words

-- what each object keeps
pub record Keeps (o : CompiledCode) : Type 0 where
  pub code : IsCode o.code o.uses
  pub within : length o.code ≤ 16777216
  pub defines : All (StandsIn o) o.defines
  pub regions : All (LiesIn o.data_words) o.protected
  pub lines : AreLines (length o.code) o.lines
