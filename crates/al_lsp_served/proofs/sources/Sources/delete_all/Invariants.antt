use Rattle.std.proofs.Common.{◌≡◌, ℕ, List, None, drop}
use Rattle.al_base.specs.FileLaws.{Ascend}
use Rattle.al_base.specs.Files.{text_of}
use Rattle.al_lsp_served.specs.Documents.{KeepsOver}
use Rattle.al_lsp_served.specs.Named.{held}
use Rattle.al_lsp_served.specs.Steps.{KeepsStep}
use Rattle.al_lsp_served.proofs.sources.Sources.delete_all.Given as goal

abbrev pub invariant-loop-name : goal.invariant-loop-name
invariant-loop-name g l = record {
  step : KeepsStep g.L.DiagnosedLibrary.files l.fn.self.library l.fn.self.texts l.self.library l.self.texts;
  over : KeepsOver l.open l.fn.self.texts l.open l.self.texts;
  ascend : Ascend l.self.texts;
  gone : (name : List ℕ) → (held l.open name ≡ None) × (text_of l.now name ≡ None) → text_of (drop l.name-index l.fn.self.texts) name ≡ None → text_of l.self.texts name ≡ None;
}
