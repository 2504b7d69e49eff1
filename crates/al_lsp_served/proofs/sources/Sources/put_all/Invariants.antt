use Rattle.std.proofs.Common.{◌≡◌, ◌<◌, ℕ, List, None, drop, length}
use Rattle.al_base.specs.Files.{text_of}
use Rattle.al_lsp_served.specs.Documents.{KeepsOver}
use Rattle.al_lsp_served.specs.Named.{held}
use Rattle.al_lsp_served.specs.Steps.{KeepsStep}
use Rattle.al_lsp_served.proofs.sources.Sources.put_all.Given as goal

abbrev pub invariant-loop-name : goal.invariant-loop-name
invariant-loop-name g l = record {
  step : KeepsStep g.L.DiagnosedLibrary.files l.fn.self.library l.fn.self.texts l.self.library l.self.texts;
  over : KeepsOver l.open l.fn.self.texts l.open l.self.texts;
  overlaid : g.L.DiagnosedLibrary.files l.fn.self.library ≡ l.fn.self.texts
      → ((name : List ℕ) → held l.open name ≡ None → text_of l.now name ≡ None → text_of l.fn.self.texts name ≡ None)
      → length l.self.texts < 4096
      → (name : List ℕ) → held l.open name ≡ None → text_of (drop l.name-index l.now) name ≡ None → text_of l.self.texts name ≡ text_of l.now name;
}
