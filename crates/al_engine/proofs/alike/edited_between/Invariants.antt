use Rattle.std.proofs.Common.{◌≡◌, ℕ, ◌<◌, List, get_or, map}
use Rattle.al_engine.proofs.Files.{Known}
use Rattle.al_engine.proofs.alike.edited_between.Given as goal

abbrev pub invariant-loop-file : goal.invariant-loop-file
invariant-loop-file l = (k : ℕ) → k < l.file-index → (file : List ℕ) → get_or (map (λ n. n.now) l.file-items) k file ≡ file → Known l.old l.new l.edited file
