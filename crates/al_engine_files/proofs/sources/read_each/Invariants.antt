use Rattle.std.proofs.Common.{◌≡◌, ℕ, ◌<◌, List, get_or, map, take}
use Rattle.std.specs.Prelude.{IsTrue}
use Rattle.al_unit.specs.Libraries.{library_of}
use Rattle.al_engine_files.specs.AdaFiles.{IsKnown}
use Rattle.al_engine_files.proofs.sources.read_each.Given as goal

abbrev pub invariant-loop-name : goal.invariant-loop-name
invariant-loop-name l =
    (l.sources ≡ library_of (map (λ f. (f.0.now, f.1.now.value.items)) (take l.name-index l.name-items)))
    × (IsTrue l.are_alike → (k : ℕ) → k < l.name-index → (e : List ℕ × List ℕ) → get_or (map (λ f. (f.0.now, f.1.now.value.items)) l.name-items) k e ≡ e → IsKnown l.before l.edited e)
