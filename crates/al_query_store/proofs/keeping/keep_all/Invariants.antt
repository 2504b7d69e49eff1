use Rattle.std.proofs.Common.{◌≡◌, ℕ, nat_eq, take, if◌then◌else◌}
use Rattle.std.specs.List.{list_any}
use Rattle.std.specs.Option.{option_map}
use Rattle.slab.specs.Slab.{get}
use Rattle.al_query_store.specs.Stored.{kept}
use Rattle.al_query_store.proofs.keeping.keep_all.Given as goal

abbrev pub invariant-loop-key : goal.invariant-loop-key
invariant-loop-key g l = (k : ℕ) → get l.entries k ≡ (if list_any (nat_eq k) (take l.key-index l.keys) then option_map kept (get l.initial.entries k) else get l.initial.entries k)
