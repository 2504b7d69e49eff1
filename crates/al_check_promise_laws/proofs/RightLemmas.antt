-- A predicate of what may be right.
use Rattle.std.proofs.Common.{Option, Some, None, Result, Ok, Err}
use Rattle.std.specs.Bool.{⊤}
use Rattle.al_base_fault.specs.Judging.{both, next, map_ok, unless}
use Rattle.al_base_fault.specs.declared.fault.Fault.{Fault}

abbrev pub Judged : Type 0 → Type 0
Judged X = Result X Fault

module _ {X : Type 0} (P : X → Type 0) where
  -- what may be right
  abbrev pub Right : Judged X → Type 0
  Right (Ok x) = P x
  Right (Err f) = ⊤

  pub right-unless : (f : Option Fault) (j : Judged X) → Right j → Right (unless f j)
  right-unless None j a = a
  right-unless (Some f) (Ok x) a = tt
  right-unless (Some f) (Err g) a = tt

module _ {X Y : Type 0} (P : X → Type 0) (Q : Y → Type 0) where
  pub right-both : (a : Judged X) (b : Judged Y) → Right P a → Right Q b → Right (λ p. P p.0 × Q p.1) (both a b)
  right-both (Ok a) (Ok b) p q = (p, q)
  right-both (Ok a) (Err g) p q = tt
  right-both (Err f) (Ok b) p q = tt
  right-both (Err f) (Err g) p q = tt

  pub right-next : (a : Judged X) (f : X → Judged Y) → Right P a → ((x : X) → P x → Right Q (f x)) → Right Q (next a f)
  right-next (Ok a) f p h = h a p
  right-next (Err g) f p h = tt

  pub right-seen : (see : X → Y) (a : Judged X) → Right P a → ((x : X) → P x → Q (see x)) → Right Q (map_ok see a)
  right-seen see (Ok a) p h = h a p
  right-seen see (Err g) p h = tt
