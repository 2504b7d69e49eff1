-- Where nothing is wrong with a text, nothing is with its parts.
use Rattle.std.proofs.Common.{◌≡◌, refl, sym, subst, Bool, true, false, List, [], ◌∷◌, ◌++◌, Option, Some, None, Ok, Err, if◌then◌else◌}
use Rattle.std.specs.Bool.{⊤}
use Rattle.al_base_fault.specs.Judging.{next, unless}
use Rattle.al_base_fault.specs.declared.fault.Fault.{Fault}
use Rattle.al_stmts.specs.FaultLists.{followed, is_cut, round}
use Rattle.al_stmts.specs.declared.fault_list.FaultList.{FaultList}
use Rattle.al_stmts.specs.Checking.{compound}
use Rattle.al_view_typed.specs.StatementTrees.{StatementTree}
use Rattle.al_check_promise_laws.proofs.RightLemmas.{Judged}
use Rattle.al_check_promise_laws.proofs.AllLemmas.{All}

abbrev pub IsNil : {X : Type 0} → List X → Type 0
IsNil [] = ⊤
IsNil (x ∷ xs) = ⊥

abbrev pub IsNone : {X : Type 0} → Option X → Type 0
IsNone None = ⊤
IsNone (Some x) = ⊥

abbrev pub IsOk : {X : Type 0} → Judged X → Type 0
IsOk (Ok x) = ⊤
IsOk (Err f) = ⊥

abbrev pub Clean : FaultList → Type 0
Clean l = IsNil l.faults × IsNone l.end

pub all-split : {X : Type 0} (P : X → Type 0) (xs ys : List X) → All P (xs ++ ys) → All P xs × All P ys
all-split P [] ys a = (tt, a)
all-split P (x ∷ xs) ys a = let m = all-split P xs ys a.1 in ((a.0, m.0), m.1)

nil-append : {X : Type 0} (xs ys : List X) → IsNil (xs ++ ys) → IsNil xs × IsNil ys
nil-append [] ys k = (tt, k)
nil-append (x ∷ xs) ys k = absurd k

followed-none : (a b : FaultList) → a.end ≡ None → followed a b ≡ record { faults = a.faults ++ b.faults; end = b.end }
followed-none a b e = rw e refl

followed-some : (a b : FaultList) (f : Fault) → a.end ≡ Some f → followed a b ≡ a
followed-some a b f e = rw e refl

pub followed-clean : (a b : FaultList) → Clean (followed a b) → Clean a × Clean b
followed-clean a b k = at a.end refl
  where
    at : (o : Option Fault) → a.end ≡ o → Clean a × Clean b
    at None e =
        let m : Clean (record { faults = a.faults ++ b.faults; end = b.end }) = subst (λ (x : FaultList). Clean x) (followed-none a b e) k in
        let n = nil-append a.faults b.faults m.0 in
        ((n.0, subst (λ (x : Option Fault). IsNone x) (sym e) tt), (n.1, m.1))
    at (Some f) e =
        let m : Clean a = subst (λ (x : FaultList). Clean x) (followed-some a b f e) k in
        absurd (subst (λ (x : Option Fault). IsNone x) e m.1)

round-none : (f : Fault) (l : FaultList) → l.end ≡ None → round (Some f) l ≡ record { faults = f ∷ l.faults; end = l.end }
round-none f l e = rw e refl

round-wrong : (f : Fault) (l : FaultList) → Clean (round (Some f) l) → ⊥
round-wrong f l k = at l.end refl
  where
    ends : (b : Bool) → Clean (if b then l else record { faults = f ∷ l.faults; end = l.end }) → IsNone l.end
    ends true m = m.1
    ends false m = m.1

    at : (o : Option Fault) → l.end ≡ o → ⊥
    at None e = let m : Clean (record { faults = f ∷ l.faults; end = l.end }) = subst (λ (x : FaultList). Clean x) (round-none f l e) k in m.0
    at (Some x) e = subst (λ (y : Option Fault). IsNone y) e (ends (is_cut f l.end) k)

pub compound-clean : (j : Judged StatementTree) (l : FaultList) → Clean (compound j l).faults → IsOk j × Clean l
compound-clean (Ok s) l k = (tt, k)
compound-clean (Err f) l k = absurd (round-wrong f l k)

pub unless-clean : {X : Type 0} (f : Option Fault) (j : Judged X) → IsOk (unless f j) → IsNone f × IsOk j
unless-clean None j o = (tt, o)
unless-clean (Some f) (Ok x) o = absurd o
unless-clean (Some f) (Err g) o = absurd o

pub next-clean : {X Y : Type 0} (j : Judged X) (f : X → Judged Y) → IsOk (next j f) → IsOk j
next-clean (Ok x) f o = tt
next-clean (Err g) f o = absurd o
