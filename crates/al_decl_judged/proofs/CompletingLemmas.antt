-- What a body of a subprogram completes is a subprogram that waits.
use Rattle.std.proofs.Common.{◌≡◌, ℕ, ◌<◌, Bool, List, Option, Some, length, get_or, slice_get, sym, ◌∙◌, ap, subst}
use Rattle.std.proofs.lemmas.Option.{get_or_from_slice_get}
use Rattle.al_base_fault.specs.declared.fault.Fault.{Fault}
use Rattle.al_query.specs.declared.answer.Completion.{Completion}
use Rattle.al_view.specs.declared.symbol.Symbol.{Symbol}
use Rattle.al_view.specs.declared.view.ObjectPlace.{ObjectPlace}
use Rattle.al_view.specs.declared.view.ViewKind.{ViewKind}
use Rattle.al_view.specs.declared.view.ViewKind.TheVariants as views
use Rattle.al_decl_judged.specs.Completing.{Completes, IsBodyOf, IsFirst}
use Rattle.al_decl_judged.specs.declared.specification.BodyHead.{BodyHead}
use Rattle.al_decl_judged.specs.declared.specification.BodyHead.TheVariants as head
use Rattle.al_decl_judged.specs.declared.specification.Specification.{Specification}
use Rattle.al_decl_judged.specs.declared.names.DefiningName.{DefiningName}
use Rattle.al_decl_judged.specs.Bodies.{IsWaiting}
use Rattle.al_decl_judged.specs.Completions.{IsCompleted, IsCompletedAt, IsCompleting, IsOfSubprogram}
use Rattle.al_decl_judged.specs.declared.body.Completing.{Completing}
use Rattle.al_decl_judged.specs.declared.body.Completing.TheVariants as completing

of_subprogram : (s : Specification) (v : ViewKind) → IsBodyOf (head.Subprogram s) v → IsOfSubprogram v
of_subprogram s (views.OfSubprogram v) h = tt
of_subprogram s (views.OfTask v) h = absurd h
of_subprogram s (views.OfProtected v) h = absurd h
of_subprogram s (views.OfType v) h = absurd h
of_subprogram s (views.OfSubtype v) h = absurd h
of_subprogram s (views.OfObject v) h = absurd h
of_subprogram s views.OfComponent h = absurd h
of_subprogram s (views.OfNumber v) h = absurd h
of_subprogram s (views.OfLiteral v) h = absurd h
of_subprogram s (views.OfPackage v) h = absurd h

-- the declaration at that number is completed
completed_there : (cs : List Completion) (name : List ℕ) (h : BodyHead) (at : ℕ) (c : Completion) → IsFirst (Completes name h) cs at → slice_get cs at ≡ Some c → Completes name h c
completed_there cs name h at c first there = subst (λ (x : Completion). Completes name h x) (get_or_from_slice_get cs at c c there) (first.env c)

pub is_of_subprogram : (cs : List Completion) (name : List ℕ) (h : BodyHead) (s : Specification) (at : ℕ) (c : Completion) → h ≡ head.Subprogram s → IsFirst (Completes name h) cs at → slice_get cs at ≡ Some c → IsOfSubprogram c.view
is_of_subprogram cs name h s at c is first there =
    of_subprogram s c.view (subst (λ (x : BodyHead). IsBodyOf x c.view) is (completed_there cs name h at c first there).1)

pub completes_first : (cs : List Completion) (n : DefiningName) (h : BodyHead) (s : Specification) (may b : Bool) (at : ℕ) (c : Completion) (v : ViewKind) (m : Completing) → h ≡ head.Subprogram s → IsFirst (Completes n.name h) cs at → slice_get cs at ≡ Some c → c.view ≡ v → IsCompletedAt n.place s at v m → IsCompleting cs n s may b m × IsWaiting cs m
completes_first cs n h s may b at c v (completing.Declared number symbol flag fault) is first there seen done = (
  (
    subst (λ (i : ℕ). IsFirst (Completes n.name (head.Subprogram s)) cs i) (sym done.0) (subst (λ (x : BodyHead). IsFirst (Completes n.name x) cs at) is first),
    λ d. subst (λ (x : ViewKind). IsCompleted n.place s symbol flag fault x) (sym (there_view d)) done.1,
  ),
  subst (λ (i : ℕ). i < length cs) (sym done.0) first.inside,
)
  where
    there_view : (d : Completion) → (get_or cs number d).view ≡ v
    there_view d = ap (λ (i : ℕ). (get_or cs i d).view) done.0 ∙ ap (λ (x : Completion). x.view) (get_or_from_slice_get cs at c d there) ∙ seen
completes_first cs n h s may b at c v (completing.Alone fault) is first there seen done = absurd done
