use Rattle.std.proofs.Common.{◌≡◌, ℕ, List, IfOk, Result, Ok, Err, subst, sym, ◌∙◌, rules}
use Rattle.al_decl_judged.specs.Completing.{Completes, IsFirst}
use Rattle.al_decl_judged.specs.declared.specification.BodyHead.{BodyHead}
use Rattle.al_decl_judged.specs.declared.specification.BodyHead.TheVariants as heads
use Rattle.al_decl_judged.specs.declared.specification.Specification.{Specification}
use Rattle.al_decl_judged.specs.Completions.{IsCompletedAt}
use Rattle.al_decl_judged.specs.Profiles.{specification_of}
use Rattle.al_view.specs.declared.view.ViewKind.TheVariants.{OfSubprogram}
use Rattle.al_decl_judged.proofs.CompletingLemmas.{completes_first}
use Rattle.al_decl_judged.proofs.completing.completing_of.Goals as goal

if_ok : {A E : Type 0} (r : Result A E) (P Q : A → Type 0) → ((a : A) → P a → Q a) → IfOk r P → IfOk r Q
if_ok (Ok a) P Q f h = f a h
if_ok (Err e) P Q f h = search rules

one_specification : (h : BodyHead) (r s : Specification) → h ≡ heads.Subprogram r → h ≡ heads.Subprogram s → r ≡ s
one_specification h r s e f = cc

pub returns-in-Some-clause-completing : goal.returns-in-Some-clause-completing
returns-in-Some-clause-completing c =
    let n = c.args.heading.now.name in
    let s = specification_of c.args.heading.now in
    let view = OfSubprogram c.subprogram_in-subprogram.result.now in
    let same = one_specification c.in_ok-head.head c.specification_in.result.now s c.specification_in.ensures c.in_ok-head.ensures in
    let first = subst (λ (x : List ℕ). IsFirst (Completes x c.in_ok-head.head) c.args.uncompleted.now c.in-Some.at) c.as_slice.ensures c.in-Some.ensures in
    if_ok c.completed_subprogram.result _ _
    (λ m completed. (completes_first c.args.uncompleted.now n c.in_ok-head.head s c.args.may_declare c.args.has_homograph c.in-Some.at c.at.result.now view m c.in_ok-head.ensures first c.at.ensures (sym c.kind.ensures ∙ c.subprogram_in-subprogram.ensures) (subst (λ (x : Specification). IsCompletedAt n.place x c.in-Some.at view m) same completed)).0)
    c.completed_subprogram.ensures
