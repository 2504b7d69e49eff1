use Rattle.std.proofs.Common.{◌≡◌, ℕ, ◌-◌, ◌<◌, List, [], ◌∷◌, ◌++◌, Some, length, get_or, subst, sym, ap, ◌∙◌, arith}
use Rattle.std.specs.Option.{option_to_list}
use Rattle.std.specs.Vec.{vec_len}
use Rattle.al_base_graph.proofs.AscendingLemmas.{IsCutting, IsCutting-more}
use Rattle.al_base_graph.proofs.walk.cut.Goals as goal

pub numbers-preserved : goal.numbers-preserved
numbers-preserved c =
    let xs : List ℕ = c.numbers.numbers.items in
    let ys : List ℕ = c.pop.new.self.items in
    let n : vec_len c.numbers.numbers ≡ length xs = c.numbers.numbers.ok.0 in
    let P : List ℕ → Type 0 = λ zs. (0 < length zs) × (c.in-Some.last.now ≡ get_or zs (length zs - 1) 0) in
    let read : (0 < length xs) × (c.in-Some.last.now ≡ get_or xs (length xs - 1) 0) = subst P c.deref.ensures.value (c.in-Some.ensures.item.3.0, c.in-Some.ensures.item.3.1 0) in
    let some : 0 < length xs = read.0 in
    let Q : ℕ → Type 0 = λ k. c.pop.result ≡ Some (get_or xs (k - 1) 0) in
    let r : c.pop.result ≡ Some c.in-Some.last.now = subst Q n (c.pop.ensures.value 0 (omega arith)) ∙ ap (λ x. Some x) (sym read.1) in
    let e : xs ≡ ys ++ c.in-Some.last.now ∷ [] = c.pop.ensures.items ∙ ap (λ o. ys ++ option_to_list o) r in
    let R : List ℕ → Type 0 = λ zs. IsCutting c.args.numbers.now.items zs c.args.most in
    IsCutting-more _ ys c.in-Some.last.now c.args.most c.if-last-most.false (subst R e c.numbers.invariant)
