use Rattle.std.proofs.Common.{◌≡◌, ◌∙◌, ℕ, List, [], ap, arith, length, subst, take}
use Rattle.std.specs.List.{IsDistinct}
use Rattle.std.specs.Str.{bytes_eq}
use Rattle.std.proofs.lemmas.List.{take_all}
use Rattle.indexmap.specs.IndexSet.{insert_all}
use Rattle.al_check_bounded.proofs.NameLemmas.{put_all}
use Rattle.al_check_bounded.proofs.name_set.NameSet.copy.Goals as goal

pub returns : goal.returns
returns c =
    let names = c.args.self.now in
    let same = ap (length {A = List ℕ}) (c.as_slice-name-items.ensures.keys ∙ c.self.view_is) in
    let distinct : IsDistinct bytes_eq names = subst (λ (ns : List (List ℕ)). IsDistinct bytes_eq ns) c.self.view_is c.as_slice-name-items.ensures.unique in
    let all : take c.loop-name.name-index names ≡ names = take_all c.loop-name.name-index names (omega (arith, same)) in
    c.loop-name.invariant ∙ ap (λ (ns : List (List ℕ)). insert_all bytes_eq [] ns) all ∙ put_all names distinct
