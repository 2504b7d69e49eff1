use Rattle.std.proofs.Common.{ℕ, List, Bor, map, sym, ap, ◌∙◌}
use Rattle.al_engine.proofs.alike.have_same_files.Goals as goal

pub returns : goal.returns
returns c = λ is.
    let names = λ (items : List (Bor (List ℕ))). map (λ n. n.now) items in
    sym (ap names c.as_slice.ensures.value ∙ c.in_ok-files.ensures) ∙ c.are_same.ensures is ∙ ap names c.as_slice-2.ensures.value ∙ c.in_ok-others.ensures
