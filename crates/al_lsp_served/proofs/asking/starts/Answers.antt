use Rattle.std.proofs.Common.{rules, ◌≡◌, ◌∙◌, ap, subst, ℕ, length, take, List}
use Rattle.std.proofs.lemmas.List.{take_min}
use Rattle.std.specs.Str.{str_eq_ignore_ascii_case}
use Rattle.al_lsp_served.proofs.asking.starts.Goals as goal

pub returns : goal.returns
returns c =
    let text = c.args.text.now in
    let word = c.args.word.now in
    let e : take c.min.result text ≡ take (length word) text = ap (λ n. take n text) c.min.ensures ∙ take_min (length word) text in
    let P : List ℕ → Type 0 = λ t. c.eq_ignore_ascii_case.result ≡ str_eq_ignore_ascii_case t word in
    subst P e (search rules)
