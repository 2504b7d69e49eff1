use Rattle.std.proofs.Common.{ℕ, ◌≡◌, ◌<◌, ◌∙◌, Bool, true, false, List, ◌∷◌, ◌++◌, get_or, refl, replicate, ap, arith}
use Rattle.std.proofs.lemmas.Bool.{agree_below_at}
use Rattle.al_base.specs.Identifiers.{is_word_byte}
use Rattle.al_lex.proofs.words.is_in_word.Goals as goal

abbrev table : List Bool
table = replicate 48 false ++ (replicate 10 true ++ (replicate 7 false ++ (replicate 26 true ++ (replicate 4 false ++ (true ∷ false ∷ (replicate 26 true ++ replicate 133 false))))))

by_table : (b : ℕ) → b < 256 → get_or table b false ≡ is_word_byte b
by_table b l = agree_below_at (λ (k : ℕ). get_or table k false) is_word_byte 256 b refl l

pub returns : goal.returns
returns c =
    let same : c.from.result ≡ c.args.b = c.from.ensures in
    ap (λ (k : ℕ). get_or table k false) same ∙ by_table c.args.b (omega arith)
