use Rattle.std.proofs.Common.{◌≡◌, ◌<◌, ◌≤◌, true, false, List, [], ◌∷◌, map, length, refl, arith}
use Rattle.al_overload_readings.specs.Attributes.{is_one}
use Rattle.al_overload.specs.TermViews.{term_model, terms_of}
use Rattle.al_overload.specs.declared.heads_term.Term.{Term}
use Rattle.al_overload_readings.proofs.prefix.is_one.Goals as goal

one_model : (xs : List Term) → 1 ≤ length xs → length xs < 2 → true ≡ is_one (terms_of (map term_model xs))
one_model [] low high = absurd (omega arith)
one_model (x ∷ []) low high = refl
one_model (x ∷ y ∷ ys) low high = absurd (omega arith)

more_model : (xs : List Term) → 2 ≤ length xs → false ≡ is_one (terms_of (map term_model xs))
more_model [] low = absurd (omega arith)
more_model (x ∷ []) low = absurd (omega arith)
more_model (x ∷ y ∷ ys) low = refl

pub returns-in-len1 : goal.returns-in-len1
returns-in-len1 c = one_model c.args.arguments.now c.in-len1.len_at_least c.in-len1.len_below

pub returns-in-len2-up : goal.returns-in-len2-up
returns-in-len2-up c = more_model c.args.arguments.now c.in-len2-up.len_at_least
