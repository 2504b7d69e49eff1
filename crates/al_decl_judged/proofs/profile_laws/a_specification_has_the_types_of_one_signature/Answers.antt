-- The types of the parameters, and of the result.
use Rattle.std.proofs.Common.{◌≡◌, List, Option, Some, ap, sym, ◌∙◌}
use Rattle.al_view.specs.declared.symbol.Symbol.{Symbol}
use Rattle.al_view.specs.Homographs.{Signature, types_of}
use Rattle.al_decl_judged.proofs.SignatureLemmas.{same_bases, same_results}
use Rattle.al_decl_judged.proofs.profile_laws.a_specification_has_the_types_of_one_signature.Goals as goal

of_some : (a b : Signature) → Some a ≡ Some b → a ≡ b
of_some a b e = cc

pair : List Symbol → Option Symbol → List Symbol × Option Symbol
pair a b = (a, b)

pairs : (a c : List Symbol) (b d : Option Symbol) → a ≡ c → b ≡ d → pair a b ≡ pair c d
pairs a c b d e f = ap (λ z. pair z b) e ∙ ap (λ z. pair c z) f

pub returns : goal.returns
unfolding pair
returns c = λ s v w a b h k ea eb.
    sym (ap types_of (of_some _ _ ea))
    ∙ pairs _ _ _ _ (same_bases s.formals _ _ h.formals k.formals) (same_results s.returned _ _ h.returned k.returned)
    ∙ ap types_of (of_some _ _ eb)
