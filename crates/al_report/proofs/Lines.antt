-- Lines that are written one after another.
use Rattle.std.proofs.Common.{◌≡◌, ℕ, zero, suc, ◌+◌, ◌<◌, List, [], ◌∷◌, ◌++◌, length, take, get_or, sym, ap, ◌∙◌, append-nil, append_assoc, codes, decimal, refl, arith}
use Rattle.std.specs.List.{flat_map}
use Rattle.std.proofs.lemmas.List.{take_more, length-take-le}
use Rattle.std.proofs.lemmas.Grind.{flat_map-append}
use Rattle.std.proofs.lemmas.Bool.Decides.{nat_tests}
use Rattle.al_report.specs.declared.causes.Cause.{Cause}
use Rattle.al_report.specs.Report.{cause_text, causes_text, mark_at, dependents_words, dependents_text}

-- one more line
pub lines_more : {Y : Type 0} (line : Y → List ℕ) (xs : List Y) (i : ℕ) (x : Y) → i < length xs → x ≡ get_or xs i x → flat_map line (take (i + 1) xs) ≡ flat_map line (take i xs) ++ line x
lines_more line xs i x lt is =
    ap (λ ys. flat_map line ys) (take_more xs i x lt ∙ ap (λ y. take i xs ++ y ∷ []) (sym is))
    ∙ flat_map-append line (take i xs) (x ∷ [])
    ∙ ap (λ ys. flat_map line (take i xs) ++ ys) (append-nil (line x))

-- no causes are no text
pub no_causes : (mark : List ℕ) → causes_text mark [] ≡ []
unfolding causes_text
no_causes mark = refl

-- every mark but the first is a comma
comma_at : (i : ℕ) → mark_at (codes ", ") i ≡ codes ", "
comma_at zero = refl
comma_at (suc i) = refl

-- a cause behind others
cause_behind : (mark : List ℕ) (cs : List Cause) (c : Cause) → causes_text mark (cs ++ c ∷ []) ≡ causes_text mark cs ++ (mark_at mark (length cs) ++ cause_text c)
unfolding causes_text
cause_behind mark [] c = append-nil (mark ++ cause_text c)
cause_behind mark (x ∷ cs) c =
    ap (λ rest. mark ++ cause_text x ++ rest) (cause_behind (codes ", ") cs c ∙ ap (λ m. causes_text (codes ", ") cs ++ (m ++ cause_text c)) (comma_at (length cs)))
    ∙ sym (append_assoc (mark ++ cause_text x) (causes_text (codes ", ") cs) (codes ", " ++ cause_text c))

-- one more cause
pub causes_more : (mark : List ℕ) (cs : List Cause) (i : ℕ) (c : Cause) → i < length cs → c ≡ get_or cs i c → causes_text mark (take (i + 1) cs) ≡ causes_text mark (take i cs) ++ (mark_at mark i ++ cause_text c)
causes_more mark cs i c lt is =
    ap (causes_text mark) (take_more cs i c lt ∙ ap (λ y. take i cs ++ y ∷ []) (sym is))
    ∙ cause_behind mark (take i cs) c
    ∙ ap (λ n. causes_text mark (take i cs) ++ (mark_at mark n ++ cause_text c)) (length-take-le i cs (omega (arith, lt)))

-- what is written if a unit wasn't checked
pub some_wait : (n : ℕ) (causes : List Cause) → (n ≡ 0 → ⊥) → dependents_text n causes ≡ decimal n ++ dependents_words n ++ causes_text (codes ": ") causes ++ codes "\n"
some_wait n causes some = grind (arith, nat_tests)
