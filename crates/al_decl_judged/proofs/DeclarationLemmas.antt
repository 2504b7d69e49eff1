-- One more literal or operator after others.
use Rattle.std.proofs.Common.{◌≡◌, ℕ, ◌+◌, ◌<◌, List, [], ◌∷◌, ◌++◌, length, take, get_or, refl, sym, ◌∙◌, ap, append_assoc, arith}
use Rattle.std.proofs.lemmas.List.{length-take, map_push, take_more}
use Rattle.std.proofs.lemmas.List.Sums.{fold_push}
use Rattle.al_view.specs.declared.symbol.Symbol.{Symbol}
use Rattle.al_view.specs.declared.types.TypeView.{TypeView}
use Rattle.al_view_predefined.specs.Operators.{operator_view, spelling}
use Rattle.al_view_predefined.specs.Standard.{literal}
use Rattle.al_decl_judged.specs.declared.declaration.Declaration.{Declaration}
use Rattle.al_decl_judged.specs.Homonyms.{Counts, count_of, with_name}
use Rattle.al_decl_judged.specs.TypeDeclarations.{Sign, declared_as, literals_from, operators_from, spellings, with_names}

pub operators_from-push : (t : Symbol) (types : List TypeView) (counts : Counts) (ss : List Sign) (s : Sign) → operators_from t types counts (ss ++ s ∷ []) ≡ operators_from t types counts ss ++ declared_as (spelling s.1) (operator_view t types s.0 s.1 (count_of (with_names counts (spellings ss)) (spelling s.1))) ∷ []
operators_from-push t types counts [] s = refl
operators_from-push t types counts (u ∷ us) s =
    ap (λ (l : List Declaration). declared_as (spelling u.1) (operator_view t types u.0 u.1 (count_of counts (spelling u.1))) ∷ l) (operators_from-push t types (with_name counts (spelling u.1)) us s)

pub literals_from-push : (t : Symbol) (types : List TypeView) (position : ℕ) (ns : List (List ℕ)) (n : List ℕ) → literals_from t types position (ns ++ n ∷ []) ≡ literals_from t types position ns ++ declared_as n (literal t types (position + length ns)) ∷ []
literals_from-push t types position [] n =
    let env : position ≡ position + 0 = omega arith in
    ap (λ (p : ℕ). declared_as n (literal t types p) ∷ []) env
literals_from-push t types position (m ∷ ms) n =
    let env : position + 1 + length ms ≡ position + length (m ∷ ms) = omega arith in
    ap (λ (l : List Declaration). declared_as m (literal t types position) ∷ l)
    (literals_from-push t types (position + 1) ms n ∙ ap (λ (p : ℕ). literals_from t types (position + 1) ms ++ declared_as n (literal t types p) ∷ []) env)

-- the next name of a list is counted
pub names_more : (first counts new : Counts) (names : List (List ℕ)) (i : ℕ) (name : List ℕ) → i < length names → name ≡ get_or names i name → new ≡ with_name counts name → counts ≡ with_names first (take i names) → new ≡ with_names first (take (i + 1) names)
names_more first counts new names i name inside is made before =
    let more = take_more names i name inside ∙ ap (λ (n : List ℕ). take i names ++ n ∷ []) (sym is) in
    made
    ∙ ap (λ (c : Counts). with_name c name) before
    ∙ sym (fold_push with_name first (take i names) name)
    ∙ ap (λ (l : List (List ℕ)). with_names first l) (sym more)

-- and the next literal is declared
pub literals_more : (t : Symbol) (types : List TypeView) (first declared new : List Declaration) (names : List (List ℕ)) (i : ℕ) (name : List ℕ) → i < length names → name ≡ get_or names i name → new ≡ declared ++ declared_as name (literal t types i) ∷ [] → declared ≡ first ++ literals_from t types 0 (take i names) → new ≡ first ++ literals_from t types 0 (take (i + 1) names)
literals_more t types first declared new names i name inside is made before =
    let more = take_more names i name inside ∙ ap (λ (n : List ℕ). take i names ++ n ∷ []) (sym is) in
    let env : i ≡ 0 + length (take i names) = omega (arith, length-take i names) in
    made
    ∙ ap (λ (d : List Declaration). d ++ declared_as name (literal t types i) ∷ []) before
    ∙ append_assoc first (literals_from t types 0 (take i names)) (declared_as name (literal t types i) ∷ [])
    ∙ ap (λ (p : ℕ). first ++ (literals_from t types 0 (take i names) ++ declared_as name (literal t types p) ∷ [])) env
    ∙ ap (λ (l : List Declaration). first ++ l) (sym (literals_from-push t types 0 (take i names) name))
    ∙ ap (λ (l : List (List ℕ)). first ++ literals_from t types 0 l) (sym more)

-- the next operator of a list is counted
pub signs_counted : (first counts new : Counts) (signs : List Sign) (i : ℕ) (s : Sign) → i < length signs → take (i + 1) signs ≡ take i signs ++ s ∷ [] → new ≡ with_name counts (spelling s.1) → counts ≡ with_names first (spellings (take i signs)) → new ≡ with_names first (spellings (take (i + 1) signs))
signs_counted first counts new signs i s inside more made before =
    made
    ∙ ap (λ (c : Counts). with_name c (spelling s.1)) before
    ∙ sym (fold_push with_name first (spellings (take i signs)) (spelling s.1))
    ∙ ap (λ (l : List (List ℕ)). with_names first l) (sym (map_push (λ (u : Sign). spelling u.1) (take i signs) s))
    ∙ ap (λ (l : List Sign). with_names first (spellings l)) (sym more)

-- and declared, with the number that it had before
pub signs_declared : (t : Symbol) (types : List TypeView) (counts old : Counts) (first declared new : List Declaration) (signs : List Sign) (i : ℕ) (s : Sign) → take (i + 1) signs ≡ take i signs ++ s ∷ [] → old ≡ with_names counts (spellings (take i signs)) → new ≡ declared ++ declared_as (spelling s.1) (operator_view t types s.0 s.1 (count_of old (spelling s.1))) ∷ [] → declared ≡ first ++ operators_from t types counts (take i signs) → new ≡ first ++ operators_from t types counts (take (i + 1) signs)
signs_declared t types counts old first declared new signs i s more so_far made before =
    let item : Counts → Declaration = λ c. declared_as (spelling s.1) (operator_view t types s.0 s.1 (count_of c (spelling s.1))) in
    made
    ∙ ap (λ (d : List Declaration). d ++ item old ∷ []) before
    ∙ ap (λ (c : Counts). (first ++ operators_from t types counts (take i signs)) ++ item c ∷ []) so_far
    ∙ append_assoc first (operators_from t types counts (take i signs)) (item (with_names counts (spellings (take i signs))) ∷ [])
    ∙ ap (λ (l : List Declaration). first ++ l) (sym (operators_from-push t types counts (take i signs) s))
    ∙ ap (λ (l : List Sign). first ++ operators_from t types counts l) (sym more)
