-- The next formal takes its words.
use Rattle.std.proofs.Common.{◌≡◌, ℕ, ◌+◌, ◌<◌, List, [], ◌∷◌, ◌++◌, length, take, get_or, refl, sym, ◌∙◌, ap}
use Rattle.std.proofs.lemmas.List.Sums.{fold_push}
use Rattle.al_view_typed.specs.declared.unit.FormalWords.{FormalWords}
use Rattle.al_decl_judged.specs.declared.declaration.Declaration.{Declaration}
use Rattle.al_decl_judged.specs.TypeObjects.{formal_view}
use Rattle.al_decl_judged.specs.TypeDeclarations.{declared_as}
use Rattle.al_decl_judged.specs.Types.{words_of}
use Rattle.al_decl_judged.specs.declared.progress.Progress.{Progress}
use Rattle.al_decl_judged.proofs.NameLemmas.{front_more}
use Rattle.al_decl_judged.specs.declared.frame.NewFormal.{NewFormal}
use Rattle.al_decl_judged.specs.Frames.{formal_declarations, formal_place, formal_words, with_formal, with_formals}

declarations-push : (p : Progress) (fs : List NewFormal) (f : NewFormal) → formal_declarations p (fs ++ f ∷ []) ≡ formal_declarations p fs ++ declared_as f.name (formal_view f.of f.mode (formal_place (with_formals p fs))) ∷ []
declarations-push p [] f = refl
declarations-push p (x ∷ xs) f = ap (λ (l : List Declaration). declared_as x.name (formal_view x.of x.mode (formal_place p)) ∷ l) (declarations-push (with_formal p x) xs f)

words-push : (p : Progress) (fs : List NewFormal) (f : NewFormal) → formal_words p (fs ++ f ∷ []) ≡ formal_words p fs ++ record { mode = f.mode; word = (with_formals p fs).words.frame; words = words_of f.of } ∷ []
words-push p [] f = refl
words-push p (x ∷ xs) f = ap (λ (l : List FormalWords). record { mode = x.mode; word = p.words.frame; words = words_of x.of } ∷ l) (words-push (with_formal p x) xs f)

pub formals_taken : (first now new : Progress) (formals : List NewFormal) (i : ℕ) (f : NewFormal) → i < length formals → f ≡ get_or formals i f → new ≡ with_formal now f → now ≡ with_formals first (take i formals) → new ≡ with_formals first (take (i + 1) formals)
formals_taken first now new formals i f inside is taken before =
    taken
    ∙ ap (λ (p : Progress). with_formal p f) before
    ∙ sym (fold_push with_formal first (take i formals) f)
    ∙ ap (λ (fs : List NewFormal). with_formals first fs) (sym (front_more formals i f inside is))

pub formals_declared : (first now : Progress) (formals : List NewFormal) (i : ℕ) (f : NewFormal) (before new : List Declaration) → i < length formals → f ≡ get_or formals i f → new ≡ before ++ declared_as f.name (formal_view f.of f.mode (formal_place now)) ∷ [] → now ≡ with_formals first (take i formals) → before ≡ formal_declarations first (take i formals) → new ≡ formal_declarations first (take (i + 1) formals)
formals_declared first now formals i f before new inside is made so_far declared =
    made
    ∙ ap (λ (l : List Declaration). l ++ declared_as f.name (formal_view f.of f.mode (formal_place now)) ∷ []) declared
    ∙ ap (λ (p : Progress). formal_declarations first (take i formals) ++ declared_as f.name (formal_view f.of f.mode (formal_place p)) ∷ []) so_far
    ∙ sym (declarations-push first (take i formals) f)
    ∙ ap (λ (fs : List NewFormal). formal_declarations first fs) (sym (front_more formals i f inside is))

pub formals_worded : (first now : Progress) (formals : List NewFormal) (i : ℕ) (f : NewFormal) (before new : List FormalWords) → i < length formals → f ≡ get_or formals i f → new ≡ before ++ record { mode = f.mode; word = now.words.frame; words = words_of f.of } ∷ [] → now ≡ with_formals first (take i formals) → before ≡ formal_words first (take i formals) → new ≡ formal_words first (take (i + 1) formals)
formals_worded first now formals i f before new inside is made so_far worded =
    made
    ∙ ap (λ (l : List FormalWords). l ++ record { mode = f.mode; word = now.words.frame; words = words_of f.of } ∷ []) worded
    ∙ ap (λ (p : Progress). formal_words first (take i formals) ++ record { mode = f.mode; word = p.words.frame; words = words_of f.of } ∷ []) so_far
    ∙ sym (words-push first (take i formals) f)
    ∙ ap (λ (fs : List NewFormal). formal_words first fs) (sym (front_more formals i f inside is))
