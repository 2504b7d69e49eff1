-- Words that are put in one by one.
use Rattle.std.proofs.Common.{◌≡◌, ◌+◌, ◌<◌, ℕ, Bool, true, false, ◌||◌, List, [], ◌∷◌, ◌++◌, get_or, length, map, take, refl, sym, ap, subst, append_assoc, append-nil, ◌∙◌, if◌then◌else◌}
use Rattle.std.specs.List.{list_any}
use Rattle.std.specs.Str.{bytes_eq}
use Rattle.std.proofs.lemmas.List.{map-append, take_more}
use Rattle.std.proofs.lemmas.List.Folds.{list_any-append}
use Rattle.indexmap.specs.IndexSet.{insert_all, insert_key}
use Rattle.al_lex.specs.declared.token.Token.{Token}
use Rattle.al_query.proofs.ToldLemmas.{any-left, any-right}

insert-last : (words more : List (List ℕ)) (w : List ℕ) → insert_all bytes_eq words (more ++ w ∷ []) ≡ insert_key bytes_eq (insert_all bytes_eq words more) w
insert-last words [] w = refl
insert-last words (m ∷ more) w = insert-last (insert_key bytes_eq words m) more w

pub words_more : (f : Token → List ℕ) (tokens : List Token) (i : ℕ) (t : Token) (before after : List (List ℕ)) → i < length tokens → t ≡ get_or tokens i t → before ≡ insert_all bytes_eq [] (map f (take i tokens)) → after ≡ insert_key bytes_eq before (f t) → after ≡ insert_all bytes_eq [] (map f (take (i + 1) tokens))
words_more f tokens i t before after less is was now =
    now ∙ ap (λ (ws : List (List ℕ)). insert_key bytes_eq ws (f t)) was ∙ sym (insert-last [] (map f (take i tokens)) (f t))
    ∙ sym (ap (λ (ws : List (List ℕ)). insert_all bytes_eq [] ws) (ap (map f) (take_more tokens i t less ∙ ap (λ (y : Token). take i tokens ++ y ∷ []) (sym is)) ∙ map-append f (take i tokens) (t ∷ [])))

pub names_more : (words more : List (List ℕ)) (i : ℕ) (w : List ℕ) (before after : List (List ℕ)) → i < length more → w ≡ get_or more i w → before ≡ insert_all bytes_eq words (take i more) → after ≡ insert_key bytes_eq before w → after ≡ insert_all bytes_eq words (take (i + 1) more)
names_more words more i w before after less is was now =
    now ∙ ap (λ (ws : List (List ℕ)). insert_key bytes_eq ws w) was ∙ sym (insert-last words (take i more) w)
    ∙ sym (ap (λ (ws : List (List ℕ)). insert_all bytes_eq words ws) (take_more more i w less ∙ ap (λ (y : List ℕ). take i more ++ y ∷ []) (sym is)))

-- whoever is there after names are put in was there, or is one of them
among-one : (n : List ℕ) (words : List (List ℕ)) (w : List ℕ) → list_any (bytes_eq n) (insert_key bytes_eq words w) ≡ true → list_any (bytes_eq n) (words ++ w ∷ []) ≡ true
among-one n words w h = at (list_any (bytes_eq w) words) h
  where
    at : (b : Bool) → list_any (bytes_eq n) (if b then words else words ++ w ∷ []) ≡ true → list_any (bytes_eq n) (words ++ w ∷ []) ≡ true
    at true k = any-left words (w ∷ []) n k
    at false k = k

among-more : (n : List ℕ) (xs ys more : List (List ℕ)) → (list_any (bytes_eq n) xs ≡ true → list_any (bytes_eq n) ys ≡ true) → list_any (bytes_eq n) (xs ++ more) ≡ true → list_any (bytes_eq n) (ys ++ more) ≡ true
among-more n xs ys more w h = at (list_any (bytes_eq n) xs) refl (sym (list_any-append (bytes_eq n) xs more) ∙ h)
  where
    at : (b : Bool) → list_any (bytes_eq n) xs ≡ b → (b || list_any (bytes_eq n) more) ≡ true → list_any (bytes_eq n) (ys ++ more) ≡ true
    at true is k = any-left ys more n (w is)
    at false is k = any-right ys more n k

pub among_all : (n : List ℕ) (words more : List (List ℕ)) → list_any (bytes_eq n) (insert_all bytes_eq words more) ≡ true → list_any (bytes_eq n) (words ++ more) ≡ true
among_all n words [] h = subst (λ (l : List (List ℕ)). list_any (bytes_eq n) l ≡ true) (sym (append-nil words)) h
among_all n words (m ∷ more) h =
    subst (λ (l : List (List ℕ)). list_any (bytes_eq n) l ≡ true) (append_assoc words (m ∷ []) more)
    (among-more n (insert_key bytes_eq words m) (words ++ m ∷ []) more (among-one n words m) (among_all n (insert_key bytes_eq words m) more h))
