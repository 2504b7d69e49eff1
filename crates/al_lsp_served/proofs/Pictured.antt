-- What a client has of a file, message by message.
use Rattle.std.proofs.Common.{◌≡◌, ℕ, ◌+◌, ◌<◌, List, [], ◌∷◌, ◌++◌, length, take, get_or, map, Bool, true, false, cond, not, ◌&&◌, ◌||◌, ◌⊎◌, inl, inr, Option, Some, None, Vec, is_some, refl, sym, ap, ◌∙◌}
use Rattle.std.specs.Borrow.{Bor}
use Rattle.std.specs.List.{list_any}
use Rattle.std.specs.Str.{bytes_eq}
use Rattle.std.proofs.lemmas.List.{take_more, map-append}
use Rattle.std.proofs.lemmas.List.Folds.{list_any-append}
use Rattle.std.proofs.lemmas.List.Sums.{fold_push}
use Rattle.serde_json.specs.Data.{Data}
use Rattle.al_lsp_messages.specs.declared.outgoing.Outgoing.{Outgoing}
use Rattle.std.specs.Option.{option_map_or}
use Rattle.std.specs.BTreeMap.{BTreeMap, keys}
use Rattle.al_lsp_served.specs.Named.{held}
use Rattle.al_lsp_served.specs.Told.{told_of, list_data}
use Rattle.al_lsp_served.specs.Pictures.{after_message, after_messages}
use Rattle.al_lsp_served.specs.declared.telling.Told.{Told}
use Rattle.al_lsp_served.proofs.ByName.{any_held}

-- one message more
pub after_push : (name : List ℕ) (had : Data) (sent : List Outgoing) (m : Outgoing) → after_messages name had (sent ++ m ∷ []) ≡ after_message name (after_messages name had sent) m
after_push name had sent m = fold_push (after_message name) had sent m

or_false : (b : Bool) → (b || false) ≡ b
or_false true = refl
or_false false = refl

-- one name more
pub any_more : (names : List (Bor (List ℕ))) (i : ℕ) (d : Bor (List ℕ)) (name : List ℕ) → i < length names → list_any (λ k. bytes_eq k name) (map (λ k. k.now) (take (i + 1) names)) ≡ (list_any (λ k. bytes_eq k name) (map (λ k. k.now) (take i names)) || bytes_eq (get_or names i d).now name)
any_more names i d name lt =
    ap (λ ks. list_any (λ k. bytes_eq k name) (map (λ k. k.now) ks)) (take_more names i d lt)
    ∙ ap (list_any (λ k. bytes_eq k name)) (map-append (λ k. k.now) (take i names) (get_or names i d ∷ []))
    ∙ list_any-append (λ k. bytes_eq k name) (map (λ k. k.now) (take i names)) ((get_or names i d).now ∷ [])
    ∙ ap (λ b. list_any (λ k. bytes_eq k name) (map (λ k. k.now) (take i names)) || b) (or_false (bytes_eq (get_or names i d).now name))

-- all names
pub any_all : {Y X : Type 0} (m : BTreeMap (Vec ℕ Y) X) (names : List (Bor (List ℕ))) (seen : List (Bor (List ℕ))) (name : List ℕ) → seen ≡ names → map (λ k. k.now) names ≡ map (λ k. k.items) (keys m) → list_any (λ k. bytes_eq k name) (map (λ k. k.now) seen) ≡ is_some (held m name)
any_all m names seen name all are =
    ap (λ ks. list_any (λ k. bytes_eq k name) (map (λ k. k.now) ks)) all
    ∙ ap (list_any (λ k. bytes_eq k name)) are
    ∙ any_held m.entries name

-- after one more file is told: `x` says whether it is the one that is looked at, `seen` whether that one was told before
pub tell_step : {D : Type 0} (seen x more : Bool) (out new told wanted : D) → out ≡ cond seen wanted told → ((out ≡ told) ⊎ (out ≡ wanted) → new ≡ cond x wanted out) → more ≡ (seen || x) → new ≡ cond more wanted told
tell_step true true more out new told wanted is step seen = step (inr is) ∙ sym (ap (λ b. cond b wanted told) seen)
tell_step true false more out new told wanted is step seen = step (inr is) ∙ is ∙ sym (ap (λ b. cond b wanted told) seen)
tell_step false true more out new told wanted is step seen = step (inl is) ∙ sym (ap (λ b. cond b wanted told) seen)
tell_step false false more out new told wanted is step seen = step (inl is) ∙ is ∙ sym (ap (λ b. cond b wanted told) seen)

-- .. after one more file is cleared, where the picture lacks it
pub clear_step : {D : Type 0} (seen x more lacks : Bool) (out new start none : D) → out ≡ cond (seen && lacks) none start → new ≡ cond (x && lacks) none out → more ≡ (seen || x) → new ≡ cond (more && lacks) none start
clear_step true true more true out new start none is step seen = step ∙ sym (ap (λ b. cond (b && true) none start) seen)
clear_step true true more false out new start none is step seen = step ∙ is ∙ sym (ap (λ b. cond (b && false) none start) seen)
clear_step true false more lacks out new start none is step seen = step ∙ is ∙ sym (ap (λ b. cond (b && lacks) none start) seen)
clear_step false true more true out new start none is step seen = step ∙ sym (ap (λ b. cond (b && true) none start) seen)
clear_step false true more false out new start none is step seen = step ∙ is ∙ sym (ap (λ b. cond (b && false) none start) seen)
clear_step false false more lacks out new start none is step seen = step ∙ is ∙ sym (ap (λ b. cond (b && lacks) none start) seen)

pub tell_more : (names : List (Bor (List ℕ))) (i : ℕ) (d : Bor (List ℕ)) (name : List ℕ) (out new told wanted : Data) → i < length names → out ≡ cond (list_any (λ k. bytes_eq k name) (map (λ k. k.now) (take i names))) wanted told → ((out ≡ told) ⊎ (out ≡ wanted) → new ≡ cond (bytes_eq (get_or names i d).now name) wanted out) → new ≡ cond (list_any (λ k. bytes_eq k name) (map (λ k. k.now) (take (i + 1) names))) wanted told
tell_more names i d name out new told wanted lt is step =
    tell_step (list_any (λ k. bytes_eq k name) (map (λ k. k.now) (take i names))) (bytes_eq (get_or names i d).now name) (list_any (λ k. bytes_eq k name) (map (λ k. k.now) (take (i + 1) names))) out new told wanted is step (any_more names i d name lt)

pub clear_more : (names : List (Bor (List ℕ))) (i : ℕ) (d : Bor (List ℕ)) (name : List ℕ) (lacks : Bool) (out new start none : Data) → i < length names → out ≡ cond (list_any (λ k. bytes_eq k name) (map (λ k. k.now) (take i names)) && lacks) none start → new ≡ cond (bytes_eq (get_or names i d).now name && lacks) none out → new ≡ cond (list_any (λ k. bytes_eq k name) (map (λ k. k.now) (take (i + 1) names)) && lacks) none start
clear_more names i d name lacks out new start none lt is step =
    clear_step (list_any (λ k. bytes_eq k name) (map (λ k. k.now) (take i names))) (bytes_eq (get_or names i d).now name) (list_any (λ k. bytes_eq k name) (map (λ k. k.now) (take (i + 1) names))) lacks out new start none is step (any_more names i d name lt)

-- a client that was told all files of a picture, and that nothing is wrong with those that it lacks, has the picture
pub told_all : {Y : Type 0} (before picture : BTreeMap (Vec ℕ Y) Told) (name : List ℕ) (one two : Data) → one ≡ cond (is_some (held picture name)) (list_data (told_of picture name)) (list_data (told_of before name)) → two ≡ cond (is_some (held before name) && not (is_some (held picture name))) (list_data []) one → two ≡ list_data (told_of picture name)
told_all before picture name one two first second = by_cases (held before name) (held picture name) first second
  where
    by_cases : (a b : Option Told) → one ≡ cond (is_some b) (list_data (option_map_or (λ t. t.list.items) b [])) (list_data (option_map_or (λ t. t.list.items) a [])) → two ≡ cond (is_some a && not (is_some b)) (list_data []) one → two ≡ list_data (option_map_or (λ t. t.list.items) b [])
    by_cases (Some a) (Some b) first second = second ∙ first
    by_cases None (Some b) first second = second ∙ first
    by_cases (Some a) None first second = second
    by_cases None None first second = second ∙ first
