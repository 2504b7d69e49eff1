-- A file under another name.
use Rattle.std.proofs.Common.{◌≡◌, ℕ, Bool, true, false, cond, List, [], ◌∷◌, Some, None, Vec, is_some, not, refl, sym, ap, ◌∙◌}
use Rattle.std.specs.declared.rc.Rc.{Rc}
use Rattle.std.specs.Ordering.{nat_cmp, is_eq}
use Rattle.std.specs.declared.cmp.Ordering.{Ordering}
use Rattle.std.specs.declared.cmp.Ordering.TheVariants.{Less, Equal, Greater}
use Rattle.std.specs.Cmp.{tied_itself, alike_right}
use Rattle.std.specs.Cmp.Lexicographic.{slice_cmp, nat_list_cmp_total}
use Rattle.std.specs.List.{AllByRecursion}
use Rattle.std.specs.List.Sorted.{IsStrictlySortedBy}
use Rattle.std.specs.Map.{keys_of}
use Rattle.std.proofs.lemmas.Map.Keys.{sorted_head, sorted_tail}
use Rattle.al_base.specs.Files.{Texts, name_cmp, text_of, with_file, without_file, rename_refusal}
use Rattle.al_base.specs.declared.refusal.Refusal.TheVariants.{BadName, NoFile, FileExists}
use Rattle.al_base.specs.Names.{is_file_name}
use Rattle.al_base.specs.Pairs.{pairs_of}

-- the text of another file stays
pub text_of-with_file_other : (es : Texts) (k : List ℕ) (v q : List ℕ) → is_eq (name_cmp q k) ≡ false → text_of (with_file es k v) q ≡ text_of es q
text_of-with_file_other [] k v q apart = rw apart refl
text_of-with_file_other (e ∷ es) k v q apart = step (name_cmp k e.0) refl (text_of-with_file_other es k v q apart)
  where
    step : (o : Ordering) → name_cmp k e.0 ≡ o → text_of (with_file es k v) q ≡ text_of es q → text_of (with_file (e ∷ es) k v) q ≡ text_of (e ∷ es) q
    step Less is rest = rw (is, apart) refl
    step Equal is rest = let off : is_eq (name_cmp q e.0) ≡ false = ap is_eq (sym (alike_right nat_list_cmp_total k e.0 q is)) ∙ apart in rw (is, off) refl
    step Greater is rest = rw is (ap (cond (is_eq (name_cmp q e.0)) (Some e.1)) rest)

pub text_of-without_file_other : (es : Texts) (k q : List ℕ) → is_eq (name_cmp q k) ≡ false → text_of (without_file es k) q ≡ text_of es q
text_of-without_file_other [] k q apart = refl
text_of-without_file_other (e ∷ es) k q apart = step (name_cmp k e.0) refl (text_of-without_file_other es k q apart)
  where
    step : (o : Ordering) → name_cmp k e.0 ≡ o → text_of (without_file es k) q ≡ text_of es q → text_of (without_file (e ∷ es) k) q ≡ text_of (e ∷ es) q
    step Less is rest = rw is (ap (cond (is_eq (name_cmp q e.0)) (Some e.1)) rest)
    step Equal is rest = let off : is_eq (name_cmp q e.0) ≡ false = ap is_eq (sym (alike_right nat_list_cmp_total k e.0 q is)) ∙ apart in rw (is, off) refl
    step Greater is rest = rw is (ap (cond (is_eq (name_cmp q e.0)) (Some e.1)) rest)

-- the file that was put is there
pub text_of-with_file : (es : Texts) (k v : List ℕ) → text_of (with_file es k v) k ≡ Some v
text_of-with_file [] k v = rw (tied_itself nat_list_cmp_total k) refl
text_of-with_file (e ∷ es) k v = step (name_cmp k e.0) refl (text_of-with_file es k v)
  where
    step : (o : Ordering) → name_cmp k e.0 ≡ o → text_of (with_file es k v) k ≡ Some v → text_of (with_file (e ∷ es) k v) k ≡ Some v
    step Less is rest = rw is (rw (tied_itself nat_list_cmp_total k) refl)
    step Equal is rest = rw (is, is) refl
    step Greater is rest = rw (is, is) rest

-- a name below all others goes to the front
put_front : (es : Texts) (k v : List ℕ) → AllByRecursion (λ n. name_cmp k n ≡ Less) (keys_of es) → with_file es k v ≡ (k, v) ∷ es
put_front [] k v below = refl
put_front (e ∷ es) k v below = rw below.0 refl

pub all_above : (names : List (List ℕ)) (k m : List ℕ) → name_cmp k m ≡ Less → AllByRecursion (λ n. name_cmp m n ≡ Less) names → AllByRecursion (λ n. name_cmp k n ≡ Less) names
all_above [] k m below h = tt
all_above (n ∷ names) k m below h = (nat_list_cmp_total.trans k m n below h.0, all_above names k m below h.1)

-- first the new name and then without the old one, or the other way round
pub rename_steps : (es : Texts) (old new text : List ℕ) → IsStrictlySortedBy name_cmp (keys_of es) → is_eq (name_cmp old new) ≡ false → without_file (with_file es new text) old ≡ with_file (without_file es old) new text
rename_steps [] old new text sorted apart = rw apart refl
rename_steps (e ∷ es) old new text sorted apart = step (name_cmp new e.0) refl (name_cmp old e.0) refl (rename_steps es old new text (sorted_tail name_cmp e.0 (keys_of es) sorted) apart)
  where
    front : name_cmp new e.0 ≡ Less → with_file es new text ≡ (new, text) ∷ es
    front below = put_front es new text (all_above (keys_of es) new e.0 below (sorted_head name_cmp e.0 (keys_of es) sorted))

    step : (o : Ordering) → name_cmp new e.0 ≡ o → (p : Ordering) → name_cmp old e.0 ≡ p → without_file (with_file es new text) old ≡ with_file (without_file es old) new text → without_file (with_file (e ∷ es) new text) old ≡ with_file (without_file (e ∷ es) old) new text
    step Less is Less was rest = rw (is, apart, was) (rw is refl)
    step Less is Equal was rest = rw (is, apart, was) (sym (front is))
    step Less is Greater was rest = rw (is, apart, was) (rw is refl)
    step Equal is Less was rest = rw (is, was) (rw is refl)
    step Equal is Equal was rest = let same : is_eq (name_cmp old new) ≡ true = ap is_eq (alike_right nat_list_cmp_total new e.0 old is ∙ was) in cc
    step Equal is Greater was rest = rw (is, was) (rw is refl)
    step Greater is Less was rest = rw (is, was) (rw is (ap (λ fs. e ∷ fs) rest))
    step Greater is Equal was rest = rw (is, was) refl
    step Greater is Greater was rest = rw (is, was) (rw is (ap (λ fs. e ∷ fs) rest))

-- a text has one name
text_of_tied : (es : Texts) (p q : List ℕ) → name_cmp p q ≡ Equal → text_of es p ≡ text_of es q
text_of_tied [] p q same = refl
text_of_tied (e ∷ es) p q same = ap (λ o. cond (is_eq o) (Some e.1) (text_of es p)) (nat_list_cmp_total.congr p q e.0 same) ∙ ap (cond (is_eq (name_cmp q e.0)) (Some e.1)) (text_of_tied es p q same)

-- where a rename isn't refused, the one file is there, and the other isn't
pub record MayRename (es : Texts) (old new : List ℕ) : Type 0 where
  pub is_name : is_file_name new ≡ true
  pub there : is_some (text_of es old) ≡ true
  pub free : is_some (text_of es new) ≡ false
  pub apart : is_eq (name_cmp old new) ≡ false
  pub apart_back : is_eq (name_cmp new old) ≡ false

pub may_rename : (es : Texts) (old new : List ℕ) → rename_refusal es old new ≡ None → MayRename es old new
unfolding rename_refusal
may_rename es old new none = tests (is_file_name old) (is_file_name new) refl (is_some (text_of es old)) refl (is_some (text_of es new)) refl none
  where
    tests : (a b : Bool) → is_file_name new ≡ b → (s : Bool) → is_some (text_of es old) ≡ s → (t : Bool) → is_some (text_of es new) ≡ t → cond (not a) (Some BadName) (cond (not b) (Some BadName) (cond (not s) (Some NoFile) (cond t (Some FileExists) None))) ≡ None → MayRename es old new
    tests false b name s is t free e = cc
    tests true false name s is t free e = cc
    tests true true name false is t free e = cc
    tests true true name true is true free e = cc
    tests true true name true is false free e = record { is_name = name; there = is; free = free; apart = untied (name_cmp old new) refl; apart_back = untied_back (name_cmp new old) refl }
      where
        untied : (o : Ordering) → name_cmp old new ≡ o → is_eq o ≡ false
        untied Less same = refl
        untied Equal same = let both = ap is_some (text_of_tied es old new same) in cc
        untied Greater same = refl

        untied_back : (o : Ordering) → name_cmp new old ≡ o → is_eq o ≡ false
        untied_back Less same = refl
        untied_back Equal same = let both = ap is_some (text_of_tied es new old same) in cc
        untied_back Greater same = refl

-- the names ascend
pub sorted_pairs : {Y Z W : Type 0} (es : List (Vec ℕ Y × Rc (Vec ℕ Z) W)) → IsStrictlySortedBy (λ x y. slice_cmp nat_cmp x.items y.items) (keys_of es) → IsStrictlySortedBy name_cmp (keys_of (pairs_of es))
unfolding IsStrictlySortedBy
sorted_pairs {Y = Y} {Z = Z} {W = W} [] h = tt
sorted_pairs {Y = Y} {Z = Z} {W = W} (e ∷ es) h = (all e es h.0, sorted_pairs es h.1)
  where
    all : (e : Vec ℕ Y × Rc (Vec ℕ Z) W) (es : List (Vec ℕ Y × Rc (Vec ℕ Z) W)) → AllByRecursion (λ y. slice_cmp nat_cmp e.0.items y.items ≡ Less) (keys_of es) → AllByRecursion (λ n. name_cmp e.0.items n ≡ Less) (keys_of (pairs_of es))
    all e [] h = tt
    all e (f ∷ es) h = (h.0, all e es h.1)
