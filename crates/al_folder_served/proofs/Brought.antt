-- Files that are replaced by others: those that are gone are deleted one by one, and then those that are new or have another
-- source are put.
use Rattle.std.proofs.Common.{◌≡◌, ◌<◌, ◌≤◌, ℕ, zero, suc, Bool, true, false, cond, not, ◌&&◌, nat_lt, nat_le, List, [], ◌∷◌, ◌++◌, ◌||◌, Option, Some, None, is_some, Result, Ok, Err, is_ok, OnOk, IfErr, length, get_or, map, take, drop, ⊎_elim, refl, sym, ap, subst, ◌∙◌, arith}
use Rattle.std.specs.Cmp.{tied_itself, eq_by_cmp_equiv}
use Rattle.std.specs.Cmp.Lexicographic.{nat_list_cmp_total}
use Rattle.std.specs.Ordering.{eq_by_cmp, is_eq, ordering_reverse}
use Rattle.std.specs.declared.cmp.Ordering.TheVariants.{Less, Greater}
use Rattle.std.specs.BTreeMap.{is_at}
use Rattle.std.specs.List.{AllByRecursion, filter, list_any}
use Rattle.std.specs.List.Sorted.{IsStrictlySortedBy}
use Rattle.std.specs.Map.{keys_of, lookup}
use Rattle.std.specs.Option.{option_or}
use Rattle.std.proofs.lemmas.Bool.{cases_Bool}
use Rattle.std.proofs.lemmas.Bool.Decides.{nat_tests}
use Rattle.std.proofs.lemmas.List.{append-nil, drop_all, get_or-map, length-map, take_all}
use Rattle.std.proofs.lemmas.List.Kept.{IsStrictlySortedBy-filter}
use Rattle.std.proofs.lemmas.Map.{none_passes_from_lookup}
use Rattle.std.proofs.lemmas.Map.Entries.{lookup-filter-keys, length-keys_of}
use Rattle.std.proofs.lemmas.Map.Keys.{IsDistinct-from_sorted, IsDistinct-cons}
use Rattle.std.proofs.lemmas.Map.Steps.{length-le_from_keys}
use Rattle.al_base.specs.FileLaws.{Ascend}
use Rattle.al_base.specs.Files.{Texts, IsFile, name_cmp, text_of, with_file, without_file, put_refusal, delete_refusal, AnswersRefusal, AnswersFirst}
use Rattle.al_base.specs.Names.{is_file_name}
use Rattle.al_base.specs.declared.refusal.Refusal.{Refusal}
use Rattle.al_base.specs.declared.refusal.Refusal.TheVariants.{NoMemory, TooManyFiles}
use Rattle.al_base.proofs.FileLaws.{put_changes_one}
use Rattle.al_base.proofs.HeldFiles.{held_at}
use Rattle.al_base.proofs.Renames.{text_of-with_file_other}
use Rattle.al_folder_served.specs.Brought.{still_there}
use Rattle.al_folder_served.proofs.SameFiles.{tied, text_of_first, same_files}

-- ---- a file at a place

-- a name below all others is below the one at a place
below_at : (es : Texts) (k : List ℕ) (i : ℕ) (e : List ℕ × List ℕ) → AllByRecursion (λ n. name_cmp k n ≡ Less) (keys_of es) → i < length es → e ≡ get_or es i e → name_cmp k e.0 ≡ Less
below_at [] k i e below within is = absurd (omega (arith, within))
below_at (f ∷ fs) k zero e below within is = ap (λ g. name_cmp k g.0) is ∙ below.0
below_at (f ∷ fs) k (suc i) e below within is = below_at fs k i e below.1 (omega (arith, within)) is

module _ (f : List ℕ × List ℕ) (fs : Texts) (i : ℕ) (e : List ℕ × List ℕ) (below : AllByRecursion (λ n. name_cmp f.0 n ≡ Less) (keys_of fs)) (within : i < length fs) (is : e ≡ get_or fs i e) where
  above_first : name_cmp e.0 f.0 ≡ Greater
  above_first = nat_list_cmp_total.antisymm e.0 f.0 ∙ ap ordering_reverse (below_at fs f.0 i e below within is)

-- the file at a place is there
pub text_of_at : (es : Texts) (i : ℕ) (e : List ℕ × List ℕ) → Ascend es → i < length es → e ≡ get_or es i e → text_of es e.0 ≡ Some e.1
unfolding IsStrictlySortedBy
text_of_at [] i e sorted within is = absurd (omega (arith, within))
text_of_at (f ∷ fs) zero e sorted within is = subst (λ g. text_of (f ∷ fs) g.0 ≡ Some g.1) (sym is) (text_of_first f fs)
text_of_at (f ∷ fs) (suc i) e sorted within is = rw (above_first f fs i e sorted.0 (omega (arith, within)) is) (text_of_at fs i e sorted.1 (omega (arith, within)) is)

-- it isn't among those before it
not_before : (es : Texts) (i : ℕ) (e : List ℕ × List ℕ) → Ascend es → i < length es → e ≡ get_or es i e → text_of (take i es) e.0 ≡ None
unfolding IsStrictlySortedBy
not_before [] i e sorted within is = absurd (omega (arith, within))
not_before (f ∷ fs) zero e sorted within is = refl
not_before (f ∷ fs) (suc i) e sorted within is = rw (above_first f fs i e sorted.0 (omega (arith, within)) is) (not_before fs i e sorted.1 (omega (arith, within)) is)

-- it is among those up to it
at_end : (es : Texts) (i : ℕ) (e : List ℕ × List ℕ) → Ascend es → i < length es → e ≡ get_or es i e → text_of (take (suc i) es) e.0 ≡ Some e.1
unfolding IsStrictlySortedBy
at_end [] i e sorted within is = absurd (omega (arith, within))
at_end (f ∷ fs) zero e sorted within is = subst (λ g. text_of (f ∷ []) g.0 ≡ Some g.1) (sym is) (text_of_first f [])
at_end (f ∷ fs) (suc i) e sorted within is = rw (above_first f fs i e sorted.0 (omega (arith, within)) is) (at_end fs i e sorted.1 (omega (arith, within)) is)

-- no other name is among those up to it that isn't among those before it
no_other : (es : Texts) (i : ℕ) (e : List ℕ × List ℕ) (q : List ℕ) → i < length es → e ≡ get_or es i e → is_eq (name_cmp q e.0) ≡ false → text_of (take (suc i) es) q ≡ text_of (take i es) q
no_other [] i e q within is apart = absurd (omega (arith, within))
no_other (f ∷ fs) zero e q within is apart = let off : is_eq (name_cmp q f.0) ≡ false = ap (λ g. is_eq (name_cmp q g.0)) (sym is) ∙ apart in rw off refl
no_other (f ∷ fs) (suc i) e q within is apart = ap (cond (is_eq (name_cmp q f.0)) (Some f.1)) (no_other fs i e q (omega (arith, within)) is apart)

-- a name among the first ones is there
there_first : (es : Texts) (i : ℕ) (q : List ℕ) → is_some (text_of (take i es) q) ≡ true → is_some (text_of es q) ≡ true
there_first [] zero q is = is
there_first [] (suc i) q is = is
there_first (e ∷ es) zero q is = cc
there_first (e ∷ es) (suc i) q is = by (there_first es i q) (is_eq (name_cmp q e.0)) is
  where
    by : (is_some (text_of (take i es) q) ≡ true → is_some (text_of es q) ≡ true) → (b : Bool) → is_some (cond b (Some e.1) (text_of (take i es) q)) ≡ true → is_some (cond b (Some e.1) (text_of es q)) ≡ true
    by rest true is = refl
    by rest false is = rest is

-- ---- what is still there

pub text_of-still_there : (now files : Texts) (q : List ℕ) → text_of (still_there now files) q ≡ cond (is_some (text_of now q)) (text_of files q) None
text_of-still_there now files q = lookup-filter-keys (is_at (name_cmp q)) (λ k. is_some (text_of now k)) (is_some (text_of now q)) (λ k same. ap (λ n. is_some (text_of now n)) (sym (tied q k same))) files

names-filter : (p : List ℕ → Bool) (es : Texts) → keys_of (filter (λ e. p e.0) es) ≡ filter p (keys_of es)
names-filter p [] = refl
names-filter p (e ∷ es) = by (names-filter p es) (p e.0)
  where
    by : keys_of (filter (λ e. p e.0) es) ≡ filter p (keys_of es) → (b : Bool) → keys_of (cond b (e ∷ filter (λ e. p e.0) es) (filter (λ e. p e.0) es)) ≡ cond b (e.0 ∷ filter p (keys_of es)) (filter p (keys_of es))
    by rest true = ap (λ ns. e.0 ∷ ns) rest
    by rest false = rest

pub Ascend-still_there : (now files : Texts) → Ascend files → Ascend (still_there now files)
Ascend-still_there now files sorted = subst (IsStrictlySortedBy name_cmp) (sym (names-filter (λ k. is_some (text_of now k)) files)) (IsStrictlySortedBy-filter name_cmp (λ k. is_some (text_of now k)) (keys_of files) sorted)

-- ---- those that are gone are deleted, one by one

-- up to a place
abbrev pub deleted_to : Texts → Texts → ℕ → Texts
deleted_to now files i = still_there now (take i files) ++ drop i files

pub deletes_gone : (now files : Texts) (i : ℕ) (e : List ℕ × List ℕ) → Ascend files → i < length files → e ≡ get_or files i e → is_some (text_of now e.0) ≡ false → without_file (deleted_to now files i) e.0 ≡ deleted_to now files (suc i)
unfolding IsStrictlySortedBy
deletes_gone now [] i e sorted within is gone = absurd (omega (arith, within))
deletes_gone now (f ∷ fs) zero e sorted within is gone = subst (λ g. is_some (text_of now g.0) ≡ false → without_file (f ∷ fs) g.0 ≡ deleted_to now (f ∷ fs) 1) (sym is) (λ off. rw (tied_itself nat_list_cmp_total f.0, off) refl) gone
deletes_gone now (f ∷ fs) (suc i) e sorted within is gone = by (deletes_gone now fs i e sorted.1 (omega (arith, within)) is gone) (is_some (text_of now f.0))
  where
    by : without_file (deleted_to now fs i) e.0 ≡ deleted_to now fs (suc i) → (b : Bool) → without_file (cond b (f ∷ still_there now (take i fs)) (still_there now (take i fs)) ++ drop i fs) e.0 ≡ cond b (f ∷ still_there now (take (suc i) fs)) (still_there now (take (suc i) fs)) ++ drop (suc i) fs
    by rest true = rw (above_first f fs i e sorted.0 (omega (arith, within)) is) (ap (λ es. f ∷ es) rest)
    by rest false = rest

pub deletes_no_other : (now files : Texts) (i : ℕ) (e : List ℕ × List ℕ) → i < length files → e ≡ get_or files i e → is_some (text_of now e.0) ≡ true → deleted_to now files i ≡ deleted_to now files (suc i)
deletes_no_other now [] i e within is there = absurd (omega (arith, within))
deletes_no_other now (f ∷ fs) zero e within is there = let on : is_some (text_of now f.0) ≡ true = ap (λ g. is_some (text_of now g.0)) (sym is) ∙ there in rw on refl
deletes_no_other now (f ∷ fs) (suc i) e within is there = by (deletes_no_other now fs i e (omega (arith, within)) is there) (is_some (text_of now f.0))
  where
    by : deleted_to now fs i ≡ deleted_to now fs (suc i) → (b : Bool) → cond b (f ∷ still_there now (take i fs)) (still_there now (take i fs)) ++ drop i fs ≡ cond b (f ∷ still_there now (take (suc i) fs)) (still_there now (take (suc i) fs)) ++ drop (suc i) fs
    by rest true = ap (λ es. f ∷ es) rest
    by rest false = rest

-- up to the end
pub deleted_all : (now files : Texts) (i : ℕ) → length files ≤ i → deleted_to now files i ≡ still_there now files
deleted_all now files i past = ap (λ es. still_there now es ++ drop i files) (take_all i files past) ∙ ap (λ es. still_there now files ++ es) (drop_all i files past) ∙ append-nil (still_there now files)

-- the next one is still there
pub not_yet_deleted : (now files : Texts) (i : ℕ) (e : List ℕ × List ℕ) → Ascend files → i < length files → e ≡ get_or files i e → text_of (deleted_to now files i) e.0 ≡ Some e.1
unfolding IsStrictlySortedBy
not_yet_deleted now [] i e sorted within is = absurd (omega (arith, within))
not_yet_deleted now (f ∷ fs) zero e sorted within is = subst (λ g. text_of (f ∷ fs) g.0 ≡ Some g.1) (sym is) (text_of_first f fs)
not_yet_deleted now (f ∷ fs) (suc i) e sorted within is = by (not_yet_deleted now fs i e sorted.1 (omega (arith, within)) is) (is_some (text_of now f.0))
  where
    by : text_of (deleted_to now fs i) e.0 ≡ Some e.1 → (b : Bool) → text_of (cond b (f ∷ still_there now (take i fs)) (still_there now (take i fs)) ++ drop i fs) e.0 ≡ Some e.1
    by rest true = rw (above_first f fs i e sorted.0 (omega (arith, within)) is) rest
    by rest false = rest

-- ---- those of the others that have another source are put, one by one

-- up to a place: the first ones have their sources, and all others have the same sources as before
pub record ArePutTo (now had files : Texts) (i : ℕ) : Type 0 where
  pub ascend : Ascend files
  pub texts : (name : List ℕ) → text_of files name ≡ option_or (text_of (take i now) name) (text_of had name)

pub none_put : (now had files : Texts) → files ≡ had → Ascend files → ArePutTo now had files 0
none_put now had files are sorted = record { ascend = sorted; texts = λ name. ap (λ es. text_of es name) are }

module _ (now had files : Texts) (i : ℕ) (e : List ℕ × List ℕ) (sorted : Ascend now) (within : i < length now) (is : e ≡ get_or now i e) (put : ArePutTo now had files i) where
  -- under a name other than that at the place, everything is as before
  module _ (q : List ℕ) (apart : is_eq (name_cmp q e.0) ≡ false) where
    other_text : option_or (text_of (take i now) q) (text_of had q) ≡ option_or (text_of (take (suc i) now) q) (text_of had q)
    other_text = ap (λ t. option_or t (text_of had q)) (sym (no_other now i e q within is apart))

  its_text : Some e.1 ≡ option_or (text_of (take (suc i) now) e.0) (text_of had e.0)
  its_text = ap (λ t. option_or t (text_of had e.0)) (sym (at_end now i e sorted within is))

  pub puts_one : ArePutTo now had (with_file files e.0 e.1) (suc i)
  puts_one =
      let changes = put_changes_one files e.0 e.1 put.ascend in
      record {
        ascend = changes.ascend;
        texts = λ q.
            ⊎_elim
            (λ same. subst (λ n. text_of (with_file files e.0 e.1) n ≡ option_or (text_of (take (suc i) now) n) (text_of had n)) (sym (tied q e.0 same)) (changes.there ∙ its_text))
            (λ apart. text_of-with_file_other files e.0 e.1 q apart ∙ put.texts q ∙ other_text q apart)
            (cases_Bool (is_eq (name_cmp q e.0)));
      }

  pub leaves_one : text_of had e.0 ≡ Some e.1 → ArePutTo now had files (suc i)
  leaves_one it_had = record {
    ascend = put.ascend;
    texts = λ q.
        ⊎_elim
        (λ same. subst (λ n. text_of files n ≡ option_or (text_of (take (suc i) now) n) (text_of had n)) (sym (tied q e.0 same)) (put.texts e.0 ∙ ap (λ t. option_or t (text_of had e.0)) (not_before now i e sorted within is) ∙ it_had ∙ its_text))
        (λ apart. put.texts q ∙ other_text q apart)
        (cases_Bool (is_eq (name_cmp q e.0)));
  }

-- the file that was there under the name at the place is still there
pub still_had : (now before : Texts) (i : ℕ) (e : List ℕ × List ℕ) → Ascend now → i < length now → e ≡ get_or now i e → text_of before e.0 ≡ Some e.1 → text_of (still_there now before) e.0 ≡ Some e.1
still_had now before i e sorted within is had = text_of-still_there now before e.0 ∙ ap (λ t. cond (is_some t) (text_of before e.0) None) (text_of_at now i e sorted within is) ∙ had

-- if all are put, and the others were still there, no other is there
pub all_put : (now before files : Texts) (i : ℕ) → Ascend now → length now ≤ i → ArePutTo now (still_there now before) files i → files ≡ now
all_put now before files i sorted past put = same_files files now put.ascend sorted (λ q. put.texts q ∙ ap (λ es. option_or (text_of es q) (text_of (still_there now before) q)) (take_all i now past) ∙ by q (text_of now q) refl)
  where
    by : (q : List ℕ) (t : Option (List ℕ)) → text_of now q ≡ t → option_or (text_of now q) (text_of (still_there now before) q) ≡ text_of now q
    by q None is = rw is (text_of-still_there now before q ∙ ap (λ t. cond (is_some t) (text_of before q) None) is)
    by q (Some t) is = rw is refl

-- ---- there is room for one more

any-name : (test : List ℕ → Bool) (es : Texts) → list_any test (keys_of es) ≡ is_some (lookup test es)
any-name test [] = refl
any-name test (e ∷ es) = by (any-name test es) (test e.0)
  where
    by : list_any test (keys_of es) ≡ is_some (lookup test es) → (b : Bool) → (b || list_any test (keys_of es)) ≡ is_some (cond b (Some e.1) (lookup test es))
    by rest true = refl
    by rest false = rest

module _ (now before files : Texts) (i : ℕ) (put : ArePutTo now (still_there now before) files i) where
  -- only the files of now are there
  no_more : (q : List ℕ) → is_some (text_of files q) ≡ true → is_some (text_of now q) ≡ true
  no_more q there = by (text_of (take i now) q) refl (sym (ap is_some (put.texts q)) ∙ there)
    where
      by : (t : Option (List ℕ)) → text_of (take i now) q ≡ t → is_some (option_or (text_of (take i now) q) (text_of (still_there now before) q)) ≡ true → is_some (text_of now q) ≡ true
      by (Some t) is some = there_first now i q (ap is_some is)
      by None is some =
          ⊎_elim
          (λ on. on)
          (λ off. let none : is_some (text_of (still_there now before) q) ≡ false = ap is_some (text_of-still_there now before q ∙ ap (λ b. cond b (text_of before q) None) off) in let also : is_some (text_of (still_there now before) q) ≡ true = sym (ap (λ t. is_some (option_or t (text_of (still_there now before) q))) is) ∙ some in cc)
          (cases_Bool (is_some (text_of now q)))

  pub is_room : (e : List ℕ × List ℕ) → text_of now e.0 ≡ Some e.1 → is_some (text_of files e.0) ≡ false → length files < length now
  is_room e there off =
      let laws = eq_by_cmp_equiv nat_list_cmp_total in
      let none : text_of files e.0 ≡ None = is_none (text_of files e.0) off in
      let few = length-le_from_keys laws (e.0 ∷ keys_of files) now
      (IsDistinct-cons (eq_by_cmp name_cmp) e.0 (keys_of files) (names_apart files (none_passes_from_lookup (is_at (name_cmp e.0)) files none)) (IsDistinct-from_sorted name_cmp (keys_of files) put.ascend))
      (λ q any. found q (eq_by_cmp name_cmp q e.0) refl any) in
      omega (arith, few, length-keys_of files)
    where
      is_none : (t : Option (List ℕ)) → is_some t ≡ false → t ≡ None
      is_none None off = refl
      is_none (Some t) off = cc

      names_apart : (es : Texts) → AllByRecursion (λ f. is_at (name_cmp e.0) f.0 ≡ false) es → AllByRecursion (λ n. eq_by_cmp name_cmp e.0 n ≡ false) (keys_of es)
      names_apart [] all = tt
      names_apart (f ∷ fs) all = (all.0, names_apart fs all.1)

      found : (q : List ℕ) (b : Bool) → eq_by_cmp name_cmp q e.0 ≡ b → list_any (eq_by_cmp name_cmp q) (e.0 ∷ keys_of files) ≡ true → is_some (text_of now q) ≡ true
      found q true same any = ap (λ n. is_some (text_of now n)) (tied q e.0 same) ∙ ap is_some there
      found q false apart any = no_more q (sym (any-name (is_at (name_cmp q)) files) ∙ (rw apart at any))

-- ---- the files of a list that a loop goes over
module _ {A : Type 0} (v : A → List ℕ × List ℕ) (xs : List A) (files : Texts) (are : map v xs ≡ files) (i : ℕ) (a : A) (within : i < length xs) (is : a ≡ get_or xs i a) where
  pub item_within : i < length files
  item_within = subst (λ n. i < n) (sym (length-map xs v) ∙ ap length are) within

  pub item_is : v a ≡ get_or files i (v a)
  item_is = ap v is ∙ sym (get_or-map v xs i a (v a) within) ∙ ap (λ es. get_or es i (v a)) are

  pub item_file : AllByRecursion IsFile files → IsFile (v a)
  item_file each = held_at v xs i a (subst (AllByRecursion IsFile) (sym are) each) within is

module _ {A : Type 0} (v : A → List ℕ × List ℕ) (xs : List A) (files : Texts) (are : map v xs ≡ files) (i : ℕ) (past : length xs ≤ i) where
  pub past_all : length files ≤ i
  past_all = subst (λ n. n ≤ i) (sym (length-map xs v) ∙ ap length are) past

-- ---- what the library answers

pub done : {T E P : Type 0} (r : Result T E) → is_ok r ≡ true → OnOk r P → P
done (Ok x) is p = p
done (Err e) is p = absurd (cc)

-- if nothing is refused
pub not_refused : {T : Type 0} (r : Result T Refusal) (first : Option Refusal) → AnswersRefusal r first → first ≡ None → IfErr r (λ e. e ≡ NoMemory)
not_refused (Ok x) first answer none = tt
not_refused (Err e) first answer none = cc

pub only_no_memory : {T : Type 0} (r : Result T Refusal) (first : Option Refusal) → AnswersFirst r first → first ≡ None → IfErr r (λ e. e ≡ NoMemory)
only_no_memory (Ok x) first answer none = tt
only_no_memory (Err e) first answer none = ⊎_elim (λ is. cc) (λ out. out.1) answer

pub may_delete : (files : Texts) (name text : List ℕ) → is_file_name name ≡ true → text_of files name ≡ Some text → delete_refusal files name ≡ None
unfolding delete_refusal
may_delete files name text is there = rw (is, there) refl

pub may_put : (files : Texts) (name text : List ℕ) → IsFile (name, text) → (is_some (text_of files name) ≡ false → length files < 4096) → put_refusal files name (length text) ≡ None
unfolding put_refusal
may_put files name text is room = rw (is.0, long) (by (is_some (text_of files name)) (nat_le 4096 (length files)) room full)
  where
    long : nat_lt 1048576 (length text) ≡ false
    long = let short = is.1 in grind (arith, nat_tests, short)

    full : length files < 4096 → nat_le 4096 (length files) ≡ false
    full few = grind (arith, nat_tests, few)

    by : (there full : Bool) → (there ≡ false → length files < 4096) → (length files < 4096 → full ≡ false) → cond (not there && full) (Some TooManyFiles) None ≡ None
    by true full few less = refl
    by false full few less = rw (less (few refl)) refl
