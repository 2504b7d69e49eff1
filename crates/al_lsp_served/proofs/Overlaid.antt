-- Files that follow what was read.
use Rattle.std.proofs.Common.{◌≡◌, ◌<◌, ◌≤◌, ℕ, suc, ◌+◌, Bool, true, false, cond, not, ◌&&◌, nat_lt, nat_le, List, [], ◌∷◌, Option, Some, None, is_some, length, get_or, map, drop, refl, sym, ap, subst, ◌∙◌, arith}
use Rattle.std.specs.Ordering.{is_eq, eq_by_cmp, match_ordering}
use Rattle.std.specs.declared.cmp.Ordering.{Ordering}
use Rattle.std.specs.declared.cmp.Ordering.TheVariants.{Less, Equal, Greater}
use Rattle.std.specs.Option.{is_none}
use Rattle.std.specs.Cmp.{eq_by_cmp_equiv}
use Rattle.std.specs.Cmp.Lexicographic.{nat_list_cmp_total, nat_list_eq_equiv}
use Rattle.std.specs.List.{AllByRecursion}
use Rattle.std.specs.Str.{bytes_eq}
use Rattle.std.specs.Map.{keys_of}
use Rattle.std.proofs.lemmas.Bool.{cond-false}
use Rattle.std.proofs.lemmas.Bool.Decides.{nat_tests}
use Rattle.std.proofs.lemmas.List.{drop_more, drop_all, get_or-map, length-map}
use Rattle.std.proofs.lemmas.Map.Entries.{lookup_from_place}
use Rattle.std.proofs.lemmas.Map.Keys.{IsDistinct-from_sorted}
use Rattle.std.proofs.lemmas.Map.Text.{is_eq-slice_cmp}
use Rattle.std.proofs.lemmas.Option.{slice_get_read}
use Rattle.al_base.specs.FileLaws.{Ascend}
use Rattle.al_base.specs.Files.{Texts, IsFile, name_cmp, text_of, with_file, without_file, put_refusal, delete_refusal}
use Rattle.al_base.specs.Names.{is_file_name}
use Rattle.al_base.specs.declared.refusal.Refusal.{Refusal}
use Rattle.al_base.specs.declared.refusal.Refusal.TheVariants.{BadName, NoFile, TextTooLong, TooManyFiles}
use Rattle.al_base.proofs.FileLaws.{Ascend-without_file, delete_changes_one}
use Rattle.al_base.proofs.HeldFiles.{held_at}
use Rattle.al_lsp_served.proofs.ByName.{same_name}

fewer_by : (e : List ℕ × List ℕ) (es : Texts) (k v : List ℕ) (o : Ordering) → length es ≤ length (with_file es k v) → length (e ∷ es) ≤ length (match_ordering o ((k, v) ∷ e ∷ es) ((e.0, v) ∷ es) (e ∷ with_file es k v))
fewer_by e es k v Less rest = omega (arith)
fewer_by e es k v Equal rest = omega (arith)
fewer_by e es k v Greater rest = omega (arith, rest)

-- a put takes no file away
pub no_fewer : (files : Texts) (name text : List ℕ) → length files ≤ length (with_file files name text)
no_fewer [] name text = omega (arith)
no_fewer (e ∷ es) name text = fewer_by e es name text (name_cmp name e.0) (no_fewer es name text)

-- after a file is taken away
pub ascends : (files : Texts) (name : List ℕ) → Ascend files → Ascend (without_file files name)
ascends files name sorted = Ascend-without_file files name sorted

pub deleted : (files : Texts) (name : List ℕ) → Ascend files → text_of (without_file files name) name ≡ None
deleted files name sorted = (delete_changes_one files name sorted).there

-- .. which is refused only where it isn't there
pub not_there : (files : Texts) (name : List ℕ) (e : Refusal) → is_file_name name ≡ true → delete_refusal files name ≡ Some e → text_of files name ≡ None
unfolding delete_refusal
not_there files name e is refused = by (is_file_name name) (text_of files name) is refused
  where
    by : (b : Bool) (t : Option (List ℕ)) → b ≡ true → cond (not b) (Some BadName) (cond (not (is_some t)) (Some NoFile) None) ≡ Some e → t ≡ None
    by true None is refused = refl
    by true (Some t) is refused = absurd (cc)
    by false t is refused = absurd (cc)

-- a file is refused only where no more are taken
pub refused_full : (files : Texts) (name text : List ℕ) → IsFile (name, text) → is_none (put_refusal files name (length text)) ≡ false → 4096 ≤ length files
unfolding put_refusal
refused_full files name text file refused = by (is_file_name name) file.0 (nat_lt 1048576 (length text)) short (is_some (text_of files name)) (nat_le 4096 (length files)) refl refused
  where
    short : nat_lt 1048576 (length text) ≡ false
    short = let few = file.1 in grind (arith, nat_tests, few)

    by : (a : Bool) → a ≡ true → (b : Bool) → b ≡ false → (s t : Bool) → nat_le 4096 (length files) ≡ t → is_none (cond (not a) (Some BadName) (cond b (Some TextTooLong) (cond (not s && t) (Some TooManyFiles) None))) ≡ false → 4096 ≤ length files
    by false is b short s t full e = absurd (cc)
    by true is true short s t full e = absurd (cc)
    by true is false short s true full e = grind (arith, nat_tests, full)
    by true is false short true false full e = absurd (cc)
    by true is false short false false full e = absurd (cc)

-- ---- the files of a list, one by one

module _ (es : Texts) (i : ℕ) (e : List ℕ × List ℕ) (within : i < length es) (is : e ≡ get_or es i e) where
  -- the file at a place
  pub at_place : Ascend es → text_of es e.0 ≡ Some e.1
  at_place sorted = lookup_from_place (eq_by_cmp_equiv nat_list_cmp_total) es i e.0 e.1 (IsDistinct-from_sorted name_cmp (keys_of es) sorted) (slice_get_read es (length es) i e refl within is)

  here : drop i es ≡ e ∷ drop (i + 1) es
  here = drop_more es i e within ∙ ap (λ x. x ∷ drop (i + 1) es) (sym is)

  -- another one isn't left behind it, and so not from it on
  pub not_left : (name : List ℕ) → bytes_eq e.0 name ≡ false → text_of (drop (i + 1) es) name ≡ None → text_of (drop i es) name ≡ None
  not_left name differ none =
      let apart : is_eq (name_cmp name e.0) ≡ false = is_eq-slice_cmp name e.0 ∙ nat_list_eq_equiv.symm name e.0 ∙ differ in
      ap (λ l. text_of l name) here ∙ cond-false (is_eq (name_cmp name e.0)) (Some e.1) (text_of (drop (i + 1) es) name) apart ∙ none

  -- what holds of the names that aren't left, with one more
  pub one_more : (Q : List ℕ → Type 0) (want : List ℕ → Option (List ℕ)) (texts after : Texts) → ((name : List ℕ) → Q name → text_of (drop i es) name ≡ None → text_of texts name ≡ want name) → ((other : List ℕ) → bytes_eq e.0 other ≡ false → text_of after other ≡ text_of texts other) → (Q e.0 → text_of after e.0 ≡ want e.0) → (name : List ℕ) → Q name → text_of (drop (i + 1) es) name ≡ None → text_of after name ≡ want name
  one_more Q want texts after so_far others its name q none = by (bytes_eq e.0 name) refl
    where
      by : (b : Bool) → bytes_eq e.0 name ≡ b → text_of after name ≡ want name
      by true same = subst (λ n. Q n → text_of after n ≡ want n) (same_name e.0 name same) its q
      by false differ = others name differ ∙ so_far name q (not_left name differ none)

-- .. at the end
pub none_left : (es : Texts) (i : ℕ) (name : List ℕ) → length es ≤ i → text_of (drop i es) name ≡ None
none_left es i name past = ap (λ l. text_of l name) (drop_all i es past)

-- ---- the files of a list that a loop goes over

module _ {A : Type 0} (v : A → List ℕ × List ℕ) (xs : List A) (files : Texts) (are : map v xs ≡ files) (i : ℕ) (a : A) (within : i < length xs) (is : a ≡ get_or xs i a) where
  pub item_within : i < length files
  item_within = subst (λ n. i < n) (sym (length-map xs v) ∙ ap length are) within

  pub item_is : v a ≡ get_or files i (v a)
  item_is = ap v is ∙ sym (get_or-map v xs i a (v a) within) ∙ ap (λ es. get_or es i (v a)) are

  pub item_file : AllByRecursion IsFile files → IsFile (v a)
  item_file each = held_at v xs i a (subst (AllByRecursion IsFile) (sym are) each) within is

pub past_all : {A : Type 0} (v : A → List ℕ × List ℕ) (xs : List A) (files : Texts) → map v xs ≡ files → (i : ℕ) → length xs ≤ i → length files ≤ i
past_all v xs files are i past = subst (λ n. n ≤ i) (sym (length-map xs v) ∙ ap length are) past

-- a file that was put is there, or no more files are taken
pub put_there : (files old new : Texts) (name text : List ℕ) (taken : Bool) → files ≡ old → IsFile (name, text) → length new < 4096 → length old ≤ length new → taken ≡ is_none (put_refusal files name (length text)) → (taken ≡ true → text_of new name ≡ Some text) → text_of new name ≡ Some text
put_there files old new name text true same file few more refusal there = there refl
put_there files old new name text false same file few more refusal there =
    let full = refused_full old name text file (sym (refusal ∙ ap (λ f. is_none (put_refusal f name (length text))) same)) in
    absurd (omega (arith, full, few, more))
