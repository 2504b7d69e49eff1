-- Files by their places among the names of a library's files.
use Rattle.std.proofs.Common.{◌≡◌, ℕ, zero, suc, ◌+◌, ◌<◌, Bool, true, false, List, [], ◌∷◌, length, get_or, map, nat_eq, Option, Some, None, refl, ap, sym, subst, ◌∙◌, arith}
use Rattle.std.specs.Prelude.{IfSome, IsTrue}
use Rattle.std.specs.Option.{option_map, option_map_or}
use Rattle.std.specs.List.{Contains}
use Rattle.std.specs.Cmp.Lexicographic.{bytes_decides, pointwise}
use Rattle.std.specs.Map.{keys_of}
use Rattle.std.proofs.lemmas.Map.Lookups.{exact_bytes}
use Rattle.std.proofs.lemmas.Map.Views.{Contains-from_lookup, tells_apart}
use borrow.Author.Count.{below_more}
use Rattle.al_unit_graph.specs.Headers.{Source, Library}
use Rattle.al_unit_graph.specs.Library.{source_at}
use Rattle.al_unit_graph.proofs.Lists.{into_map}
use Rattle.al_unit_graph.proofs.BoolLemmas.{both}
use Rattle.al_engine.specs.GraphGraphs.{HaveSameHeaders, contents_at, unplaced_contents}
use Rattle.al_engine.specs.Texts.{HaveTextsBut, may_differ, text_in}
use Rattle.al_engine.specs.declared.alike.Edited.{Edited}

-- names that are equal one by one
module _ {A : Type 0} (f : A → List ℕ) where
  pub same_texts : (xs ys : List A) → pointwise (λ x y. pointwise nat_eq (f x) (f y)) xs ys ≡ true → map f xs ≡ map f ys
  same_texts [] [] is = refl
  same_texts [] (y ∷ ys) is = absurd (cc)
  same_texts (x ∷ xs) [] is = absurd (cc)
  same_texts (x ∷ xs) (y ∷ ys) is =
      let b = both (pointwise nat_eq (f x) (f y)) (pointwise (λ (x y : A). pointwise nat_eq (f x) (f y)) xs ys) is in
      λ i. (bytes_decides (f x) (f y)).0 b.0 i ∷ same_texts xs ys b.1 i

module _ {A B : Type 0} (f : A → B) where
  at : (xs : List A) (i : ℕ) (d : A) (b : B) → i < length xs → get_or (map f xs) i b ≡ b → f (get_or xs i d) ≡ b
  at [] i d b below is = absurd (omega arith)
  at (x ∷ xs) zero d b below is = is
  at (x ∷ xs) (suc i) d b below is = at xs i d b (omega arith) is

  -- what holds of the first files and of the next one
  pub stepped : (P : B → Type 0) (xs : List A) (i : ℕ) (d : A) → i < length xs → ((k : ℕ) → k < i → (b : B) → get_or (map f xs) k b ≡ b → P b) → P (f (get_or xs i d)) → (k : ℕ) → k < i + 1 → (b : B) → get_or (map f xs) k b ≡ b → P b
  stepped P xs i d below all here = below_more (λ k. (b : B) → get_or (map f xs) k b ≡ b → P b) i all (λ b is. subst P (at xs i d b below is) here)

-- a file that is in a library is one of its files
pub file_there : (lib : Library) (file : List ℕ) (s : Source) → source_at lib file ≡ Some s → Contains (keys_of lib) file
file_there lib file s is = into_map (λ e. e.0) lib (file, s) (Contains-from_lookup (tells_apart exact_bytes) file s lib is)

module _ (old new : Library) (files : List (List ℕ)) (of_old : files ≡ keys_of old) (of_new : files ≡ keys_of new) (P : List ℕ → Type 0) (each : (k : ℕ) → k < length files → (file : List ℕ) → get_or files k file ≡ file → P file) (no_file : (file : List ℕ) → source_at old file ≡ None → source_at new file ≡ None → P file) where
  listed : (file : List ℕ) → Contains files file → P file
  listed file c = each c.0 c.1 file c.2

  by_sources : (file : List ℕ) (o n : Option Source) → source_at old file ≡ o → source_at new file ≡ n → P file
  by_sources file (Some s) n is_old is_new = listed file (subst (λ (fs : List (List ℕ)). Contains fs file) (sym of_old) (file_there old file s is_old))
  by_sources file None (Some s) is_old is_new = listed file (subst (λ (fs : List (List ℕ)). Contains fs file) (sym of_new) (file_there new file s is_new))
  by_sources file None None is_old is_new = no_file file is_old is_new

  -- what holds of each file that both libraries have, and of each name that neither has
  pub everywhere : (file : List ℕ) → P file
  everywhere file = by_sources file (source_at old file) (source_at new file) refl refl

-- what is known of a file: it is read as before, and unless its source may differ it is the same
abbrev pub Known : Library → Library → Edited → List ℕ → Type 0
Known old new edited file = (contents_at old file ≡ contents_at new file) × ((may_differ edited file → ⊥) → text_in old file ≡ text_in new file)

-- a file stays known if more files may differ
pub more_known : (old new : Library) (edited more : Edited) → ((f : List ℕ) → may_differ edited f → may_differ more f) → (file : List ℕ) → Known old new edited file → Known old new more file
more_known old new edited more kept file known = (known.0, λ never. known.1 (λ may. never (kept file may)))

-- one more file is known
pub now_known : (old new : Library) (more : Edited) (file : List ℕ) (found : Option Bool) (same : Bool) → found ≡ Some same → IfSome found (λ s. (contents_at old file ≡ contents_at new file) × (IsTrue s → text_in old file ≡ text_in new file)) → (same ≡ false → may_differ more file) → Known old new more file
now_known old new more file found same is kept noted =
    by same (subst (λ (o : Option Bool). IfSome o (λ s. (contents_at old file ≡ contents_at new file) × (IsTrue s → text_in old file ≡ text_in new file))) is kept) noted
  where
    by : (b : Bool) → (contents_at old file ≡ contents_at new file) × (IsTrue b → text_in old file ≡ text_in new file) → (b ≡ false → may_differ more file) → Known old new more file
    by true both noted = (both.0, λ never. both.1 refl)
    by false both noted = (both.0, λ never. absurd (never (noted refl)))

pub all_known : (old new : Library) (files : List (List ℕ)) → files ≡ keys_of old → files ≡ keys_of new → (edited : Edited) → ((k : ℕ) → k < length files → (file : List ℕ) → get_or files k file ≡ file → Known old new edited file) → HaveSameHeaders old new × HaveTextsBut old new edited
all_known old new files of_old of_new edited each =
    let known = everywhere old new files of_old of_new (Known old new edited) each (λ file o n. (ap (option_map (λ (source : Source). unplaced_contents source.contents)) (o ∙ sym n), λ never. ap (λ (s : Option Source). option_map_or (λ (source : Source). source.text) s []) (o ∙ sym n))) in
    (record { files = sym of_old ∙ of_new; contents = λ file. (known file).0 }, λ file never. (known file).1 never)
