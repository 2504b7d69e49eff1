-- Folders that are read, one behind the other.
use Rattle.std.proofs.Common.{◌≡◌, ◌+◌, ◌<◌, ℕ, List, [], ◌∷◌, ◌++◌, length, map, take, get_or, String, string_bytes, refl, sym, ap, subst, ◌∙◌, fold, append_assoc, append-nil}
use Rattle.std.proofs.lemmas.List.{take_more, map-append}
use Rattle.std.proofs.lemmas.List.Sums.{fold-append}
use Rattle.al_base.specs.Files.{Texts}
use Rattle.al_lsp_served.specs.Overlays.{AreRead, AreGathered, with_read}

pub none_read : (has : List ℕ → List (List ℕ × List ℕ) → Type 0) → AreGathered has [] []
none_read has = record { list = []; read = refl; is = refl }

are_read_more : (has : List ℕ → List (List ℕ × List ℕ) → Type 0) (folders : List (List ℕ)) (folder : List ℕ) (list more : List (List ℕ × List ℕ)) → AreRead has folders list → has folder more → AreRead has (folders ++ folder ∷ []) (list ++ more)
are_read_more has [] folder list more none is = (more, [], (is, (refl, ap (λ l. l ++ more) none ∙ sym (append-nil more))))
are_read_more has (f ∷ fs) folder list more read is =
    (read.0, read.1 ++ more, (read.2.0, (are_read_more has fs folder read.1 more read.2.1.0 is, ap (λ l. l ++ more) read.2.1.1 ∙ append_assoc read.0 read.1 more)))

-- one folder more
pub read_more : (has : List ℕ → List (List ℕ × List ℕ) → Type 0) (folders : List (List ℕ)) (folder : List ℕ) (files after : List (List ℕ × List ℕ)) (more : List (List ℕ × List ℕ)) → AreGathered has folders files → has folder more → after ≡ fold with_read files more → AreGathered has (folders ++ folder ∷ []) after
read_more has folders folder files after more so_far is gathers = record {
  list = so_far.list ++ more;
  read = are_read_more has folders folder so_far.list more so_far.read is;
  is = gathers ∙ ap (λ f. fold with_read f more) so_far.is ∙ sym (fold-append with_read [] so_far.list more);
}

-- the next folder
pub read_folder : {Z : Type 0} (has : List ℕ → List (List ℕ × List ℕ) → Type 0) (folders : List (String Z)) (i : ℕ) (d : String Z) (name : List ℕ) (files after : Texts) (more : List (List ℕ × List ℕ)) → i < length folders → name ≡ string_bytes (get_or folders i d) → AreGathered has (map string_bytes (take i folders)) files → has name more → after ≡ fold with_read files more → AreGathered has (map string_bytes (take (i + 1) folders)) after
read_folder has folders i d name files after more lt is so_far in_it gathers =
    subst (λ l. AreGathered has l after) (sym (ap (map string_bytes) (take_more folders i d lt) ∙ map-append string_bytes (take i folders) (get_or folders i d ∷ []))) (subst (λ n. AreGathered has (map string_bytes (take i folders) ++ n ∷ []) after) is (read_more has (map string_bytes (take i folders)) name files after more so_far in_it gathers))
