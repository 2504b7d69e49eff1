-- The last identifier of a name with dots is what comes after its last dot.
use Rattle.std.proofs.Common.{◌≡◌, ℕ, zero, suc, ◌+◌, ◌-◌, ◌<◌, ◌==◌, Bool, true, false, not, List, [], ◌∷◌, ◌++◌, length, drop, map, Option, Some, None, if◌then◌else◌, refl, sym, ap, ◌∙◌, add-one, arith, append-nil, append_assoc}
use Rattle.std.specs.Prelude.{slice_get, unwrap_or}
use Rattle.std.specs.List.{flat_map, last_or}
use Rattle.std.specs.Option.{option_map_or}
use Rattle.al_unit_graph.specs.Names.{ancestors, parent_of}
use Rattle.al_unit_graph.proofs.BoolLemmas.{both, not_true}
use Rattle.al_query_outcome.specs.Defines.{is_simple}
use Rattle.al_query_outcome.specs.Left.{last_of}
use Rattle.al_decl.specs.Heads as heads
use Rattle.al_tree_grammar.specs.Grammar.{Label}
use Rattle.al_tree_syntax.specs.DeclarationTrees.{CompoundNameTree}
use Rattle.al_unit_header.specs.Units.{dotted}
use Rattle.al_check_promise_laws.proofs.AllLemmas.{All}

-- an identifier has no dot
no_ancestors : (s : List ℕ) → is_simple s ≡ true → ancestors s ≡ []
no_ancestors [] simple = refl
no_ancestors (b ∷ bs) simple =
    let two = both (not (b == 46)) (is_simple bs) simple in
    let none : (b == 46) ≡ false = not_true (b == 46) two.0 in
    rw none (ap (λ (ns : List (List ℕ)). map (λ a. b ∷ a) ns) (no_ancestors bs two.1))

last_mapped : (f : List ℕ → List ℕ) (o : Option (List ℕ)) (xs : List (List ℕ)) (y : List ℕ) → last_or None xs ≡ Some y → last_or o (map f xs) ≡ Some (f y)
last_mapped f o [] y is = absurd (cc)
last_mapped f o (x ∷ []) y is = let same : x ≡ y = cc in ap (λ (z : List ℕ). Some (f z)) same
last_mapped f o (x ∷ z ∷ zs) y is = last_mapped f (Some (f x)) (z ∷ zs) y is

parent_is : (p s : List ℕ) → is_simple s ≡ true → parent_of (p ++ 46 ∷ s) ≡ Some p
parent_is [] s simple = ap (λ (ns : List (List ℕ)). last_or (Some []) (map (λ a. 46 ∷ a) ns)) (no_ancestors s simple)
parent_is (b ∷ p) s simple = at (b == 46) (parent_is p s simple)
  where
    at : (c : Bool) → parent_of (p ++ 46 ∷ s) ≡ Some p
        → last_or None (if c then [] ∷ map (λ a. b ∷ a) (ancestors (p ++ 46 ∷ s)) else map (λ a. b ∷ a) (ancestors (p ++ 46 ∷ s))) ≡ Some (b ∷ p)
    at true is = last_mapped (λ a. b ∷ a) (Some []) (ancestors (p ++ 46 ∷ s)) p is
    at false is = last_mapped (λ a. b ∷ a) None (ancestors (p ++ 46 ∷ s)) p is

drop_past : (p s : List ℕ) → drop (suc (length p)) (p ++ 46 ∷ s) ≡ s
drop_past [] s = refl
drop_past (b ∷ p) s = drop_past p s

last_is : (p s : List ℕ) → is_simple s ≡ true → last_of (p ++ 46 ∷ s) ≡ s
last_is p s simple =
    ap (λ (o : Option (List ℕ)). option_map_or (λ (q : List ℕ). drop (length q + 1) (p ++ 46 ∷ s)) o (p ++ 46 ∷ s)) (parent_is p s simple)
    ∙ ap (λ (n : ℕ). drop n (p ++ 46 ∷ s)) (add-one (length p))
    ∙ drop_past p s

-- ---- a name with dots between its identifiers

abbrev pub Simple : Label → Type 0
Simple l = is_simple l.text ≡ true

last-alone : (s : List ℕ) → is_simple s ≡ true → last_of s ≡ s
last-alone s simple = ap (λ (ns : List (List ℕ)). option_map_or (λ (q : List ℕ). drop (length q + 1) s) (last_or None ns) s) (no_ancestors s simple)

-- the last of these, or this one
abbrev last_label : Label → List Label → Label
last_label f ls = unwrap_or (slice_get ls (length ls - 1)) f

last-more : (f l : Label) (ls : List Label) → last_label f (l ∷ ls) ≡ last_label l ls
last-more f l [] =
    let e : length (l ∷ []) - 1 ≡ 0 = omega arith in ap (λ (n : ℕ). unwrap_or (slice_get (l ∷ []) n) f) e
last-more f l (m ∷ ms) =
    let e : length (l ∷ m ∷ ms) - 1 ≡ suc (length ms) = omega arith in
    let k : length (m ∷ ms) - 1 ≡ length ms = omega arith in
    ap (λ (n : ℕ). unwrap_or (slice_get (l ∷ m ∷ ms) n) f) e ∙ there f l (m ∷ ms) (length ms) (omega arith) ∙ ap (λ (n : ℕ). unwrap_or (slice_get (m ∷ ms) n) l) (sym k)
  where
    there : (f l : Label) (xs : List Label) (n : ℕ) → n < length xs → unwrap_or (slice_get xs n) f ≡ unwrap_or (slice_get xs n) l
    there f l [] n less = absurd (omega arith)
    there f l (x ∷ xs) zero less = refl
    there f l (x ∷ xs) (suc n) less = there f l xs n (omega arith)

last-after : (x : List ℕ) (f : Label) → last_of x ≡ f.text → (ls : List Label) → All Simple ls → last_of (x ++ flat_map (λ (l : Label). 46 ∷ l.text) ls) ≡ (last_label f ls).text
last-after x f e [] a = ap last_of (append-nil x) ∙ e
last-after x f e (l ∷ ls) a =
    ap last_of (sym (append_assoc x (46 ∷ l.text) (flat_map (λ (m : Label). 46 ∷ m.text) ls))) ∙ last-after (x ++ 46 ∷ l.text) l (last_is x l.text a.0) ls a.1 ∙ ap (λ (m : Label). m.text) (sym (last-more f l ls))

pub last-dotted : (n : CompoundNameTree) → Simple n.first → All Simple n.selectors → last_of (dotted n) ≡ (heads.last_of n).text
last-dotted n f a = last-after n.first.text n.first (last-alone n.first.text f) n.selectors a
