-- Units of a library by file and by key.
use Rattle.std.proofs.Common.{◌≡◌, ℕ, Bool, true, false, not, List, [], ◌∷◌, Option, Some, None, if◌then◌else◌, refl, ap, subst, sym, ◌∙◌, cond, ◌<◌, length, map, get_or}
use Rattle.std.specs.Option.{option_and_then}
use Rattle.std.specs.List.{Contains, list_any}
use Rattle.std.specs.Str.{bytes_eq}
use Rattle.std.specs.Map.{lookup}
use Rattle.std.specs.BTreeMap.{is_at}
use Rattle.std.proofs.lemmas.Slice.Eq.{bytes_eq-Decides}
use Rattle.std.proofs.lemmas.Map.Text.{is_eq-slice_cmp}
use Rattle.al_base.specs.Batch.{Key}
use Rattle.al_base.specs.Files.{name_cmp}
use Rattle.al_base.specs.FileNames.{file_name_of}
use Rattle.al_base.specs.declared.unit_key.UnitKind.{UnitKind}
use Rattle.al_base.specs.declared.unit_key.UnitKind.TheVariants.{Decl, Body, Sub}
use Rattle.al_base_graph.proofs.Members.{first, later}
use Rattle.al_unit_graph.specs.Headers.{Header, Contents, Headed, Unread, Source, Library, key_of_unit}
use Rattle.al_unit_graph.specs.Names.{is_reserved}
use Rattle.al_unit_graph.specs.Library.{source_at, is_rightly_named, held, unit_in, is_kind, of_key, unit_at}
use Rattle.al_unit_graph.specs.Closures.{is_same_key}
use Rattle.al_unit_graph.proofs.BoolLemmas.{both, and, not_true}
use Rattle.al_unit_graph.proofs.ClosureLemmas.{same_key, any_at}

pub then_some : {X Y : Type 0} (f : X → Option Y) (o : Option X) (y : Y) → option_and_then f o ≡ Some y → (x : X) × (o ≡ Some x) × (f x ≡ Some y)
then_some f None y is = absurd (cc)
then_some f (Some x) y is = (x, refl, is)

pub some_is : {X : Type 0} (x y : X) → Some x ≡ Some y → x ≡ y
some_is x y is = cc

-- where a test holds, the item
pub some_if : {X : Type 0} (b : Bool) (x y : X) → (if b then Some x else None) ≡ Some y → (b ≡ true) × (x ≡ y)
some_if true x y is = (refl, cc)
some_if false x y is = absurd (cc)

same_kind : (k : UnitKind) → is_kind k k ≡ true
same_kind Decl = refl
same_kind Body = refl
same_kind Sub = refl

pub itself : (k : Key) → is_same_key k k ≡ true
itself k = and (bytes_eq k.0 k.0) (is_kind k.1 k.1) ((bytes_eq-Decides k.0 k.0).1 refl) (same_kind k.1)

pub told_same : (a b : Key) → a ≡ b → is_same_key a b ≡ true
told_same a b same = subst (λ k. is_same_key a k ≡ true) same (itself a)

-- the unit of a file
held_from : (file : List ℕ) (contents : Contents) (h : Header) → held file contents ≡ Some h → (contents ≡ Headed h) × (is_rightly_named file h ≡ true)
held_from file (Headed g) h is =
    let r = some_if (is_rightly_named file g) g h is in
    (ap (λ k. Headed k) r.1, subst (λ k. is_rightly_named file k ≡ true) r.1 r.0)
held_from file (Unread place code) h is = absurd (cc)

pub record IsHeld (lib : Library) (file : List ℕ) (h : Header) : Type 0 where
  pub source : Source
  pub there : source_at lib file ≡ Some source
  pub headed : source.contents ≡ Headed h
  pub named : file ≡ file_name_of (key_of_unit h)
  pub free : is_reserved h.name ≡ false

pub in_file : (lib : Library) (file : List ℕ) (h : Header) → unit_in lib file ≡ Some h → IsHeld lib file h
in_file lib file h is =
    let s = then_some (λ source. held file source.contents) (source_at lib file) h is in
    let r = held_from file s.0.contents h s.2 in
    let parts = both (bytes_eq file (file_name_of (key_of_unit h))) (not (is_reserved h.name)) r.1 in
    record {
      source = s.0;
      there = s.1;
      headed = r.0;
      named = (bytes_eq-Decides file (file_name_of (key_of_unit h))).0 parts.0;
      free = not_true (is_reserved h.name) parts.1;
    }

pub into_file : (lib : Library) (file : List ℕ) (source : Source) (h : Header) → source_at lib file ≡ Some source → source.contents ≡ Headed h → is_rightly_named file h ≡ true → unit_in lib file ≡ Some h
into_file lib file source h there headed named = rw there (rw headed (rw named refl))

pub held_here : (file : List ℕ) (h : Header) → is_rightly_named file h ≡ true → held file (Headed h) ≡ Some h
held_here file h named = rw named refl

-- the unit of a key
pub at_key : (lib : Library) (key : Key) (h : Header) → unit_at lib key ≡ Some h → (unit_in lib (file_name_of key) ≡ Some h) × (key_of_unit h ≡ key)
unfolding unit_at
at_key lib key h is =
    let s = then_some (of_key key) (unit_in lib (file_name_of key)) h is in
    let r = some_if (is_same_key (key_of_unit s.0) key) s.0 h s.2 in
    (s.1 ∙ ap (λ g. Some g) r.1, ap (λ g. key_of_unit g) (sym r.1) ∙ same_key (key_of_unit s.0) key r.0)

pub at_own_key : (lib : Library) (file : List ℕ) (h : Header) → unit_in lib file ≡ Some h → unit_at lib (key_of_unit h) ≡ Some h
unfolding unit_at
at_own_key lib file h is =
    let held = in_file lib file h is in
    let at : unit_in lib (file_name_of (key_of_unit h)) ≡ Some h = subst (λ f. unit_in lib f ≡ Some h) held.named is in
    rw at (rw (itself (key_of_unit h)) refl)

-- the entry of a file
entry_by : {K X : Type 0} (test : K → Bool) (e : K × X) (es : List (K × X)) (x : X) (b : Bool) → test e.0 ≡ b → (lookup test es ≡ Some x → (f : K × X) × Contains es f × (test f.0 ≡ true)) → cond b (Some e.1) (lookup test es) ≡ Some x → (f : K × X) × Contains (e ∷ es) f × (test f.0 ≡ true)
entry_by test e es x true is rest found = (e, first e es, is)
entry_by test e es x false is rest found = let r = rest found in (r.0, later e es r.0 r.1, r.2)

pub entry : {K X : Type 0} (test : K → Bool) (es : List (K × X)) (x : X) → lookup test es ≡ Some x → (f : K × X) × Contains es f × (test f.0 ≡ true)
entry test [] x found = absurd (cc)
entry test (e ∷ es) x found = entry_by test e es x (test e.0) refl (entry test es x) found

pub same_name : (p q : List ℕ) → is_at (name_cmp p) q ≡ true → p ≡ q
same_name p q is = (bytes_eq-Decides p q).0 (sym (is_eq-slice_cmp p q) ∙ is)

pub told_same_name : (p q : List ℕ) → p ≡ q → is_at (name_cmp p) q ≡ true
told_same_name p q same = is_eq-slice_cmp p q ∙ (bytes_eq-Decides p q).1 same

pub among_files : (lib : Library) (file : List ℕ) (source : Source) → source_at lib file ≡ Some source → (e : List ℕ × Source) × Contains lib e × (file ≡ e.0)
among_files lib file source there =
    let r = entry (is_at (name_cmp file)) lib source there in
    (r.0, r.1, same_name file r.0.0 r.2)

-- a test that passes at one place of a list of slices
pub any_name : {X : Type 0} (p : List ℕ → Bool) (f : X → List ℕ) (xs : List X) (i : ℕ) (d : X) → i < length xs → p (f (get_or xs i d)) ≡ true → true ≡ list_any p (map f xs)
any_name p f xs i d within is = sym (any_at p f xs i d within is)
