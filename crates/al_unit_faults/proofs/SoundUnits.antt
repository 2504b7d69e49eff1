-- What is there of a unit that breaks no rule of the graph.
use Rattle.std.proofs.Common.{◌≡◌, ◌≢◌, ℕ, ◌⊎◌, inl, inr, Bool, true, false, not, ◌&&◌, ◌||◌, List, [], ◌∷◌, ◌++◌, Option, Some, None, if◌then◌else◌, refl, ap, subst, sym, ◌∙◌}
use Rattle.std.specs.Prelude.{codes}
use Rattle.std.specs.Option.{is_some, option_and_then, option_map_or}
use Rattle.std.specs.List.{Contains, flat_map, list_any}
use Rattle.std.specs.Str.{bytes_eq}
use Rattle.std.proofs.lemmas.Slice.Eq.{bytes_eq-Decides}
use Rattle.std.proofs.lemmas.List.Elements.{Contains-append_left, Contains-append_right}
use Rattle.al_base.specs.Batch.{Key}
use Rattle.al_base.specs.FileNames.{file_name_of}
use Rattle.al_base.specs.declared.unit_key.UnitKind.{UnitKind}
use Rattle.al_base.specs.declared.unit_key.UnitKind.TheVariants.{Decl, Body, Sub}
use Rattle.al_base_graph.proofs.Members.{any_from, first, first_or_later, nowhere}
use Rattle.al_unit_graph.specs.Headers.{Mention, Header, Headed, Library, Source, kind_of, key_of_unit, is_library_body, is_package_body, is_subprogram_body}
use Rattle.al_unit_graph.specs.declared.header.UnitForm.{UnitForm}
use Rattle.al_unit_graph.specs.declared.header.UnitForm.TheVariants.{PackageDeclaration, SubprogramDeclaration, PackageBody, SubprogramBody, SubunitBody}
use Rattle.al_unit_graph.specs.Names.{ada, is_predefined, is_reserved, is_without_file, standard}
use Rattle.al_unit_graph.specs.Library.{declaration_of, has_body_file, has_declaration_file, is_kind, is_there, parent_body_of, source_at, unit_at, unit_in}
use Rattle.al_unit_graph.specs.Dependence.{direct, dependences, mention_dependences, own_declaration, parent_declaration, parent_dependences}
use Rattle.al_unit_graph.specs.Faults.{finding}
use Rattle.al_unit_graph.specs.Faults.BreaksByItself.{missing_declaration}
use Rattle.al_unit_graph.specs.Faults.Breaks.{by_itself}
use Rattle.al_unit_graph.proofs.BoolLemmas.{not_both, true_not, and}
use Rattle.al_unit_faults.proofs.UnitLemmas.{at_key, in_file, some_is}
use Rattle.al_unit_faults.specs.Reached.{is_faultless}
use Rattle.al_unit_faults.proofs.FaultlessLemmas.{breaks_nothing, from_faultless}
use Rattle.al_unit_faults.specs.OrderLaws.{AreThere}
use Rattle.al_unit_faults.specs.Read.{NameParentBodies}

same_bytes : (a b : List ℕ) → bytes_eq a b ≡ true → a ≡ b
same_bytes a b is = (bytes_eq-Decides a b).0 is

-- a name that no file declares is the implementation's
predefined_reserved : (n : List ℕ) → is_predefined n ≡ true → is_reserved n ≡ true
predefined_reserved n is =
    let r = any_from (bytes_eq n) (ada ∷ codes "ada.real_time" ∷ codes "ada.text_io" ∷ []) is in
    let same : n ≡ r.0 = same_bytes n r.0 r.2 in
    let P : List ℕ → Type 0 = λ m. is_reserved m ≡ true in
    subst P (sym same) (elim (first_or_later ada (codes "ada.real_time" ∷ codes "ada.text_io" ∷ []) r.0 r.1) [
      | inl a ↦ subst P a refl
      | inr b ↦ elim (first_or_later (codes "ada.real_time") (codes "ada.text_io" ∷ []) r.0 b) [
        | inl c ↦ subst P c refl
        | inr d ↦ elim (first_or_later (codes "ada.text_io") [] r.0 d) [ inl e ↦ subst P e refl | inr f ↦ absurd (nowhere r.0 f) ]
      ]
    ])

has_file_by : (n : List ℕ) (s p : Bool) → bytes_eq n standard ≡ s → is_predefined n ≡ p → is_reserved n ≡ false → is_without_file n ≡ false
has_file_by n true p is pre free = let no : is_reserved n ≡ true = rw is refl in absurd (not_both (is_reserved n) no free)
has_file_by n false true is pre free = absurd (not_both (is_reserved n) (predefined_reserved n pre) free)
has_file_by n false false is pre free = rw is (rw pre refl)

pub has_file : (n : List ℕ) → is_reserved n ≡ false → is_without_file n ≡ false
has_file n free = has_file_by n (bytes_eq n standard) (is_predefined n) refl refl free

body_file : (n : List ℕ) → file_name_of (n, Sub) ≡ file_name_of (n, Body)
unfolding file_name_of
body_file n = refl

-- a unit of the library
pub record Stands (lib : Library) (key : Key) : Type 0 where
  pub unit : Header
  pub at : unit_at lib key ≡ Some unit
  pub key_is : key_of_unit unit ≡ key
  pub source : Source
  pub there : source_at lib (file_name_of key) ≡ Some source
  pub headed : source.contents ≡ Headed unit
  pub free : is_reserved key.0 ≡ false

pub stands_at : (lib : Library) (key : Key) (h : Header) → unit_at lib key ≡ Some h → Stands lib key
stands_at lib key h at =
    let r = at_key lib key h at in
    let held = in_file lib (file_name_of key) h r.0 in
    record {
      unit = h;
      at = at;
      key_is = r.1;
      source = held.source;
      there = held.there;
      headed = held.headed;
      free = ap is_reserved (sym (ap (λ (k : Key). k.0) r.1)) ∙ held.free;
    }

-- one that breaks no rule
pub stands : (lib : Library) (key : Key) → is_faultless lib key ≡ true → Stands lib key
stands lib key is = let s = from_faultless lib key is in stands_at lib key s.unit s.at

pub reserved_is_not : (lib : Library) (key : Key) → is_reserved key.0 ≡ true → is_faultless lib key ≡ false
reserved_is_not lib key reserved = by (is_faultless lib key) refl
  where
    by : (b : Bool) → is_faultless lib key ≡ b → b ≡ false
    by true is = absurd (not_both (is_reserved key.0) reserved (stands lib key is).free)
    by false is = refl

module _ (lib : Library) (n : List ℕ) where
  declaration_file : Stands lib (n, Decl) → has_declaration_file lib n ≡ true
  declaration_file s =
      and (not (is_without_file n)) (is_there lib (file_name_of (n, Decl))) (true_not (is_without_file n) (has_file n s.free)) (ap is_some s.there)

  pub declared : is_faultless lib (n, Decl) ≡ true → declaration_of lib n ≡ Some (n, Decl)
  unfolding declaration_of
  declared is = let file = declaration_file (stands lib (n, Decl) is) in rw file refl

  -- a body's form
  body_form : (f : UnitForm) → kind_of f ≡ Body → (is_package_body f ≡ true) ⊎ (is_subprogram_body f ≡ true)
  body_form PackageDeclaration is = absurd (cc)
  body_form SubprogramDeclaration is = absurd (cc)
  body_form PackageBody is = inl refl
  body_form SubprogramBody is = inr refl
  body_form SubunitBody is = absurd (cc)

  acting_by : (s : Stands lib (n, Body)) → is_faultless lib (n, Body) ≡ true → has_declaration_file lib n ≡ false → (is_package_body s.unit.form ≡ true) ⊎ (is_subprogram_body s.unit.form ≡ true) → declaration_of lib n ≡ Some (n, Body)
  unfolding declaration_of
  acting_by s is none (inl of_package) =
      let name : s.unit.name ≡ n = ap (λ (k : Key). k.0) s.key_is in
      let missing : has_declaration_file lib s.unit.name ≡ false = ap (has_declaration_file lib) name ∙ none in
      absurd (breaks_nothing lib (n, Body) s.unit (finding (file_name_of (n, Body)) s.unit.place 202) is s.at (by_itself (missing_declaration of_package missing)))
  acting_by s is none (inr of_subprogram) = let at = s.at in rw none (rw at (rw of_subprogram refl))

  acting_where : (b : Bool) → has_declaration_file lib n ≡ b → is_faultless lib (n, Body) ≡ true → declaration_of lib n ≡ Some (n, Body) ⊎ declaration_of lib n ≡ Some (n, Decl)
  unfolding declaration_of
  acting_where true file is = inr (rw file refl)
  acting_where false none is = let s = stands lib (n, Body) is in inl (acting_by s is none (body_form s.unit.form (ap (λ (k : Key). k.1) s.key_is)))

  pub acting : is_faultless lib (n, Body) ≡ true → declaration_of lib n ≡ Some (n, Body) ⊎ declaration_of lib n ≡ Some (n, Decl)
  acting is = acting_where (has_declaration_file lib n) refl is

  library_body : (f : UnitForm) → kind_of f ≡ Body → (is_library_body f ≡ true) × (is_kind (kind_of f) Sub ≡ false)
  library_body PackageDeclaration is = absurd (cc)
  library_body SubprogramDeclaration is = absurd (cc)
  library_body PackageBody is = (refl, refl)
  library_body SubprogramBody is = (refl, refl)
  library_body SubunitBody is = absurd (cc)

  none_there : (o : Option Mention) → is_some o ≡ false → o ≡ None
  none_there None is = refl
  none_there (Some m) is = absurd (cc)

  -- a body depends on the declaration that it completes
  pub completed : NameParentBodies lib → Stands lib (n, Body) → Stands lib (n, Decl) → Contains (direct lib (n, Body)) (n, Decl)
  unfolding dependences
  completed named s declaration =
      let at = s.at in
      let h = s.unit in
      let form = library_body h.form (ap (λ (k : Key). k.1) s.key_is) in
      let parent : h.parent_body ≡ None = none_there h.parent_body ((named (file_name_of (n, Body)) s.source h s.there s.headed).has ∙ form.1) in
      let name : h.name ≡ n = ap (λ (k : Key). k.0) s.key_is in
      let file : has_declaration_file lib h.name ≡ true = ap (has_declaration_file lib) name ∙ declaration_file declaration in
      let test : (is_library_body h.form && has_declaration_file lib h.name) ≡ true = and (is_library_body h.form) (has_declaration_file lib h.name) form.0 file in
      let here : Key = (h.name, Decl) in
      let there : Key = (n, Decl) in
      let same : here ≡ there = ap (λ (m : List ℕ). let k : Key = (m, Decl) in k) name in
      let own : Contains (own_declaration lib h) there = rw test (subst (λ (k : Key). Contains (here ∷ []) k) same (first here [])) in
      let parents : Contains (parent_dependences lib h h.parent_body) (n, Decl) = subst (λ o. Contains (parent_dependences lib h o) (n, Decl)) (sym parent) (Contains-append_right (parent_declaration lib h.name) (own_declaration lib h) (n, Decl) own) in
      let all : Contains (dependences lib h) (n, Decl) = Contains-append_left (parent_dependences lib h h.parent_body) (flat_map (mention_dependences lib) h.mentions) (n, Decl) parents in
      subst (λ o. Contains (option_map_or (dependences lib) o []) (n, Decl)) (sym at) all

  pub completes : NameParentBodies lib → is_faultless lib (n, Body) ≡ true → is_faultless lib (n, Decl) ≡ true → Contains (direct lib (n, Body)) (n, Decl)
  completes named is declaration = completed named (stands lib (n, Body) is) (stands lib (n, Decl) declaration)

  has_body : (source : Source) → is_reserved n ≡ false → source_at lib (file_name_of (n, Body)) ≡ Some source → has_body_file lib n ≡ true
  has_body source free there =
      and (not (is_without_file n)) (is_there lib (file_name_of (n, Body))) (true_not (is_without_file n) (has_file n free)) (ap is_some there)

  kinds_apart : (f : UnitForm) → kind_of f ≡ Body → kind_of f ≡ Sub → ⊥
  kinds_apart f a b = cc

  no_subunit : (h : Header) → unit_at lib (n, Body) ≡ Some h → (o : Option Header) → unit_at lib (n, Sub) ≡ o → is_some o ≡ false
  no_subunit h at None is = refl
  no_subunit h at (Some g) is =
      let a = at_key lib (n, Body) h at in
      let b = at_key lib (n, Sub) g is in
      let same : h ≡ g = some_is h g (sym a.0 ∙ ap (unit_in lib) (sym (body_file n)) ∙ b.0) in
      absurd (kinds_apart h.form (ap (λ (k : Key). k.1) a.1) (ap (λ (x : Header). kind_of x.form) same ∙ ap (λ (k : Key). k.1) b.1))

  pub body_there : is_faultless lib (n, Body) ≡ true → parent_body_of lib n ≡ Some (n, Body)
  unfolding parent_body_of
  body_there is =
      let s = stands lib (n, Body) is in
      let file = has_body s.source s.free s.there in
      let none = no_subunit s.unit s.at (unit_at lib (n, Sub)) refl in
      rw file (rw none refl)

  pub subunit_there : is_faultless lib (n, Sub) ≡ true → parent_body_of lib n ≡ Some (n, Sub)
  unfolding parent_body_of
  subunit_there is =
      let s = stands lib (n, Sub) is in
      let file = has_body s.source s.free (ap (source_at lib) (sym (body_file n)) ∙ s.there) in
      let at = s.at in
      rw file (rw at refl)

pub all_there : (lib : Library) → AreThere lib
all_there lib = record {
  unit = λ key is. let s = stands lib key is in (s.unit, s.at, s.key_is);
  declared = λ n is. declared lib n is;
  acting = λ n is. acting lib n is;
  completes = λ named n is declaration. completes lib n named is declaration;
  body = λ n is. body_there lib n is;
  subunit = λ n is. subunit_there lib n is;
  reserved = reserved_is_not lib;
}
