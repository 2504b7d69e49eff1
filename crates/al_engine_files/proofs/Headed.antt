-- The sources of texts.
use Rattle.std.proofs.Common.{◌≡◌, ℕ, Bool, true, false, cond, List, [], ◌∷◌, ◌++◌, Option, Some, None, refl, ap, subst, sym, ◌∙◌}
use Rattle.std.specs.Option.{is_some, option_map}
use Rattle.std.specs.Map.{lookup}
use Rattle.std.specs.BTreeMap.{is_at}
use Rattle.al_base.specs.Files.{Texts, name_cmp}
use Rattle.al_base.specs.declared.unit_key.UnitKind.TheVariants.{Sub}
use Rattle.al_tree_syntax.specs.DeclarationTrees.{CompoundNameTree}
use Rattle.al_tree_syntax.specs.UnitTrees.{CompilationUnitTree, LibraryItemTree}
use Rattle.al_tree_syntax.specs.UnitTrees.LibraryItemTree.{LibrarySubprogram, LibraryPackage, LibraryBody, LibraryPackageBody, Subunit}
use Rattle.al_unit_header.specs.Units.{dotted, form_of, full_name, header_of, item_name, mention_of, parent_body_name}
use Rattle.al_unit_graph.specs.Headers.{Header, Headed, Mention, Source, kind_of}
use Rattle.al_unit_graph.specs.Library.{is_kind, source_at}
use Rattle.al_unit.specs.Libraries.{contents_of, library_of, source_of}
use Rattle.al_unit.specs.Readings.{Reading, reading_of}
use Rattle.al_unit.specs.Readings.Reading.{Sentence, Fails}
use Rattle.al_engine_files.specs.Headed.{ReadsHeaders, TextsAreHeaded}
use Rattle.al_unit_faults.specs.Read.{NamesParentBody}

-- each file of the library is one of the sources
source_by : (file : List ℕ) (f : List ℕ × List ℕ) (b : Bool) (others : Option Source) (source : Source) → (others ≡ Some source → (text : List ℕ) × (source_of text ≡ source)) → cond b (Some (source_of f.1)) others ≡ Some source → (text : List ℕ) × (source_of text ≡ source)
source_by file f true others source rest is = (f.1, cc)
source_by file f false others source rest is = rest is

source_is : (files : Texts) (file : List ℕ) (source : Source) → source_at (library_of files) file ≡ Some source → (text : List ℕ) × (source_of text ≡ source)
unfolding library_of
source_is [] file source is = absurd (cc)
source_is (f ∷ fs) file source is = source_by file f (is_at (name_cmp file) f.0) (source_at (library_of fs) file) source (source_is fs file source) is

headed_by : (r : Reading) (h : Header) → contents_of r ≡ Headed h → (unit : CompilationUnitTree) × (r ≡ Sentence unit) × (header_of unit ≡ h)
headed_by (Sentence unit) h is = (unit, refl, cc)
headed_by (Fails place code) h is = absurd (cc)

-- a unit in a source, with its header
pub headed_text : (files : Texts) (file : List ℕ) (source : Source) (h : Header) → source_at (library_of files) file ≡ Some source → source.contents ≡ Headed h → (unit : CompilationUnitTree) × (reading_of source.text ≡ Sentence unit) × (header_of unit ≡ h)
headed_text files file source h is headed =
    let t = source_is files file source is in
    let text : t.0 ≡ source.text = ap (λ (s : Source). s.text) t.1 in
    let contents : contents_of (reading_of t.0) ≡ Headed h = ap (λ (s : Source). s.contents) t.1 ∙ headed in
    headed_by (reading_of source.text) h (ap (λ x. contents_of (reading_of x)) (sym text) ∙ contents)

parents_by : (item : LibraryItemTree) → is_some (parent_body_name item) ≡ is_kind (kind_of (form_of item)) Sub
parents_by (LibrarySubprogram p s) = refl
parents_by (LibraryPackage p l k) = refl
parents_by (LibraryBody s b) = refl
parents_by (LibraryPackageBody l k) = refl
parents_by (Subunit l o n s b) = refl

mapped : {X Y : Type 0} (g : X → Y) (o : Option X) → is_some (option_map g o) ≡ is_some o
mapped g None = refl
mapped g (Some x) = refl

named_by : (o : Option CompoundNameTree) (name : CompoundNameTree) (m : Mention) → option_map mention_of o ≡ Some m → full_name o name ≡ m.name ++ 46 ∷ dotted name
named_by None name m is = absurd (cc)
named_by (Some n) name m is = let same : mention_of n ≡ m = cc in ap (λ (x : Mention). x.name ++ 46 ∷ dotted name) same

names_of : (unit : CompilationUnitTree) → NamesParentBody (header_of unit)
unfolding header_of
names_of unit = record { has = mapped mention_of (parent_body_name unit.item) ∙ parents_by unit.item; name = named_by (parent_body_name unit.item) (item_name unit.item) }

pub texts_are_headed : TextsAreHeaded
texts_are_headed header files reads = (
  (λ file source h is headed. let u = headed_text files file source h is headed in reads source.text u.0 u.1 ∙ u.2),
  (λ file source h is headed. let u = headed_text files file source h is headed in subst (λ (x : Header). NamesParentBody x) u.2 (names_of u.0)),
)
