-- Libraries with the same headers except for places have the same units, and these depend on the same units.
use Rattle.std.proofs.Common.{◌≡◌, ℕ, Bool, true, false, not, ◌&&◌, List, [], ◌∷◌, ◌++◌, map, Option, Some, None, refl, sym, ap, ◌∙◌, if◌then◌else◌}
use Rattle.std.specs.Option.{is_some, option_and_then, option_map, option_map_or}
use Rattle.std.specs.List.{flat_map}
use Rattle.al_base.specs.Batch.{Key}
use Rattle.al_base.specs.FileNames.{file_name_of}
use Rattle.al_base.specs.declared.unit_key.UnitKind.TheVariants.{Decl, Body, Sub}
use Rattle.al_unit_graph.specs.Headers.{Contents, Headed, Mention, Header, Source, Library, Unread, is_library_body, is_subprogram_body}
use Rattle.al_unit_graph.specs.Names.{is_without_file, lineage, parent_of}
use Rattle.al_unit_graph.specs.Library.{source_at, is_rightly_named, is_there, held, unit_in, of_key, unit_at, is_unit, has_declaration_file, acts_as_declaration, declaration_of, has_body_file, parent_body_of}
use Rattle.al_unit_graph.specs.Dependence.{listed, parent_declaration, own_declaration, parent_dependences, mention_dependences, dependences, direct}
use Rattle.al_unit_graph.specs.Needed.{present, body_of, subunits_of}
use Rattle.al_engine.specs.GraphGraphs.{HaveSameHeaders, unplaced, unplaced_contents, unplaced_mention}

-- what doesn't depend on places is the same of a header without places
pub without : {X : Type 0} (F : Header → X) (none : X) → ((h : Header) → F (unplaced h) ≡ F h) → (o : Option Header) → option_map_or F o none ≡ option_map_or F (option_map unplaced o) none
without F none is None = refl
without F none is (Some h) = sym (is h)

-- what doesn't depend on a place is the same of a mention without its place
pub parent_without : {X : Type 0} (F : Mention → X) (none : X) → ((m : Mention) → F (unplaced_mention m) ≡ F m) → (o : Option Mention) → option_map_or F (option_map unplaced_mention o) none ≡ option_map_or F o none
parent_without F none is None = refl
parent_without F none is (Some m) = is m

pub mentions_without : {X : Type 0} (F : Mention → List X) → ((m : Mention) → F (unplaced_mention m) ≡ F m) → (ms : List Mention) → flat_map F (map unplaced_mention ms) ≡ flat_map F ms
mentions_without F is [] = refl
mentions_without F is (m ∷ ms) = λ i. is m i ++ mentions_without F is ms i

-- a unit that is there in both
pub there_too : (old new : Option Header) → option_map unplaced old ≡ option_map unplaced new → (h : Header) → old ≡ Some h → (k : Header) × (new ≡ Some k) × (unplaced h ≡ unplaced k)
there_too (Some a) (Some b) same h is = let one : a ≡ h = cc in (b, refl, ap unplaced (sym one) ∙ cc)
there_too (Some a) None same h is = absurd (cc)
there_too None new same h is = absurd (cc)

some_by : (o : Option Source) → is_some o ≡ is_some (option_map (λ source. unplaced_contents source.contents) o)
some_by None = refl
some_by (Some source) = refl

some_unplaced : (o : Option Header) → is_some o ≡ is_some (option_map unplaced o)
some_unplaced None = refl
some_unplaced (Some h) = refl

if_unplaced : (b : Bool) (h : Header) → option_map unplaced (if b then Some h else None) ≡ (if b then Some (unplaced h) else None)
if_unplaced true h = refl
if_unplaced false h = refl

held_unplaced : (file : List ℕ) (contents : Contents) → option_map unplaced (held file contents) ≡ held file (unplaced_contents contents)
held_unplaced file (Headed h) = if_unplaced (is_rightly_named file h) h
held_unplaced file (Unread place code) = refl

held_by : (file : List ℕ) (o : Option Source) → option_map unplaced (option_and_then (λ source. held file source.contents) o) ≡ option_and_then (held file) (option_map (λ source. unplaced_contents source.contents) o)
held_by file None = refl
held_by file (Some source) = held_unplaced file source.contents

of_key_unplaced : (key : Key) (o : Option Header) → option_map unplaced (option_and_then (of_key key) o) ≡ option_and_then (of_key key) (option_map unplaced o)
of_key_unplaced key None = refl
of_key_unplaced key (Some h) = if_unplaced _ h

-- what a unit depends on doesn't depend on places
parents_without : (lib : Library) (h : Header) (parent : Option Mention) → parent_dependences lib (unplaced h) (option_map unplaced_mention parent) ≡ parent_dependences lib h parent
parents_without lib h None = refl
parents_without lib h (Some parent) = refl

header_without : (lib : Library) (h : Header) → dependences lib (unplaced h) ≡ dependences lib h
unfolding dependences
header_without lib h = λ i. parents_without lib h h.parent_body i ++ mentions_without (mention_dependences lib) (λ m. refl) h.mentions i

module _ (old new : Library) (same : HaveSameHeaders old new) where
  there : (file : List ℕ) → is_there old file ≡ is_there new file
  there file = some_by (source_at old file) ∙ (λ i. is_some (same.contents file i)) ∙ sym (some_by (source_at new file))

  pub the_unit_in : (file : List ℕ) → option_map unplaced (unit_in old file) ≡ option_map unplaced (unit_in new file)
  the_unit_in file = held_by file (source_at old file) ∙ (λ i. option_and_then (held file) (same.contents file i)) ∙ sym (held_by file (source_at new file))

  pub the_unit_at : (key : Key) → option_map unplaced (unit_at old key) ≡ option_map unplaced (unit_at new key)
  unfolding unit_at
  the_unit_at key =
      of_key_unplaced key (unit_in old (file_name_of key)) ∙ (λ i. option_and_then (of_key key) (the_unit_in (file_name_of key) i)) ∙ sym (of_key_unplaced key (unit_in new (file_name_of key)))

  -- what depends on a unit, and not on its places, is the same
  pub by_unit : {X : Type 0} (F : Header → X) (none : X) → ((h : Header) → F (unplaced h) ≡ F h) → (key : Key) → option_map_or F (unit_at old key) none ≡ option_map_or F (unit_at new key) none
  by_unit F none is key = without F none is (unit_at old key) ∙ (λ i. option_map_or F (the_unit_at key i) none) ∙ sym (without F none is (unit_at new key))

  pub is_a_unit : (key : Key) → is_unit old key ≡ is_unit new key
  is_a_unit key = some_unplaced (unit_at old key) ∙ (λ i. is_some (the_unit_at key i)) ∙ sym (some_unplaced (unit_at new key))

  pub has_declaration : (name : List ℕ) → has_declaration_file old name ≡ has_declaration_file new name
  has_declaration name = λ i. not (is_without_file name) && there (file_name_of (name, Decl)) i

  pub has_body : (name : List ℕ) → has_body_file old name ≡ has_body_file new name
  has_body name = λ i. not (is_without_file name) && there (file_name_of (name, Body)) i

  pub acts : (h : Header) → acts_as_declaration old h ≡ acts_as_declaration new h
  acts h = λ i. is_subprogram_body h.form && not (has_declaration h.name i)

  pub the_declaration : (name : List ℕ) → declaration_of old name ≡ declaration_of new name
  unfolding declaration_of
  the_declaration name = λ i.
      if has_declaration name i then Some (name, Decl)
      else if by_unit (λ h. is_subprogram_body h.form) false (λ h. refl) (name, Body) i then Some (name, Body)
      else None

  pub the_parent_body : (name : List ℕ) → parent_body_of old name ≡ parent_body_of new name
  unfolding parent_body_of
  the_parent_body name = λ i.
      if not (has_body name i) then None
      else if is_a_unit (name, Sub) i then Some (name, Sub)
      else Some (name, Body)

  of_parent : (name : List ℕ) → parent_declaration old name ≡ parent_declaration new name
  of_parent name = λ i. listed (option_and_then (λ n. the_declaration n i) (parent_of name))

  of_own : (h : Header) → own_declaration old h ≡ own_declaration new h
  of_own h = λ i. if is_library_body h.form && has_declaration h.name i then (h.name, Decl) ∷ [] else []

  of_parents : (h : Header) (parent : Option Mention) → parent_dependences old h parent ≡ parent_dependences new h parent
  of_parents h None = λ i. of_parent h.name i ++ of_own h i
  of_parents h (Some parent) = λ i. listed (the_parent_body parent.name i)

  of_mention : (m : Mention) → mention_dependences old m ≡ mention_dependences new m
  of_mention m = λ i. flat_map (λ n. listed (the_declaration n i)) (lineage m.name)

  of_header : (h : Header) → dependences old h ≡ dependences new h
  unfolding dependences
  of_header h = λ i. of_parents h h.parent_body i ++ flat_map (λ m. of_mention m i) h.mentions

  pub what_directly : (key : Key) → direct old key ≡ direct new key
  what_directly key = (λ i. option_map_or (λ h. of_header h i) (unit_at old key) []) ∙ by_unit (dependences new) [] (header_without new) key

  pub present_alike : (key : Key) → present old key ≡ present new key
  present_alike key = λ i. if is_a_unit key i then key ∷ [] else []

  pub the_body_of : (key : Key) → body_of old key ≡ body_of new key
  the_body_of (name, Decl) = present_alike (name, Body)
  the_body_of (name, Body) = refl
  the_body_of (name, Sub) = refl

  pub the_subunits_of : (name : List ℕ) (h k : Header) → unplaced h ≡ unplaced k → subunits_of old name h ≡ subunits_of new name k
  the_subunits_of name h k is = (λ i. flat_map (λ stub. present_alike (name ++ 46 ∷ stub, Sub) i) h.stubs) ∙ ap (subunits_of new name) is

-- the same, the other way round
pub back : (old new : Library) → HaveSameHeaders old new → HaveSameHeaders new old
back old new same = record { files = sym same.files; contents = λ file. sym (same.contents file) }
