-- A name whose components were turned round, and its words.
use Rattle.std.proofs.Common.{◌≡◌, ◌<◌, ◌≤◌, ℕ, Bool, true, false, Box, Global, refl, subst, sym, ap, ◌∙◌, arith}
use Rattle.std.specs.Prelude.{⊤}
use Rattle.al_view.specs.declared.types.Bounds.{Bounds}
use Rattle.al_view.specs.declared.view.ObjectPlace.{ObjectPlace}
use Rattle.al_view.specs.declared.view.ObjectPlace.TheVariants.{Frame}
use Rattle.al_view_typed.specs.ExpressionTrees.{NameTree, TypedTree}
use Rattle.al_view_typed.specs.ExpressionTrees.NameTree.{ObjectName, ComponentName, IndexedName}
use Rattle.al_view_typed.specs.ExpressionViews.{name_model, typed_model}
use Rattle.al_view_typed.specs.declared.expression.Actual.TheViews.{sized-Component, sized-Indexed}
use Rattle.al_view_typed.specs.declared.expression.Typed.{Typed, size-Typed}
use Rattle.al_view_typed.specs.declared.expression.TypedName.{TypedName, size-TypedName}
use Rattle.al_view_typed.specs.declared.expression.TypedName.TheVariants.{Object, Component, Component', Indexed, Indexed'}
use Rattle.al_view_typed.proofs.ExpressionsMade.{component_made, indexed_made, object_made}
use Rattle.al_overload_slots.specs.Slots.{after, name_after, name_numbered, numbered}
use Rattle.al_overload_slots.specs.Turned.{has_prefix, prefix_in, with_prefix}

-- ---- trees

-- the whole name, if this one was turned round above what comes before its components
abbrev pub unwound : NameTree → NameTree → NameTree
unwound (ObjectName place is_constant) name = name
unwound (ComponentName up offset) name = unwound up (ComponentName name offset)
unwound (IndexedName up index bounds words) name = unwound up (IndexedName name index bounds words)

-- the same with the words of its indexes, from this one on
abbrev pub numbered_up : ℕ → NameTree → NameTree → NameTree
numbered_up word (ObjectName place is_constant) name = name
numbered_up word (ComponentName up offset) name = numbered_up word up (ComponentName name offset)
numbered_up word (IndexedName up index bounds words) name = numbered_up (after word index) up (IndexedName name (numbered word index) bounds words)

abbrev pub after_up : ℕ → NameTree → ℕ
after_up word (ObjectName place is_constant) = word
after_up word (ComponentName up offset) = after_up word up
after_up word (IndexedName up index bounds words) = after_up (after word index) up

pub unwound_numbered : (word : ℕ) (up name : NameTree) → name_numbered word (unwound up name) ≡ numbered_up (name_after word name) up (name_numbered word name)
unwound_numbered word (ObjectName place is_constant) name = refl
unwound_numbered word (ComponentName up offset) name = unwound_numbered word up (ComponentName name offset)
unwound_numbered word (IndexedName up index bounds words) name = unwound_numbered word up (IndexedName name index bounds words)

pub unwound_after : (word : ℕ) (up name : NameTree) → name_after word (unwound up name) ≡ after_up (name_after word name) up
unwound_after word (ObjectName place is_constant) name = refl
unwound_after word (ComponentName up offset) name = unwound_after word up (ComponentName name offset)
unwound_after word (IndexedName up index bounds words) name = unwound_after word up (IndexedName name index bounds words)

-- the last index of a name with its words, and the next word
abbrev pub last_numbered : ℕ → NameTree → NameTree
last_numbered word (ObjectName place is_constant) = ObjectName place is_constant
last_numbered word (ComponentName whole offset) = ComponentName whole offset
last_numbered word (IndexedName array index bounds words) = IndexedName array (numbered word index) bounds words

abbrev pub last_after : ℕ → NameTree → ℕ
last_after word (ObjectName place is_constant) = word
last_after word (ComponentName whole offset) = word
last_after word (IndexedName array index bounds words) = after word index

-- ---- the program's names

-- indexes are less deep than this
abbrev pub AreBelow : ℕ → TypedName → Type 0
AreBelow bound (Object place is_constant) = ⊤
AreBelow bound (Component' p whole offset) = AreBelow bound whole
AreBelow bound (Indexed' p array q labels form bounds words) = (size-Typed (record { labels = labels; form = form }) < bound) × AreBelow bound array

abbrev pub IsLastBelow : ℕ → TypedName → Type 0
IsLastBelow bound (Object place is_constant) = ⊤
IsLastBelow bound (Component' p whole offset) = ⊤
IsLastBelow bound (Indexed' p array q labels form bounds words) = size-Typed (record { labels = labels; form = form }) < bound

-- a step down
pub record IsDown (bound : ℕ) (name passed new-name new-passed : TypedName) : Type 0 where
  pub same : unwound (name_model new-passed) (name_model new-name) ≡ unwound (name_model passed) (name_model name)
  pub less : size-TypedName new-name < size-TypedName name
  pub below : AreBelow bound new-passed

pub went_down : (bound : ℕ) (name passed : TypedName) → has_prefix name ≡ true → size-TypedName name ≤ bound → AreBelow bound passed → IsDown bound name passed (prefix_in name passed) (with_prefix name passed)
went_down bound (Object place is_constant) passed has within below = absurd (cc)
went_down bound (Component' p whole offset) passed has within below =
    let box : TypedName → Box TypedName Global = λ (n : TypedName). record { ptr = p.ptr; alloc = p.alloc; value = n } in
    record {
      same = ap (λ (t : NameTree). unwound t (name_model whole)) (component_made (box passed) offset)
          ∙ sym (ap (unwound (name_model passed)) (component_made (box whole) offset));
      less = omega (arith, sized-Component (box whole) offset);
      below = below;
    }
went_down bound (Indexed' p array q labels form bounds words) passed has within below =
    let box : TypedName → Box TypedName Global = λ (n : TypedName). record { ptr = p.ptr; alloc = p.alloc; value = n } in
    let index : Box Typed Global = record { ptr = q.ptr; alloc = q.alloc; value = record { labels = labels; form = form } } in
    record {
      same = ap (λ (t : NameTree). unwound t (name_model array)) (indexed_made (box passed) index bounds words)
          ∙ sym (ap (unwound (name_model passed)) (indexed_made (box array) index bounds words));
      less = omega (arith, sized-Indexed (box array) index bounds words);
      below = (omega (arith, sized-Indexed (box array) index bounds words), below);
    }

-- a step back up
pub record IsUp (bound word : ℕ) (name passed new-name new-passed : TypedName) : Type 0 where
  pub tree : numbered_up word (name_model passed) (name_model name) ≡ numbered_up (last_after word (name_model new-name)) (name_model new-passed) (last_numbered word (name_model new-name))
  pub next : after_up word (name_model passed) ≡ after_up (last_after word (name_model new-name)) (name_model new-passed)
  pub less : size-TypedName new-passed < size-TypedName passed
  pub below : AreBelow bound new-passed
  pub last : IsLastBelow bound new-name

pub went_up : (bound word : ℕ) (name passed : TypedName) → has_prefix passed ≡ true → AreBelow bound passed → IsUp bound word name passed (with_prefix passed name) (prefix_in passed name)
went_up bound word name (Object place is_constant) has below = absurd (cc)
went_up bound word name (Component' p whole offset) has below =
    let box : TypedName → Box TypedName Global = λ (n : TypedName). record { ptr = p.ptr; alloc = p.alloc; value = n } in
    record {
      tree = ap (λ (t : NameTree). numbered_up word t (name_model name)) (component_made (box whole) offset)
          ∙ sym (ap (λ (t : NameTree). numbered_up (last_after word t) (name_model whole) (last_numbered word t)) (component_made (box name) offset));
      next = ap (after_up word) (component_made (box whole) offset)
          ∙ sym (ap (λ (t : NameTree). after_up (last_after word t) (name_model whole)) (component_made (box name) offset));
      less = omega (arith, sized-Component (box whole) offset);
      below = below;
      last = tt;
    }
went_up bound word name (Indexed' p array q labels form bounds words) has below =
    let box : TypedName → Box TypedName Global = λ (n : TypedName). record { ptr = p.ptr; alloc = p.alloc; value = n } in
    let index : Box Typed Global = record { ptr = q.ptr; alloc = q.alloc; value = record { labels = labels; form = form } } in
    record {
      tree = ap (λ (t : NameTree). numbered_up word t (name_model name)) (indexed_made (box array) index bounds words)
          ∙ sym (ap (λ (t : NameTree). numbered_up (last_after word t) (name_model array) (last_numbered word t)) (indexed_made (box name) index bounds words));
      next = ap (after_up word) (indexed_made (box array) index bounds words)
          ∙ sym (ap (λ (t : NameTree). after_up (last_after word t) (name_model array)) (indexed_made (box name) index bounds words));
      less = omega (arith, sized-Indexed (box array) index bounds words);
      below = below.1;
      last = below.0;
    }

pub is_down : (bound : ℕ) (name passed new-name new-passed : TypedName) → new-name ≡ prefix_in name passed → new-passed ≡ with_prefix name passed → has_prefix name ≡ true
    → size-TypedName name ≤ bound → AreBelow bound passed → IsDown bound name passed new-name new-passed
is_down bound name passed new-name new-passed e f has within below =
    subst (λ (n : TypedName). IsDown bound name passed n new-passed) (sym e) (subst (IsDown bound name passed (prefix_in name passed)) (sym f) (went_down bound name passed has within below))

pub is_up : (bound word : ℕ) (name passed new-name new-passed : TypedName) → new-name ≡ with_prefix passed name → new-passed ≡ prefix_in passed name → has_prefix passed ≡ true
    → AreBelow bound passed → IsUp bound word name passed new-name new-passed
is_up bound word name passed new-name new-passed e f has below =
    subst (λ (n : TypedName). IsUp bound word name passed n new-passed) (sym e) (subst (IsUp bound word name passed (with_prefix passed name)) (sym f) (went_up bound word name passed has below))

-- the last index has its words
pub record IsNumbered (word next : ℕ) (name new : TypedName) : Type 0 where
  pub tree : name_model new ≡ last_numbered word (name_model name)
  pub after : next ≡ last_after word (name_model name)

pub object_numbered : (word : ℕ) (name : TypedName) (place : ObjectPlace) (is_constant : Bool) → name ≡ Object place is_constant → IsNumbered word word name name
object_numbered word name place is_constant e =
    let is : name_model name ≡ ObjectName place is_constant = ap name_model e ∙ object_made place is_constant in
    record { tree = is ∙ sym (ap (last_numbered word) is); after = sym (ap (last_after word) is) }

pub component_numbered : (word : ℕ) (name : TypedName) (whole : Box TypedName Global) (offset : ℕ) → name ≡ Component whole offset → IsNumbered word word name name
component_numbered word name whole offset e =
    let is : name_model name ≡ ComponentName (name_model whole.value) offset = ap name_model e ∙ component_made whole offset in
    record { tree = is ∙ sym (ap (last_numbered word) is); after = sym (ap (last_after word) is) }

pub indexed_numbered : (word next : ℕ) (name new : TypedName) (array new-array : Box TypedName Global) (index new-index : Box Typed Global) (bounds : Bounds) (words : ℕ)
    → name ≡ Indexed array index bounds words → new ≡ Indexed new-array new-index bounds words → new-array.value ≡ array.value
    → typed_model new-index.value ≡ numbered word (typed_model index.value) → next ≡ after word (typed_model index.value) → IsNumbered word next name new
indexed_numbered word next name new array new-array index new-index bounds words e f same tree more =
    let is : name_model name ≡ IndexedName (name_model array.value) (typed_model index.value) bounds words = ap name_model e ∙ indexed_made array index bounds words in
    record {
      tree = ap name_model f
          ∙ indexed_made new-array new-index bounds words
          ∙ ap (λ (n : TypedName). IndexedName (name_model n) (typed_model new-index.value) bounds words) same
          ∙ ap (λ (t : TypedTree). IndexedName (name_model array.value) t bounds words) tree
          ∙ sym (ap (last_numbered word) is);
      after = more ∙ sym (ap (last_after word) is);
    }

pub index_below : (bound : ℕ) (name : TypedName) (array : Box TypedName Global) (index : Box Typed Global) (bounds : Bounds) (words : ℕ) → name ≡ Indexed array index bounds words
    → IsLastBelow bound name → size-Typed index.value < bound
index_below bound name array index bounds words e below = subst (IsLastBelow bound) e below

-- what is left above it
pub next_up : (bound word next : ℕ) (name passed mid new-passed new whole-name : TypedName) (start : ℕ) → IsUp bound word name passed mid new-passed → IsNumbered word next mid new
    → numbered_up word (name_model passed) (name_model name) ≡ name_numbered start (name_model whole-name) → after_up word (name_model passed) ≡ name_after start (name_model whole-name)
    → (numbered_up next (name_model new-passed) (name_model new) ≡ name_numbered start (name_model whole-name)) × (after_up next (name_model new-passed) ≡ name_after start (name_model whole-name))
next_up bound word next name passed mid new-passed new whole-name start up is tree more = (
  ap (λ (w : ℕ). numbered_up w (name_model new-passed) (name_model new)) is.after
      ∙ ap (numbered_up (last_after word (name_model mid)) (name_model new-passed)) is.tree
      ∙ sym up.tree
      ∙ tree,
  ap (λ (w : ℕ). after_up w (name_model new-passed)) is.after ∙ sym up.next ∙ more,
)

-- at the end of a chain
ended : (name : TypedName) → has_prefix name ≡ false → (place : ObjectPlace) × (is_constant : Bool) × (name_model name ≡ ObjectName place is_constant)
ended (Object place is_constant) none = (place, is_constant, object_made place is_constant)
ended (Component' p whole offset) none = absurd (cc)
ended (Indexed' p array q labels form bounds words) none = absurd (cc)

-- the words from the object on
pub begins_up : (word : ℕ) (whole name passed : TypedName) → unwound (name_model passed) (name_model name) ≡ name_model whole → has_prefix name ≡ false
    → (numbered_up word (name_model passed) (name_model name) ≡ name_numbered word (name_model whole)) × (after_up word (name_model passed) ≡ name_after word (name_model whole))
begins_up word whole name passed same none =
    let object = ended name none in
    let is = object.2 in (
      ap (numbered_up word (name_model passed)) is
          ∙ sym (ap (λ (t : NameTree). numbered_up (name_after word t) (name_model passed) (name_numbered word t)) is)
          ∙ sym (unwound_numbered word (name_model passed) (name_model name))
          ∙ ap (name_numbered word) same,
      sym (ap (λ (t : NameTree). after_up (name_after word t) (name_model passed)) is)
          ∙ sym (unwound_after word (name_model passed) (name_model name))
          ∙ ap (name_after word) same,
    )

pub ends_up : (word : ℕ) (name passed : TypedName) → has_prefix passed ≡ false → (numbered_up word (name_model passed) (name_model name) ≡ name_model name) × (after_up word (name_model passed) ≡ word)
ends_up word name passed none =
    let object = ended passed none in
    let is = object.2 in (ap (λ (t : NameTree). numbered_up word t (name_model name)) is, ap (after_up word) is)

pub nothing_passed : (bound : ℕ) (name : NameTree) (passed : TypedName) → passed ≡ Object (Frame 0 0) false → (unwound (name_model passed) name ≡ name) × AreBelow bound passed
nothing_passed bound name passed e =
    (ap (λ (n : TypedName). unwound (name_model n) name) e ∙ ap (λ (t : NameTree). unwound t name) (object_made (Frame 0 0) false), subst (AreBelow bound) (sym e) tt)
