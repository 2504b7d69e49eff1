-- What becomes of the states where a cell and a slot change.
use Rattle.std.proofs.Common.{◌≡◌, ℕ, Bool, true, false, List, [], ◌∷◌, Option, Some, None, refl, sym, ◌∙◌, ap, subst, nat_eq, cond, unwrap_or, is_some, if◌then◌else◌}
use Rattle.std.specs.Option.{option_map}
use Rattle.std.proofs.lemmas.Bool.{eqb-true, eqb-false, eq-eqb}
use Rattle.slab.specs.Slab.{Slab, Updates, get}
use Rattle.al_base.specs.declared.unit_key.UnitKey.{UnitKey}
use Rattle.al_view.specs.Symbols.{same_unit}
use Rattle.al_view.proofs.SymbolLemmas.{same_unit-one, same_unit-self}
use Rattle.al_query_store.specs.Units.{at_unit}
use Rattle.al_query_store.specs.Stored.{settled}
use Rattle.al_query_store.specs.declared.slots.Held.{Held}
use Rattle.al_query_store.specs.declared.cell.Cell.{Cell}
use Rattle.al_query_store.specs.Keyed.{AreCells, Changes, IsKeyed, State, cell_at, empty, entry_of, first_key, first_of, if_made, if_settled, made_key, nothing, now_key, or_settled, promoted, put, replaced, seen, settled_key, state, under, with_slots, without_settled}
use Rattle.al_query_store.proofs.KeyLemmas.{keyed-less, keyed-more, keyed-same}

abbrev pub Cells : Type 0
Cells = List (UnitKey × Cell)

-- of one unit there is another cell, of all others the same
abbrev pub Turns : (Cell → Cell) → UnitKey → Cells → Cells → Type 0
Turns x unit old new = (u : UnitKey) → cell_at new u ≡ (if same_unit unit u then x (cell_at old u) else cell_at old u)

module _ (x : Cell → Cell) (to : Cell) (unit : UnitKey) (old new : Cells) (is : to ≡ x (cell_at old unit)) (changed : (u : UnitKey) → cell_at new u ≡ (if same_unit unit u then put (at_unit old u) to else cell_at old u)) where
  turned_by : ((o : Option Cell) → at_unit old unit ≡ o → put o to ≡ x (unwrap_or o empty)) → Turns x unit old new
  turned_by here u = changed u ∙ by (same_unit unit u) refl
    where
      by : (b : Bool) → same_unit unit u ≡ b → (if b then put (at_unit old u) to else cell_at old u) ≡ (if b then x (cell_at old u) else cell_at old u)
      by false e = refl
      by true e = subst (λ (v : UnitKey). put (at_unit old v) to ≡ x (cell_at old v)) (same_unit-one unit u e) (here (at_unit old unit) refl)

  -- a cell is changed, or an empty one stays as it is
  pub turned : x empty ≡ empty → Turns x unit old new
  turned none = turned_by here
    where
      here : (o : Option Cell) → at_unit old unit ≡ o → put o to ≡ x (unwrap_or o empty)
      here None e = sym none
      here (Some c) e = is ∙ ap (λ (o : Option Cell). x (unwrap_or o empty)) e

  -- a cell that is there is changed
  pub turned-there : is_some (at_unit old unit) ≡ true → Turns x unit old new
  turned-there there = turned_by here
    where
      here : (o : Option Cell) → at_unit old unit ≡ o → put o to ≡ x (unwrap_or o empty)
      here None e =
          let no : true ≡ false = sym there ∙ ap (λ (o : Option Cell). is_some o) e in
          absurd (cc)
      here (Some c) e = is ∙ ap (λ (o : Option Cell). x (unwrap_or o empty)) e

-- a field of the cells
pub key-turned : (p : Cell → Option ℕ) (x : Cell → Cell) (unit : UnitKey) (old new : Cells) → Turns x unit old new → (u : UnitKey) → p (cell_at new u) ≡ (if same_unit unit u then p (x (cell_at old u)) else p (cell_at old u))
key-turned p x unit old new turns u = ap p (turns u) ∙ by (same_unit unit u)
  where
    by : (b : Bool) → p (if b then x (cell_at old u) else cell_at old u) ≡ (if b then p (x (cell_at old u)) else p (cell_at old u))
    by true = refl
    by false = refl

-- one that it leaves
pub key-left : (p : Cell → Option ℕ) (x : Cell → Cell) (unit : UnitKey) (old new : Cells) → ((c : Cell) → p (x c) ≡ p c) → Turns x unit old new → (u : UnitKey) → p (cell_at new u) ≡ p (cell_at old u)
key-left p x unit old new left turns u = key-turned p x unit old new turns u ∙ by (same_unit unit u)
  where
    by : (b : Bool) → (if b then p (x (cell_at old u)) else p (cell_at old u)) ≡ p (cell_at old u)
    by true = left (cell_at old u)
    by false = refl

-- a unit that has a key has a cell
pub key-there : (cells : Cells) (u : UnitKey) (k : ℕ) → made_key cells u ≡ Some k → is_some (at_unit cells u) ≡ true
key-there cells u k there = by (at_unit cells u) refl
  where
    by : (o : Option Cell) → at_unit cells u ≡ o → is_some o ≡ true
    by (Some c) e = refl
    by None e =
        let none : made_key cells u ≡ None = ap (λ (o : Option Cell). (unwrap_or o empty).made) e in
        absurd (cc)

-- a key that has an entry of a kind isn't one whose slot has none
pub not-key : {H : Type 0} (keys : UnitKey → Option ℕ) (at : ℕ → Option H) (k : ℕ) → IsKeyed keys at → at k ≡ None → (u : UnitKey) (x : ℕ) → keys u ≡ Some x → k ≡ x → ⊥
not-key keys at k is none u x a e = is.found u x a (subst (λ (y : ℕ). at y ≡ None) e none)

-- nor is the key of another unit
pub not-others : {H : Type 0} (keys : UnitKey → Option ℕ) (at : ℕ → Option H) (unit : UnitKey) (k : ℕ) → IsKeyed keys at → keys unit ≡ Some k → (u : UnitKey) → same_unit unit u ≡ false → (x : ℕ) → keys u ≡ Some x → k ≡ x → ⊥
not-others keys at unit k is there u other x a e =
    let one : unit ≡ u = is.apart unit u x (there ∙ ap (λ (y : ℕ). Some y) e) a in
    let yes : same_unit unit u ≡ true = subst (λ (y : UnitKey). same_unit unit y ≡ true) one (same_unit-self unit) in
    absurd (cc)

module _ {E : Type 0} where
  -- what there is of a unit is what is under the keys of its cell
  pub state-seen : (cells : Cells) (s : Slab (Held E)) (u : UnitKey) → state (with_slots cells s) u ≡ seen s (cell_at cells u)
  state-seen [] s u = refl
  state-seen (e ∷ es) s u = by (same_unit u e.0) (state-seen es s u)
    where
      by : (b : Bool) → unwrap_or (at_unit (with_slots es s) u) nothing ≡ seen s (unwrap_or (at_unit es u) empty) → unwrap_or (cond b (Some (seen s e.1)) (at_unit (with_slots es s) u)) nothing ≡ seen s (unwrap_or (cond b (Some e.1) (at_unit es u)) empty)
      by true rest = refl
      by false rest = rest

  -- of which there is something has a cell
  pub there-cell : (cells : Cells) (s : Slab (Held E)) (u : UnitKey) → is_some (at_unit (with_slots cells s) u) ≡ true → is_some (at_unit cells u) ≡ true
  there-cell [] s u h = h
  there-cell (e ∷ es) s u h = by (same_unit u e.0) (there-cell es s u) h
    where
      by : (b : Bool) → (is_some (at_unit (with_slots es s) u) ≡ true → is_some (at_unit es u) ≡ true) → is_some (cond b (Some (seen s e.1)) (at_unit (with_slots es s) u)) ≡ true → is_some (cond b (Some e.1) (at_unit es u)) ≡ true
      by true rest k = refl
      by false rest k = rest k

  -- a unit's state is changed to what it is
  pub unchanged : (f : State E → State E) (unit : UnitKey) (store : List (UnitKey × State E)) → f (state store unit) ≡ state store unit → Changes f unit store store
  unchanged f unit store same u = by (same_unit unit u) refl
    where
      by : (b : Bool) → same_unit unit u ≡ b → state store u ≡ (if b then f (state store u) else state store u)
      by false e = refl
      by true e = subst (λ (v : UnitKey). state store v ≡ f (state store v)) (same_unit-one unit u e) (sym same)

  -- what the change makes of it
  pub changes-here : (f : State E → State E) (unit : UnitKey) (old new : List (UnitKey × State E)) → Changes f unit old new → state new unit ≡ f (state old unit)
  changes-here f unit old new is = is unit ∙ ap (λ (b : Bool). if b then f (state old unit) else state old unit) (same_unit-self unit)

  -- and where two changes of it come to the same, by the one as by the other
  pub changes-alike : (f g : State E → State E) (unit : UnitKey) (old new : List (UnitKey × State E)) → f (state old unit) ≡ g (state old unit) → Changes f unit old new → Changes g unit old new
  changes-alike f g unit old new same is u = is u ∙ by (same_unit unit u) refl
    where
      by : (b : Bool) → same_unit unit u ≡ b → (if b then f (state old u) else state old u) ≡ (if b then g (state old u) else state old u)
      by false e = refl
      by true e = subst (λ (v : UnitKey). f (state old v) ≡ g (state old v)) (same_unit-one unit u e) same

  -- what was made takes the place of what was settled; nothing does, where nothing was made
  pub replaced-made : (s : State E) → is_some s.made ≡ true → promoted (without_settled s) ≡ replaced s
  replaced-made s there = by s.made there
    where
      set : Option (Held E) → State E
      set o = record { settled = o; made = None; was_reached = s.was_reached; is_reached = s.is_reached; leaves = s.leaves }

      by : (o : Option (Held E)) → is_some o ≡ true → set (option_map settled o) ≡ set (or_settled o s.settled)
      by (Some h) e = refl
      by None e = absurd (cc)

  pub replaced-none : (s : State E) → is_some s.made ≡ false → replaced s ≡ s
  replaced-none s none = by s.made refl none
    where
      set : Option (Held E) → Option (Held E) → State E
      set a b = record { settled = a; made = b; was_reached = s.was_reached; is_reached = s.is_reached; leaves = s.leaves }

      by : (o : Option (Held E)) → s.made ≡ o → is_some o ≡ false → replaced s ≡ s
      by None e n = ap (λ (o : Option (Held E)). set (or_settled o s.settled) None) e ∙ ap (λ (o : Option (Held E)). set s.settled o) (sym e)
      by (Some h) e n = absurd (cc)

  pub state-turned : (f : State E → State E) (x : Cell → Cell) (unit : UnitKey) (cells new : Cells) (s t : Slab (Held E)) → Turns x unit cells new → seen t (x (cell_at cells unit)) ≡ f (seen s (cell_at cells unit)) → ((u : UnitKey) → same_unit unit u ≡ false → seen t (cell_at cells u) ≡ seen s (cell_at cells u)) → Changes f unit (with_slots cells s) (with_slots new t)
  state-turned f x unit cells new s t turns here others u =
      state-seen new t u ∙ ap (seen t) (turns u) ∙ by (same_unit unit u) refl
      ∙ ap (λ (y : State E). if same_unit unit u then f y else y) (sym (state-seen cells s u))
    where
      by : (b : Bool) → same_unit unit u ≡ b → seen t (if b then x (cell_at cells u) else cell_at cells u) ≡ (if b then f (seen s (cell_at cells u)) else seen s (cell_at cells u))
      by false e = others u e
      by true e = subst (λ (v : UnitKey). seen t (x (cell_at cells v)) ≡ f (seen s (cell_at cells v))) (same_unit-one unit u e) here

  -- a cell is changed and no key
  pub cells-same : (x : Cell → Cell) (unit : UnitKey) (cells new : Cells) (s : Slab (Held E)) → ((c : Cell) → (x c).settled ≡ c.settled) → ((c : Cell) → (x c).made ≡ c.made) → Turns x unit cells new → AreCells cells s → AreCells new s
  cells-same x unit cells new s left_settled left_made turns is = record {
    of_settled = keyed-same (settled_key cells) (settled_key new) (λ k. if_settled (get s k)) (λ k. if_settled (get s k)) (key-left (λ c. c.settled) x unit cells new left_settled turns) (λ k. refl) is.of_settled;
    of_made = keyed-same (made_key cells) (made_key new) (λ k. if_made (get s k)) (λ k. if_made (get s k)) (key-left (λ c. c.made) x unit cells new left_made turns) (λ k. refl) is.of_made;
  }

  -- a settled entry isn't one that was made
  pub settled-there : (o : Option (Held E)) → (if_settled o ≡ None → ⊥) → if_made o ≡ None
  settled-there None f = absurd (f refl)
  settled-there (Some h) f = by h.is_settled f
    where
      by : (b : Bool) → ((if b then Some h else None) ≡ None → ⊥) → (if b then None else Some h) ≡ None
      by true g = refl
      by false g = absurd (g refl)

  pub made-there : (o : Option (Held E)) → (if_made o ≡ None → ⊥) → if_settled o ≡ None
  made-there None f = absurd (f refl)
  made-there (Some h) f = by h.is_settled f
    where
      by : (b : Bool) → ((if b then None else Some h) ≡ None → ⊥) → (if b then Some h else None) ≡ None
      by false g = refl
      by true g = absurd (g refl)

  -- one slot after an update
  pub after : (s t : Slab (Held E)) (k : ℕ) (o : Option (Held E)) → Updates s t k o → (x : ℕ) → get t x ≡ (if nat_eq k x then o else get s x)
  after s t k o u x = by (nat_eq k x) refl
    where
      by : (b : Bool) → nat_eq k x ≡ b → get t x ≡ (if b then o else get s x)
      by true e = ap (λ (y : ℕ). get t y) (sym (eqb-true k x e)) ∙ u.changed
      by false e = u.others x (λ d. eqb-false k x e (sym d))

  -- one slot is another one than before: of which keys it is the slot
  module _ (s t : Slab (Held E)) (k : ℕ) (o : Option (Held E)) (slots : (x : ℕ) → get t x ≡ (if nat_eq k x then o else get s x)) where
    stays : (x : ℕ) → (k ≡ x → ⊥) → get t x ≡ get s x
    stays x d = slots x ∙ by (nat_eq k x) refl
      where
        by : (b : Bool) → nat_eq k x ≡ b → (if b then o else get s x) ≡ get s x
        by false e = refl
        by true e = absurd (d (eqb-true k x e))

    pub under-same : (key : Option ℕ) → ((x : ℕ) → key ≡ Some x → k ≡ x → ⊥) → under t key ≡ under s key
    under-same None d = refl
    under-same (Some x) d = stays x (d x refl)

    pub seen-same : (c : Cell) → ((x : ℕ) → c.settled ≡ Some x → k ≡ x → ⊥) → ((x : ℕ) → c.made ≡ Some x → k ≡ x → ⊥) → seen t c ≡ seen s c
    seen-same c d e =
        ap (λ (h : Option (Held E)). with_entries h (under t c.made)) (under-same c.settled d)
        ∙ ap (λ (h : Option (Held E)). with_entries (under s c.settled) h) (under-same c.made e)
      where
        with_entries : Option (Held E) → Option (Held E) → State E
        with_entries a b = record { settled = a; made = b; was_reached = c.was_reached; is_reached = c.is_reached; leaves = c.leaves }

    -- the entries of a kind that the slot has neither before nor after
    pub kind-same : (kind : Option (Held E) → Option (Held E)) → kind (get s k) ≡ None → kind o ≡ None → (x : ℕ) → kind (get t x) ≡ kind (get s x)
    kind-same kind was now x = ap kind (slots x) ∙ by (nat_eq k x) refl
      where
        by : (b : Bool) → nat_eq k x ≡ b → kind (if b then o else get s x) ≡ kind (get s x)
        by false e = refl
        by true e = now ∙ sym (subst (λ (y : ℕ). kind (get s y) ≡ None) (eqb-true k x e) was)

    -- the entries of the kind that it has
    pub kind-put : (kind : Option (Held E) → Option (Held E)) (x : ℕ) → kind (get t x) ≡ (if nat_eq k x then kind o else kind (get s x))
    kind-put kind x = ap kind (slots x) ∙ by (nat_eq k x)
      where
        by : (b : Bool) → kind (if b then o else get s x) ≡ (if b then kind o else kind (get s x))
        by true = refl
        by false = refl

  -- the settled entry of a unit is let go
  module _ (x : Cell → Cell) (unit : UnitKey) (cells new : Cells) (s t : Slab (Held E)) (k : ℕ) (is : AreCells cells s) (turns : Turns x unit cells new) (slots : (y : ℕ) → get t y ≡ (if nat_eq k y then None else get s y)) where
    module _ (x_settled : (c : Cell) → (x c).settled ≡ None) (x_made : (c : Cell) → (x c).made ≡ c.made) (there : settled_key cells unit ≡ Some k) where
      none_made : if_made (get s k) ≡ None
      none_made = settled-there (get s k) (is.of_settled.found unit k there)

      pub cells-without_settled : AreCells new t
      cells-without_settled = record {
        of_settled = keyed-less (settled_key cells) (settled_key new) (λ y. if_settled (get s y)) (λ y. if_settled (get t y)) unit k is.of_settled there
            (λ u. key-turned (λ c. c.settled) x unit cells new turns u ∙ ap (λ (o : Option ℕ). if same_unit unit u then o else settled_key cells u) (x_settled (cell_at cells u)))
            (kind-put s t k None slots if_settled);
        of_made = keyed-same (made_key cells) (made_key new) (λ y. if_made (get s y)) (λ y. if_made (get t y)) (key-left (λ c. c.made) x unit cells new x_made turns) (kind-same s t k None slots if_made none_made refl) is.of_made;
      }

      pub seen-without_settled : (u : UnitKey) → same_unit unit u ≡ false → seen t (cell_at cells u) ≡ seen s (cell_at cells u)
      seen-without_settled u other = seen-same s t k None slots (cell_at cells u)
          (not-others (settled_key cells) (λ y. if_settled (get s y)) unit k is.of_settled there u other)
          (not-key (made_key cells) (λ y. if_made (get s y)) k is.of_made none_made u)

      pub made-stays : under t (made_key cells unit) ≡ under s (made_key cells unit)
      made-stays = under-same s t k None slots (made_key cells unit) (not-key (made_key cells) (λ y. if_made (get s y)) k is.of_made none_made unit)

    -- the entry that was made
    module _ (x_settled : (c : Cell) → (x c).settled ≡ c.settled) (x_made : (c : Cell) → (x c).made ≡ None) (there : made_key cells unit ≡ Some k) where
      none_settled : if_settled (get s k) ≡ None
      none_settled = made-there (get s k) (is.of_made.found unit k there)

      pub cells-without_made : AreCells new t
      cells-without_made = record {
        of_settled = keyed-same (settled_key cells) (settled_key new) (λ y. if_settled (get s y)) (λ y. if_settled (get t y)) (key-left (λ c. c.settled) x unit cells new x_settled turns) (kind-same s t k None slots if_settled none_settled refl) is.of_settled;
        of_made = keyed-less (made_key cells) (made_key new) (λ y. if_made (get s y)) (λ y. if_made (get t y)) unit k is.of_made there
            (λ u. key-turned (λ c. c.made) x unit cells new turns u ∙ ap (λ (o : Option ℕ). if same_unit unit u then o else made_key cells u) (x_made (cell_at cells u)))
            (kind-put s t k None slots if_made);
      }

      pub seen-without_made : (u : UnitKey) → same_unit unit u ≡ false → seen t (cell_at cells u) ≡ seen s (cell_at cells u)
      seen-without_made u other = seen-same s t k None slots (cell_at cells u)
          (not-key (settled_key cells) (λ y. if_settled (get s y)) k is.of_settled none_settled u)
          (not-others (made_key cells) (λ y. if_made (get s y)) unit k is.of_made there u other)

      pub settled-stays : under t (settled_key cells unit) ≡ under s (settled_key cells unit)
      settled-stays = under-same s t k None slots (settled_key cells unit) (not-key (settled_key cells) (λ y. if_settled (get s y)) k is.of_settled none_settled unit)

  -- an entry is made of a unit, under a new key
  module _ (x : Cell → Cell) (unit : UnitKey) (cells new : Cells) (s t : Slab (Held E)) (k : ℕ) (h : Held E) (is : AreCells cells s) (turns : Turns x unit cells new) (slots : (y : ℕ) → get t y ≡ (if nat_eq k y then Some h else get s y)) (vacant : get s k ≡ None) (is_made : h.is_settled ≡ false) where
    without : (kind : Option (Held E) → Option (Held E)) → kind None ≡ None → kind (get s k) ≡ None
    without kind none = ap kind vacant ∙ none

    here_made : if_made (Some h) ≡ Some h
    here_made = ap (λ (b : Bool). if b then None else Some h) is_made

    not_settled : if_settled (Some h) ≡ None
    not_settled = ap (λ (b : Bool). if b then Some h else None) is_made

    module _ (x_settled : (c : Cell) → (x c).settled ≡ c.settled) (x_made : (c : Cell) → (x c).made ≡ Some k) (none : made_key cells unit ≡ None) where
      pub cells-with_made : AreCells new t
      cells-with_made = record {
        of_settled = keyed-same (settled_key cells) (settled_key new) (λ y. if_settled (get s y)) (λ y. if_settled (get t y)) (key-left (λ c. c.settled) x unit cells new x_settled turns) (kind-same s t k (Some h) slots if_settled (without if_settled refl) not_settled) is.of_settled;
        of_made = keyed-more (made_key cells) (made_key new) (λ y. if_made (get s y)) (λ y. if_made (get t y)) unit k is.of_made h none (without if_made refl)
            (λ u. key-turned (λ c. c.made) x unit cells new turns u ∙ ap (λ (o : Option ℕ). if same_unit unit u then o else made_key cells u) (x_made (cell_at cells u)))
            (λ y. kind-put s t k (Some h) slots if_made y ∙ ap (λ (o : Option (Held E)). if nat_eq k y then o else if_made (get s y)) here_made);
      }

    pub seen-with_made : (c : Cell) → ((y : ℕ) → c.settled ≡ Some y → k ≡ y → ⊥) → ((y : ℕ) → c.made ≡ Some y → k ≡ y → ⊥) → seen t c ≡ seen s c
    seen-with_made c = seen-same s t k (Some h) slots c

    -- no unit had that key
    pub settled-apart : (u : UnitKey) (y : ℕ) → settled_key cells u ≡ Some y → k ≡ y → ⊥
    settled-apart u = not-key (settled_key cells) (λ y. if_settled (get s y)) k is.of_settled (without if_settled refl) u

    pub made-apart : (u : UnitKey) (y : ℕ) → made_key cells u ≡ Some y → k ≡ y → ⊥
    made-apart u = not-key (made_key cells) (λ y. if_made (get s y)) k is.of_made (without if_made refl) u

    pub here-stored : get t k ≡ Some h
    here-stored = slots k ∙ ap (λ (b : Bool). if b then Some h else get s k) (eq-eqb k k refl)

  -- a unit of which nothing was made has no key for it
  pub no-made-key : (cells : Cells) (s : Slab (Held E)) (unit : UnitKey) → AreCells cells s → under s (made_key cells unit) ≡ None → made_key cells unit ≡ None
  no-made-key cells s unit is none = by (made_key cells unit) refl
    where
      by : (o : Option ℕ) → made_key cells unit ≡ o → o ≡ None
      by None e = refl
      by (Some k) e =
          let gone : get s k ≡ None = sym (ap (under s) e) ∙ none in
          absurd (is.of_made.found unit k e (ap if_made gone))

  pub no-settled-key : (cells : Cells) (s : Slab (Held E)) (unit : UnitKey) → AreCells cells s → under s (settled_key cells unit) ≡ None → settled_key cells unit ≡ None
  no-settled-key cells s unit is none = by (settled_key cells unit) refl
    where
      by : (o : Option ℕ) → settled_key cells unit ≡ o → o ≡ None
      by None e = refl
      by (Some k) e =
          let gone : get s k ≡ None = sym (ap (under s) e) ∙ none in
          absurd (is.of_settled.found unit k e (ap if_settled gone))

  -- the entry that was made of a unit is settled
  module _ (x : Cell → Cell) (unit : UnitKey) (cells new : Cells) (s t : Slab (Held E)) (k : ℕ) (is : AreCells cells s) (turns : Turns x unit cells new) (flagged : (y : ℕ) → get t y ≡ (if nat_eq y k then option_map settled (get s y) else get s y)) where
    abbrev flag : Option (Held E)
    flag = option_map settled (get s k)

    slots : (y : ℕ) → get t y ≡ (if nat_eq k y then flag else get s y)
    slots y = flagged y ∙ by (nat_eq y k) refl
      where
        by : (b : Bool) → nat_eq y k ≡ b → (if b then option_map settled (get s y) else get s y) ≡ (if nat_eq k y then flag else get s y)
        by true e =
            let same : y ≡ k = eqb-true y k e in
            ap (λ (z : ℕ). option_map settled (get s z)) same ∙ sym (ap (λ (b : Bool). if b then flag else get s y) (eq-eqb k y (sym same)))
        by false e = sym (ap (λ (b : Bool). if b then flag else get s y) (other (nat_eq k y) refl))
          where
            other : (b : Bool) → nat_eq k y ≡ b → nat_eq k y ≡ false
            other false f = f
            other true f = absurd (eqb-false y k e (sym (eqb-true k y f)))

    module _ (x_settled : (c : Cell) → (x c).settled ≡ Some k) (x_made : (c : Cell) → (x c).made ≡ None) (there : made_key cells unit ≡ Some k) (none : settled_key cells unit ≡ None) where
      no_settled : if_settled (get s k) ≡ None
      no_settled = made-there (get s k) (is.of_made.found unit k there)

      held : (o : Option (Held E)) → get s k ≡ o → (h : Held E) × (get s k ≡ Some h)
      held (Some h) e = (h, e)
      held None e = absurd (is.of_made.found unit k there (ap if_made e))

      one : (h : Held E) × (get s k ≡ Some h)
      one = held (get s k) refl

      flag_is : flag ≡ Some (settled one.0)
      flag_is = ap (option_map settled) one.1

      pub cells-promoted : AreCells new t
      cells-promoted = record {
        of_settled = keyed-more (settled_key cells) (settled_key new) (λ y. if_settled (get s y)) (λ y. if_settled (get t y)) unit k is.of_settled (settled one.0) none no_settled
            (λ u. key-turned (λ c. c.settled) x unit cells new turns u ∙ ap (λ (o : Option ℕ). if same_unit unit u then o else settled_key cells u) (x_settled (cell_at cells u)))
            (λ y. kind-put s t k flag slots if_settled y ∙ ap (λ (o : Option (Held E)). if nat_eq k y then if_settled o else if_settled (get s y)) flag_is);
        of_made = keyed-less (made_key cells) (made_key new) (λ y. if_made (get s y)) (λ y. if_made (get t y)) unit k is.of_made there
            (λ u. key-turned (λ c. c.made) x unit cells new turns u ∙ ap (λ (o : Option ℕ). if same_unit unit u then o else made_key cells u) (x_made (cell_at cells u)))
            (λ y. kind-put s t k flag slots if_made y ∙ ap (λ (o : Option (Held E)). if nat_eq k y then if_made o else if_made (get s y)) flag_is);
      }

      pub seen-promoted : (u : UnitKey) → same_unit unit u ≡ false → seen t (cell_at cells u) ≡ seen s (cell_at cells u)
      seen-promoted u other = seen-same s t k flag slots (cell_at cells u)
          (not-key (settled_key cells) (λ y. if_settled (get s y)) k is.of_settled no_settled u)
          (not-others (made_key cells) (λ y. if_made (get s y)) unit k is.of_made there u other)

      pub stored-promoted : get t k ≡ option_map settled (get s k)
      stored-promoted = slots k ∙ ap (λ (b : Bool). if b then flag else get s k) (eq-eqb k k refl)

  -- what is under the key of a unit is there
  pub made-some : (cells : Cells) (s : Slab (Held E)) (u : UnitKey) → AreCells cells s → is_some (under s (made_key cells u)) ≡ is_some (made_key cells u)
  made-some cells s u is = by (made_key cells u) refl
    where
      there : (k : ℕ) (o : Option (Held E)) → made_key cells u ≡ Some k → get s k ≡ o → is_some o ≡ true
      there k (Some h) e g = refl
      there k None e g = absurd (is.of_made.found u k e (ap if_made g))

      by : (o : Option ℕ) → made_key cells u ≡ o → is_some (under s o) ≡ is_some o
      by None e = refl
      by (Some k) e = there k (get s k) e refl

  -- of a unit an entry was made where it has a key for one
  pub state-made : (cells : Cells) (s : Slab (Held E)) (u : UnitKey) → AreCells cells s → is_some (state (with_slots cells s) u).made ≡ is_some (made_key cells u)
  state-made cells s u is = ap (λ (x : State E). is_some x.made) (state-seen cells s u) ∙ made-some cells s u is

  -- the entry of now
  pub entry-now : (cells : Cells) (s : Slab (Held E)) (u : UnitKey) → AreCells cells s → entry_of (under s (now_key (cell_at cells u))) ≡ (if (cell_at cells u).is_reached then first_of (entry_of (under s (made_key cells u))) (entry_of (under s (settled_key cells u))) else None)
  entry-now cells s u is = by (cell_at cells u).is_reached
    where
      there : (k : ℕ) (o : Option (Held E)) → made_key cells u ≡ Some k → get s k ≡ o → entry_of o ≡ first_of (entry_of o) (entry_of (under s (settled_key cells u)))
      there k (Some h) e g = refl
      there k None e g = absurd (is.of_made.found u k e (ap if_made g))

      made : (m : Option ℕ) → made_key cells u ≡ m → entry_of (under s (first_key m (settled_key cells u))) ≡ first_of (entry_of (under s m)) (entry_of (under s (settled_key cells u)))
      made None e = refl
      made (Some k) e = there k (get s k) e refl

      by : (b : Bool) → entry_of (under s (if b then first_key (made_key cells u) (settled_key cells u) else None)) ≡ (if b then first_of (entry_of (under s (made_key cells u))) (entry_of (under s (settled_key cells u))) else None)
      by true = made (made_key cells u) refl
      by false = refl

  -- a cell without keys is taken away
  pub cells-emptied : (unit : UnitKey) (cells new : Cells) (s : Slab (Held E)) → Turns (λ c. empty) unit cells new → settled_key cells unit ≡ None → made_key cells unit ≡ None → AreCells cells s → AreCells new s
  cells-emptied unit cells new s turns settled made is = record {
    of_settled = keyed-same (settled_key cells) (settled_key new) (λ k. if_settled (get s k)) (λ k. if_settled (get s k)) (λ u. key-turned (λ c. c.settled) (λ c. empty) unit cells new turns u ∙ none (λ c. c.settled) settled u) (λ k. refl) is.of_settled;
    of_made = keyed-same (made_key cells) (made_key new) (λ k. if_made (get s k)) (λ k. if_made (get s k)) (λ u. key-turned (λ c. c.made) (λ c. empty) unit cells new turns u ∙ none (λ c. c.made) made u) (λ k. refl) is.of_made;
  }
    where
      none : (p : Cell → Option ℕ) → p (cell_at cells unit) ≡ None → (u : UnitKey) → (if same_unit unit u then None else p (cell_at cells u)) ≡ p (cell_at cells u)
      none p e u = by (same_unit unit u) refl
        where
          by : (b : Bool) → same_unit unit u ≡ b → (if b then None else p (cell_at cells u)) ≡ p (cell_at cells u)
          by false k = refl
          by true k = sym (subst (λ (v : UnitKey). p (cell_at cells v) ≡ None) (same_unit-one unit u k) e)
