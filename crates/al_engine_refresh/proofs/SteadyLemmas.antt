-- What was made and which units leave, if one unit is turned.
use Rattle.std.proofs.Common.{◌≡◌, ◌&&◌, ◌||◌, ◌++◌, ◌⊎◌, inl, inr, Bool, true, false, not, List, [], ◌∷◌, Option, Some, None, refl, sym, ◌∙◌, ap, subst, is_some, if◌then◌else◌}
use Rattle.std.specs.List.{Contains}
use Rattle.std.specs.Option.{option_map}
use Rattle.std.proofs.lemmas.Bool.{true≢false}
use Rattle.std.proofs.lemmas.List.Elements.{Contains-append_left, Contains-append_right, Contains-append_cases}
use Rattle.al_base.specs.declared.unit_key.UnitKey.{UnitKey}
use Rattle.al_base_graph.proofs.Members.{first, first_or_later, nowhere}
use Rattle.al_view.specs.Symbols.{same_unit}
use Rattle.al_view.proofs.SymbolLemmas.{same_unit-one, same_unit-self}
use Rattle.al_query.specs.declared.answer.AnswerKind.{AnswerKind}
use Rattle.al_query.specs.declared.query.Query.{Query}
use Rattle.al_query_store.specs.Stored.{base, fresh}
use Rattle.al_query_store.specs.declared.slots.Held.{Held}
use Rattle.al_query_store.specs.Changes.{with_made}
use Rattle.al_query_store.specs.Keyed.{State, base_state, differ, state, with_reached}
use Rattle.al_unit_graph.specs.Headers.{Library}
use Rattle.al_engine_refresh.specs.Stored.{Stored, log_of}
use Rattle.al_engine_refresh.specs.Moves.{Entries, has_moved}
use Rattle.al_engine_refresh.specs.Staying.{is_there}
use Rattle.al_engine_refresh.specs.Moving.{AreLeaving, IsSteady, Turned}

some-based : (a b : Option (Held Stored)) → option_map base a ≡ option_map base b → is_some a ≡ is_some b
some-based None None k = refl
some-based (Some x) None k = absurd (cc)
some-based None (Some x) k = absurd (cc)
some-based (Some x) (Some y) k = refl

-- of a unit that hasn't moved nothing was made, and it doesn't leave
unmoved-parts : (m l d : Bool) → (m || l || d) ≡ false → (m ≡ false) × (l ≡ false)
unmoved-parts false false d h = (refl, refl)
unmoved-parts false true d h = absurd (true≢false h)
unmoved-parts true l d h = absurd (true≢false h)

-- an entry that was made is so still
fresh-based : (a b : Option (Held Stored)) (h : Held Stored) → option_map base a ≡ option_map base b → a ≡ Some h → ((g : Held Stored) → b ≡ Some g → base g ≡ fresh log_of g.entry) → base h ≡ fresh log_of h.entry
fresh-based None b h k is f = absurd (cc)
fresh-based (Some x) None h k is f = absurd (cc)
fresh-based (Some x) (Some g) h k is f =
    let one : x ≡ h = cc in
    let same : base x ≡ base g = cc in
    subst (λ (y : Held Stored). base y ≡ fresh log_of y.entry) one (same ∙ f g refl ∙ ap (λ (y : Held Stored). fresh log_of y.entry) (sym same))

module _ (pre : Query → AnswerKind) (lib : Library) (unit : UnitKey) (old new : Entries) (unmoved : has_moved old unit ≡ false) (checked : List UnitKey) (is : IsSteady lib checked old) where
  none_made : is_some (state old unit).made ≡ false
  none_made = (unmoved-parts (is_some (state old unit).made) (state old unit).leaves (differ (state old unit).was_reached (state old unit).is_reached) unmoved).0

  not_leaving : (state old unit).leaves ≡ false
  not_leaving = (unmoved-parts (is_some (state old unit).made) (state old unit).leaves (differ (state old unit).was_reached (state old unit).is_reached) unmoved).1

  module _ (f : State Stored → State Stored) (turned : Turned pre f unit old new) where
    here : base_state (state new unit) ≡ base_state (f (state old unit))
    here = turned.states unit ∙ ap (λ (b : Bool). base_state (if b then f (state old unit) else state old unit)) (same_unit-self unit)

    other : (u : UnitKey) → same_unit unit u ≡ false → base_state (state new u) ≡ base_state (state old u)
    other u k = turned.states u ∙ ap (λ (b : Bool). base_state (if b then f (state old u) else state old u)) k

    -- a part of the states that f leaves
    part : {X : Type 0} (p : State Stored → X) → ((s : State Stored) → p (base_state (f s)) ≡ p (base_state s)) → (u : UnitKey) → p (base_state (state new u)) ≡ p (base_state (state old u))
    part p left u = by (same_unit unit u) refl
      where
        by : (b : Bool) → same_unit unit u ≡ b → p (base_state (state new u)) ≡ p (base_state (state old u))
        by true k = subst (λ (v : UnitKey). p (base_state (state new v)) ≡ p (base_state (state old v))) (same_unit-one unit u k) (ap p here ∙ left (state old unit))
        by false k = ap p (other u k)

    leaving : ((s : State Stored) → (f s).settled ≡ s.settled) → ((s : State Stored) → (f s).leaves ≡ s.leaves) → AreLeaving lib new
    leaving settled_left leaves_left = record {
      leaves = λ u. leaves_same u ∙ is.leaving.leaves u ∙ ap (λ (b : Bool). b && not (is_there lib u)) (sym (settled_same u));
      unreached = λ u l. unreached u (same_unit unit u) refl l;
    }
      where
        leaves_same : (u : UnitKey) → (state new u).leaves ≡ (state old u).leaves
        leaves_same u = part (λ s. s.leaves) leaves_left u

        settled_same : (u : UnitKey) → is_some (state new u).settled ≡ is_some (state old u).settled
        settled_same u = some-based (state new u).settled (state old u).settled (part (λ s. s.settled) (λ s. ap (option_map base) (settled_left s)) u)

        unreached : (u : UnitKey) (b : Bool) → same_unit unit u ≡ b → (state new u).leaves ≡ true → (state new u).is_reached ≡ false
        unreached u true k l = absurd (true≢false (sym l ∙ leaves_same u ∙ subst (λ (v : UnitKey). (state old v).leaves ≡ false) (same_unit-one unit u k) not_leaving))
        unreached u false k l = ap (λ (s : State Stored). s.is_reached) (other u k) ∙ is.leaving.unreached u (sym (leaves_same u) ∙ l)

  -- it is reached another way
  pub steady-reached : (b : Bool) → Turned pre (with_reached b) unit old new → IsSteady lib checked new
  steady-reached b turned = record {
    listed = λ u. (λ c. made_same u ∙ (is.listed u).0 c, λ m. (is.listed u).1 (sym (made_same u) ∙ m));
    are_made = record {
      reached = λ u m. reached u (same_unit unit u) refl (sym (made_same u) ∙ m);
      fresh_made = λ u h k. fresh-based (state new u).made (state old u).made h (made_base u) k (is.are_made.fresh_made u);
    };
    leaving = leaving (with_reached b) turned (λ s. refl) (λ s. refl);
  }
    where
      made_base : (u : UnitKey) → option_map base (state new u).made ≡ option_map base (state old u).made
      made_base u = part (with_reached b) turned (λ s. s.made) (λ s. refl) u

      made_same : (u : UnitKey) → is_some (state new u).made ≡ is_some (state old u).made
      made_same u = some-based (state new u).made (state old u).made (made_base u)

      reached : (u : UnitKey) (x : Bool) → same_unit unit u ≡ x → is_some (state old u).made ≡ true → (state new u).is_reached ≡ true
      reached u true k m = absurd (true≢false (sym m ∙ subst (λ (v : UnitKey). is_some (state old v).made ≡ false) (same_unit-one unit u k) none_made))
      reached u false k m = ap (λ (s : State Stored). s.is_reached) (other (with_reached b) turned u k) ∙ is.are_made.reached u m

  -- an entry is made of it
  pub steady-made : (e : Stored) → Turned pre (with_made log_of e) unit old new → (more : List UnitKey) → more ≡ checked ++ unit ∷ [] → IsSteady lib more new
  steady-made e turned more added = record {
    listed = λ u. (λ c. made_of u (subst (λ (us : List UnitKey). Contains us u) added c), λ m. subst (λ (us : List UnitKey). Contains us u) (sym added) (in_list u (same_unit unit u) refl m));
    are_made = record {
      reached = λ u m. reached u (same_unit unit u) refl m;
      fresh_made = λ u h k. fresh_of u (same_unit unit u) refl h k;
    };
    leaving = leaving (with_made log_of e) turned (λ s. refl) (λ s. refl);
  }
    where
      made_here : is_some (state new unit).made ≡ true
      made_here = some-based (state new unit).made (Some (fresh log_of e)) (ap (λ (s : State Stored). s.made) (here (with_made log_of e) turned))

      made_other : (u : UnitKey) → same_unit unit u ≡ false → option_map base (state new u).made ≡ option_map base (state old u).made
      made_other u k = ap (λ (s : State Stored). s.made) (other (with_made log_of e) turned u k)

      made_of : (u : UnitKey) → Contains (checked ++ unit ∷ []) u → is_some (state new u).made ≡ true
      made_of u c = by (same_unit unit u) refl (Contains-append_cases checked (unit ∷ []) u c)
        where
          by : (x : Bool) → same_unit unit u ≡ x → Contains checked u ⊎ Contains (unit ∷ []) u → is_some (state new u).made ≡ true
          by true k w = subst (λ (v : UnitKey). is_some (state new v).made ≡ true) (same_unit-one unit u k) made_here
          by false k (inl w) = some-based (state new u).made (state old u).made (made_other u k) ∙ (is.listed u).0 w
          by false k (inr w) = last (first_or_later unit [] u w)
            where
              last : (unit ≡ u) ⊎ Contains [] u → is_some (state new u).made ≡ true
              last (inl same) = subst (λ (v : UnitKey). is_some (state new v).made ≡ true) same made_here
              last (inr none) = absurd (nowhere u none)

      in_list : (u : UnitKey) (x : Bool) → same_unit unit u ≡ x → is_some (state new u).made ≡ true → Contains (checked ++ unit ∷ []) u
      in_list u true k m = Contains-append_right checked (unit ∷ []) u (subst (λ (v : UnitKey). Contains (unit ∷ []) v) (same_unit-one unit u k) (first unit []))
      in_list u false k m = Contains-append_left checked (unit ∷ []) u ((is.listed u).1 (sym (some-based (state new u).made (state old u).made (made_other u k)) ∙ m))

      reached : (u : UnitKey) (x : Bool) → same_unit unit u ≡ x → is_some (state new u).made ≡ true → (state new u).is_reached ≡ true
      reached u true k m = subst (λ (v : UnitKey). (state new v).is_reached ≡ true) (same_unit-one unit u k) (ap (λ (s : State Stored). s.is_reached) (here (with_made log_of e) turned))
      reached u false k m = ap (λ (s : State Stored). s.is_reached) (other (with_made log_of e) turned u k) ∙ is.are_made.reached u (sym (some-based (state new u).made (state old u).made (made_other u k)) ∙ m)

      fresh_here : (h : Held Stored) → (state new unit).made ≡ Some h → base h ≡ fresh log_of h.entry
      fresh_here h k = fresh-based (state new unit).made (Some (fresh log_of e)) h (ap (λ (s : State Stored). s.made) (here (with_made log_of e) turned)) k (λ g same. let one : fresh log_of e ≡ g = cc in subst (λ (y : Held Stored). base y ≡ fresh log_of y.entry) one refl)

      fresh_of : (u : UnitKey) (x : Bool) → same_unit unit u ≡ x → (h : Held Stored) → (state new u).made ≡ Some h → base h ≡ fresh log_of h.entry
      fresh_of u true k h is_ = fresh_here h (subst (λ (v : UnitKey). (state new v).made ≡ Some h) (sym (same_unit-one unit u k)) is_)
      fresh_of u false k h is_ = fresh-based (state new u).made (state old u).made h (made_other u k) is_ (is.are_made.fresh_made u)

-- before the first unit
pub steady-none : (lib : Library) (store : Entries) (checked : List UnitKey) → checked ≡ [] → ((u : UnitKey) → (state store u).made ≡ None) → AreLeaving lib store → IsSteady lib checked store
steady-none lib store checked none made leaving = record {
  listed = λ u. (λ c. absurd (nowhere u (subst (λ (us : List UnitKey). Contains us u) none c)), λ m. absurd (true≢false (sym m ∙ ap is_some (made u))));
  are_made = record {
    reached = λ u m. absurd (true≢false (sym m ∙ ap is_some (made u)));
    fresh_made = λ u h k. let no : None ≡ Some h = sym (made u) ∙ k in absurd (cc);
  };
  leaving = leaving;
}
