-- What is known, and what stays known as more is asked.
use Rattle.std.proofs.Common.{◌≡◌, ℕ, ◌+◌, ◌-◌, ◌<◌, zero, suc, Bool, true, false, cond, List, [], ◌∷◌, ◌++◌, Option, Some, None, take, length, get_or, inl, inr, ◌⊎◌, refl, sym, ◌∙◌, ap, subst, append_assoc, append-nil, arith}
use Rattle.std.specs.List.{flat_map, list_any}
use Rattle.std.specs.Str.{bytes_eq}
use Rattle.std.proofs.lemmas.List.{take_more}
use Rattle.std.specs.Option.{option_map}
use Rattle.al_base.specs.declared.unit_key.UnitKey.{UnitKey}
use Rattle.al_base.specs.declared.unit_key.UnitKind.{UnitKind}
use Rattle.al_base.specs.declared.unit_key.UnitKind.TheVariants.{Body, Decl}
use Rattle.al_view.specs.Symbols.{same_unit}
use Rattle.al_query.specs.Answers.{context_of, context_units, names_told, parent_of, units_named}
use Rattle.al_query.specs.Asked.{AsksOf, OfKnown, by_property}
use Rattle.al_query.specs.Known.{AreKnown, has_unit, known_after, learned, told_by}
use Rattle.al_query.specs.Reads.{Log, Table}
use Rattle.al_query.specs.declared.answer.AnswerKind.{AnswerKind}
use Rattle.al_query.specs.declared.answer.AnswerKind.TheVariants as answers
use Rattle.al_query.specs.declared.answer.ContextView.{ContextView}
use Rattle.al_query.specs.declared.query.Property.{Property}
use Rattle.al_query.specs.declared.query.Property.TheVariants.{Kind, Parent}
use Rattle.al_query.specs.declared.query.Query.{Query}
use Rattle.al_query.specs.declared.query.Query.TheVariants.{Of}
use Rattle.al_query.proofs.AskLemmas.{asks_none, asks_of-known, asks_of-units, asks_then}
use Rattle.al_query.proofs.KnownLemmas.{are_known, has_unit-cases, has_unit-first, has_unit-left, has_unit-right, known_after-more}
use Rattle.al_query.specs.Known.{predefined_units}
use Rattle.al_query_outcome.specs.ReadsLaw.{named_by, own_names}
use Rattle.al_unit_graph.specs.Headers.{Header}
use Rattle.al_check_start.specs.Starts.{AreLearned, own_mentions, asked_of, context_mentions, declarations, half_kind, half_of, as_list, key, outward}

-- ---- what another unit answers

pub asked-own : (t : Table) (own unit : UnitKey) (p : Property) → same_unit own unit ≡ true → asked_of t own unit p ≡ answers.Nothing
asked-own t own unit p h = at (same_unit own unit) h
  where
    at : (b : Bool) → b ≡ true → cond b answers.Nothing (t (Of unit p)) ≡ answers.Nothing
    at true k = refl
    at false k = absurd (cc)

pub asked-other : (t : Table) (own unit : UnitKey) (p : Property) → same_unit own unit ≡ false → asked_of t own unit p ≡ t (Of unit p)
asked-other t own unit p h = at (same_unit own unit) h
  where
    at : (b : Bool) → b ≡ false → cond b answers.Nothing (t (Of unit p)) ≡ t (Of unit p)
    at true k = absurd (cc)
    at false k = refl

pub nothing-named : (a : AnswerKind) (u : UnitKey) → a ≡ answers.Nothing → has_unit (units_named a) u ≡ true → ⊥
unfolding units_named
nothing-named a u is h =
    let no : has_unit (units_named answers.Nothing) u ≡ true = subst (λ (x : AnswerKind). has_unit (units_named x) u ≡ true) is h in
    let bad : false ≡ true = no in
    absurd (cc)

pub nothing-names_answered : (a : AnswerKind) (n : List ℕ) → a ≡ answers.Nothing → list_any (bytes_eq n) (names_told a) ≡ true → ⊥
nothing-names_answered a n is h =
    let bad : false ≡ true = subst (λ (x : AnswerKind). list_any (bytes_eq n) (names_told x) ≡ true) is h in
    absurd (cc)

pub parent-named : (a : AnswerKind) (unit : UnitKey) → parent_of a ≡ Some unit → has_unit (units_named a) unit ≡ true
unfolding units_named
parent-named (answers.Parent (Some u)) unit h =
    let same : u ≡ unit = cc in
    subst (λ (x : UnitKey). has_unit (x ∷ []) unit ≡ true) (sym same) (has_unit-first unit [])
parent-named (answers.Parent None) unit h = absurd (cc)
parent-named answers.Nothing unit h = absurd (cc)
parent-named (answers.Views v) unit h = absurd (cc)
parent-named (answers.Kind v) unit h = absurd (cc)
parent-named (answers.IsPrivate b) unit h = absurd (cc)
parent-named (answers.Context c) unit h = absurd (cc)
parent-named (answers.NeedsBody b) unit h = absurd (cc)
parent-named (answers.Completions c) unit h = absurd (cc)

-- ---- the other half

pub half-own : (t : Table) (own unit : UnitKey) → same_unit own unit ≡ true → half_of t own unit ≡ []
half-own t own unit h = at (same_unit own unit) h
  where
    at : (b : Bool) → b ≡ true → cond b [] (as_list (option_map (key unit.name) (half_kind unit.kind (t (Of unit Kind))))) ≡ []
    at true k = refl
    at false k = absurd (cc)

pub half-other : (t : Table) (own unit : UnitKey) (found : Option UnitKind) → same_unit own unit ≡ false → found ≡ half_kind unit.kind (t (Of unit Kind)) → half_of t own unit ≡ as_list (option_map (key unit.name) found)
half-other t own unit found h is = at (same_unit own unit) h ∙ ap (λ k. as_list (option_map (key unit.name) k)) (sym is)
  where
    at : (b : Bool) → b ≡ false → cond b [] (as_list (option_map (key unit.name) (half_kind unit.kind (t (Of unit Kind))))) ≡ as_list (option_map (key unit.name) (half_kind unit.kind (t (Of unit Kind))))
    at true k = absurd (cc)
    at false k = refl

half-told_in : (name : List ℕ) (kind k : UnitKind) (a : AnswerKind) → half_kind kind a ≡ Some k → has_unit (told_by (Of (key name kind) Kind) a) (key name k) ≡ true
half-told_in name Decl k answers.Nothing h =
    let same : Body ≡ k = cc in
    subst (λ (x : UnitKind). has_unit (key name x ∷ []) (key name k) ≡ true) (sym same) (has_unit-first (key name k) [])
half-told_in name Body k (answers.Kind v) h =
    let same : Decl ≡ k = cc in
    subst (λ (x : UnitKind). has_unit (key name x ∷ []) (key name k) ≡ true) (sym same) (has_unit-first (key name k) [])
half-told_in name _ k _ h = absurd (cc)

-- the answer to what the unit is shows it
pub half-answered : (unit : UnitKey) (k : UnitKind) (a : AnswerKind) → half_kind unit.kind a ≡ Some k → has_unit (told_by (Of unit Kind) a) (key unit.name k) ≡ true
half-answered unit k a h = half-told_in unit.name unit.kind k a h

-- ---- lists of units that are known

pub known-join : (known us vs : List UnitKey) → AreKnown known us → AreKnown known vs → AreKnown known (us ++ vs)
known-join known [] vs h k = k
known-join known (u ∷ us) vs h k = (h.0, known-join known us vs h.1 k)

pub known-wider : (known more us : List UnitKey) → ((u : UnitKey) → has_unit known u ≡ true → has_unit more u ≡ true) → AreKnown known us → AreKnown more us
known-wider known more [] w h = tt
known-wider known more (u ∷ us) w h = (w u h.0, known-wider known more us w h.1)

-- after more questions
pub known-later : (known us : List UnitKey) (old new more : Log) → new ≡ old ++ more → AreKnown (known_after known old) us → AreKnown (known_after known new) us
known-later known us old new more e h =
    subst (λ (l : Log). AreKnown (known_after known l) us) (sym e)
    (known-wider (known_after known old) (known_after known (old ++ more)) us (λ u m. known_after-more known old more u m) h)

pub known-asked : (base known us : List UnitKey) (old new : Log) → AsksOf base by_property old new → AreKnown (known_after known old) us → AreKnown (known_after known new) us
known-asked base known us old new a h = known-later known us old new a.0 a.1 h

pub learned-later : (base us : List UnitKey) (old new : Log) → AsksOf base by_property old new → AreLearned old us → AreLearned new us
learned-later base us old new a h known = known-asked base known us old new a (h known)

pub learned-join : (log : Log) (us vs : List UnitKey) → AreLearned log us → AreLearned log vs → AreLearned log (us ++ vs)
learned-join log us vs h k known = known-join (known_after known log) us vs (h known) (k known)

known-own_in : (done us more : List UnitKey) → AreKnown (done ++ (us ++ more)) us
known-own_in done [] more = tt
known-own_in done (u ∷ us) more = (
  has_unit-right done (u ∷ (us ++ more)) u (has_unit-first u (us ++ more)),
  subst (λ (l : List UnitKey). AreKnown l us) (append_assoc done (u ∷ []) (us ++ more)) (known-own_in (done ++ u ∷ []) us more),
)

-- the first of three lists
known-first : (us vs ws : List UnitKey) → AreKnown ((us ++ vs) ++ ws) us
known-first us vs ws = subst (λ (l : List UnitKey). AreKnown l us) (sym (append_assoc us vs ws)) (known-own_in [] us (vs ++ ws))

-- what is known at first is known
pub known-own : (us : List UnitKey) (log : Log) → AreKnown (known_after us log) us
known-own us log = known-own_in [] us (flat_map (λ e. learned e.0 e.1) log)

pub known-left : (us vs : List UnitKey) (log : Log) → AreKnown (known_after (us ++ vs) log) us
known-left us vs log = known-first us vs (flat_map (λ e. learned e.0 e.1) log)

-- what is known if these units are known at first is known if any wider list is
pub known-among : (first base us : List UnitKey) (log : Log) → ((u : UnitKey) → has_unit first u ≡ true → has_unit base u ≡ true) → AreKnown (known_after first log) us → AreKnown (known_after base log) us
known-among first base us log w h = known-wider (known_after first log) (known_after base log) us (λ u m. at u (has_unit-cases first answered u m)) h
  where
    answered : List UnitKey
    answered = flat_map (λ (e : Query × AnswerKind). learned e.0 e.1) log

    at : (u : UnitKey) → (has_unit first u ≡ true) ⊎ (has_unit answered u ≡ true) → has_unit (known_after base log) u ≡ true
    at u (inl m) = has_unit-left base answered u (w u m)
    at u (inr m) = has_unit-right base answered u m

-- ---- one more of a list

pub flat_map-more : {X Y : Type 0} (f : X → List Y) (xs : List X) (i : ℕ) (x : X) → i < length xs → x ≡ get_or xs i x → flat_map f (take (i + 1) xs) ≡ flat_map f (take i xs) ++ f x
flat_map-more f xs i x h e =
    let more : take (i + 1) xs ≡ take i xs ++ x ∷ [] = take_more xs i x h ∙ ap (λ y. take i xs ++ y ∷ []) (sym e) in
    ap (flat_map f) more ∙ push f (take i xs) x
  where
    push : {X Y : Type 0} (f : X → List Y) (xs : List X) (x : X) → flat_map f (xs ++ x ∷ []) ≡ flat_map f xs ++ f x
    push f [] x = append-nil (f x)
    push f (y ∷ ys) x = ap (λ l. f y ++ l) (push f ys x) ∙ sym (append_assoc (f y) (flat_map f ys) (f x))

among-at : (us : List UnitKey) (i : ℕ) (u v : UnitKey) → i < length us → u ≡ get_or us i u → has_unit (u ∷ []) v ≡ true → has_unit us v ≡ true
among-at [] i u v h e m = absurd (omega arith)
among-at (x ∷ us) zero u v h e m = has_unit-left (x ∷ []) us v (subst (λ (y : UnitKey). has_unit (y ∷ []) v ≡ true) e m)
among-at (x ∷ us) (suc i) u v h e m = has_unit-right (x ∷ []) us v (among-at us i u v (omega arith) e m)

-- of one of them
pub asks-at : (us : List UnitKey) (i : ℕ) (u : UnitKey) (old new : Log) → i < length us → u ≡ get_or us i u → AsksOf (u ∷ []) by_property old new → AsksOf us by_property old new
asks-at us i u old new h e one = asks_of-units (u ∷ []) us by_property old new (λ v m. among-at us i u v h e m) one

pub asks-none : (us : List UnitKey) (log : Log) → AsksOf us by_property log log
asks-none us log = asks_none (OfKnown us by_property) log

pub asks-both : (us : List UnitKey) (old mid new : Log) → AsksOf us by_property old mid → AsksOf us by_property mid new → AsksOf us by_property old new
asks-both us old mid new one two = asks_then (OfKnown us by_property) old mid new one two

-- of one that is known
pub asks-one_known : (us : List UnitKey) (u : UnitKey) (old new : Log) → has_unit (known_after us old) u ≡ true → AsksOf (u ∷ []) by_property old new → AsksOf us by_property old new
asks-one_known us u old new h one = asks_of-known (u ∷ []) us by_property old new (h, tt) one

-- ---- outward

-- there is one step left
pub one_left : (most i : ℕ) → i < most → most - i ≡ suc (most - (i + 1))
one_left most i h = omega arith

pub outward-step : (t : Table) (own unit : UnitKey) (most i : ℕ) (parent : Option UnitKey) → i < most → parent ≡ parent_of (asked_of t own unit Parent)
    → outward t own (most - i) (Some unit) ≡ unit ∷ outward t own (most - (i + 1)) parent
outward-step t own unit most i parent h e =
    ap (λ n. outward t own n (Some unit)) (one_left most i h) ∙ ap (λ p. unit ∷ outward t own (most - (i + 1)) p) (sym e)

pub outward-none : (t : Table) (own : UnitKey) (n : ℕ) → outward t own n None ≡ []
outward-none t own zero = refl
outward-none t own (suc n) = refl

pub outward-done : (t : Table) (own : UnitKey) (most i : ℕ) (next : Option UnitKey) → most - i ≡ 0 → outward t own (most - i) next ≡ []
outward-done t own most i next h = ap (λ n. outward t own n next) h

-- ---- what contexts mention

pub mentions-named : (a : AnswerKind) (c : ContextView) → context_of a ≡ Some c → AreKnown (units_named a) (context_mentions (Some c))
unfolding units_named
mentions-named (answers.Context d) c h =
    let same : d ≡ c = cc in
    subst (λ (x : ContextView). AreKnown (context_units d) (flat_map (λ u. declarations u.name) x.withs)) same
    (subst (λ (l : List UnitKey). AreKnown l (context_units d)) (append-nil (context_units d)) (known-own (context_units d) []))
mentions-named answers.Nothing c h = absurd (cc)
mentions-named (answers.Parent p) c h = absurd (cc)
mentions-named (answers.Views v) c h = absurd (cc)
mentions-named (answers.Kind v) c h = absurd (cc)
mentions-named (answers.IsPrivate b) c h = absurd (cc)
mentions-named (answers.NeedsBody b) c h = absurd (cc)
mentions-named (answers.Completions d) c h = absurd (cc)

-- ---- what a source names

pub own-named : (h : Header) (u : UnitKey) → has_unit (own_names h h.parent_body) u ≡ true → has_unit (named_by h) u ≡ true
unfolding named_by
own-named h u m = has_unit-left (predefined_units ++ own_names h h.parent_body) (own_mentions h) u (has_unit-right predefined_units (own_names h h.parent_body) u m)

pub mention-named : (h : Header) (log : Log) → AreKnown (known_after (named_by h) log) (own_mentions h)
unfolding named_by
mention-named h log =
    let answered = flat_map (λ (e : Query × AnswerKind). learned e.0 e.1) log in
    subst (λ (l : List UnitKey). AreKnown l (own_mentions h)) (sym (append_assoc (predefined_units ++ own_names h h.parent_body) (own_mentions h) answered))
    (known-own_in (predefined_units ++ own_names h h.parent_body) (own_mentions h) answered)

-- one unit that is among some
pub only-among : (u : UnitKey) (us : List UnitKey) → has_unit us u ≡ true → (v : UnitKey) → has_unit (u ∷ []) v ≡ true → has_unit us v ≡ true
only-among u us h v m = are_known us (u ∷ []) (h, tt) v m
