-- One map alone solves the equations.
use Rattle.std.proofs.Common.{◌≡◌, ◌⊎◌, inl, inr, ℕ, zero, suc, ◌<◌, Bool, true, false, ◌&&◌, ◌||◌, not, List, [], ◌∷◌, Option, Some, None, refl, sym, ◌∙◌, ap, subst, if◌then◌else◌, arith}
use Rattle.std.specs.List.{Contains, list_all, flat_map}
use Rattle.al_base.specs.Batch.{Key, key_of}
use Rattle.al_base.specs.declared.unit_key.UnitKey.{UnitKey}
use Rattle.al_base.specs.declared.unit_key.UnitKind.{UnitKind}
use Rattle.al_base.specs.declared.unit_key.UnitKind.TheVariants.{Body, Decl, Sub}
use Rattle.al_view.specs.Symbols.{same_kind, same_unit}
use Rattle.al_view.proofs.SymbolLemmas.{both, same_unit-self}
use Rattle.al_query.specs.Answers.{declaration, units_named}
use Rattle.al_query.specs.Known.{body, has_unit, known_after, learned, predefined_units, told_by, told_of}
use Rattle.al_query.specs.Queries.{unit_of}
use Rattle.al_query.specs.Reads.{Agrees}
use Rattle.al_query.specs.declared.answer.AnswerKind.{AnswerKind}
use Rattle.al_query.specs.declared.answer.AnswerKind.TheVariants as answers
use Rattle.al_query.specs.declared.query.Property.TheVariants as property
use Rattle.al_query.specs.declared.query.Query.{Query}
use Rattle.al_query.specs.declared.query.Query.TheVariants as query
use Rattle.al_view_typed.specs.UnitTrees.{UnitTree}
use Rattle.al_unit_graph.specs.Dependence.{DependsOn, dependences, directly, through, direct}
use Rattle.al_query_outcome.specs.ReadsLaw.{is_of_another, named_by, outcome_units}
use Rattle.al_query_outcome.specs.Results.{Outcome, Faulty, Sound}
use Rattle.al_query_outcome.specs.Tables.{answer_of, no_answer}
use Rattle.al_query_outcome.specs.declared.interface.UnitInterface.{UnitInterface}
use Rattle.al_query_outcome.specs.Equations.{Check, KeepsReads, Setting, IsSetting, Meaning, Solves, entry, is_reached, is_sound, outcome, rounds, table, unit_named}
use Rattle.al_query_outcome.proofs.Members.{Each, all-at, all-same, each-append, each-cons, each-none, each-one, has-contains}
use Rattle.al_query_outcome.proofs.Near.{Depends, Fine, itself, depended, missing, Near, log-moves, near-other, near-there, near-through}
use Rattle.al_query_outcome.proofs.Names.{into-direct, names-near, near-predefined, tested}
use Rattle.al_query_outcome.proofs.Answered.{answer-named}

-- no answer names a unit
none-named : (q : Query) (P : UnitKey → Type 0) → Each P (units_named (no_answer q))
unfolding units_named
none-named (query.Named unit part name) P = each-none P
none-named (query.Of unit property) P = each-none P

-- an answer that tells of no unit but by being none or a kind
answered-each : (q : Query) (a : AnswerKind) (P : UnitKey → Type 0) → ((x : UnitKey) → q ≡ query.Of x property.Kind → Each P (told_of x a)) → Each P (told_by q a)
answered-each (query.Named unit part name) a P h = each-none P
answered-each (query.Of unit property.Kind) a P h = h unit refl
answered-each (query.Of unit property.Parent) a P h = each-none P
answered-each (query.Of unit property.IsPrivate) a P h = each-none P
answered-each (query.Of unit property.Context) a P h = each-none P
answered-each (query.Of unit property.NeedsBody) a P h = each-none P
answered-each (query.Of unit property.Completions) a P h = each-none P

either : (P : UnitKey → Type 0) (b : Bool) (x : UnitKey) → (b ≡ true → P x) → Each P (if b then x ∷ [] else [])
either P true x h = each-one P x (h refl)
either P false x h = each-none P

-- the predefined units are declarations
predefined-kind : (k : UnitKind) (n : List ℕ) → has_unit predefined_units (record { name = n; kind = k }) ≡ true → same_kind k Body ≡ false
predefined-kind Decl n h = refl
predefined-kind Body n h = absurd (cc)
predefined-kind Sub n h = refl

body-kind : (k : UnitKind) → same_kind k Body ≡ true → k ≡ Body
body-kind Decl h = absurd (cc)
body-kind Body h = refl
body-kind Sub h = absurd (cc)

pub others-not : (u x : UnitKey) (b : Bool) → b ≡ false → (b || not (same_unit u x)) ≡ true → u ≡ x → ⊥
others-not u x true f h is = absurd (cc)
others-not u x false f h is = let t : same_unit u x ≡ true = subst (λ (y : UnitKey). same_unit u y ≡ true) is (same_unit-self u) in absurd (cc)

module _ (meaning : Meaning) (s : Setting) (is : IsSetting s) (keeps : KeepsReads meaning s.header_of) where
  -- below a unit in rank, or without an outcome
  abbrev pub Below : ℕ → UnitKey → Type 0
  Below n d = s.is_faultless d ≡ true → is.rank d < n

  -- a map that solves the equations below a rank
  abbrev pub SolvesBelow : ℕ → (UnitKey → Option Outcome) → Type 0
  SolvesBelow n f = (d : UnitKey) → Below n d → f d ≡ outcome meaning s f d

  pub below-less : (n m : ℕ) (f : UnitKey → Option Outcome) → m < n → SolvesBelow n f → SolvesBelow m f
  below-less n m f less h d b = h d (λ t. let r = b t in omega (arith, less, r))

  outcome-reached : (f : UnitKey → Option Outcome) (u : UnitKey) → is_reached s f u ≡ true → outcome meaning s f u ≡ Some (meaning u (table s f))
  outcome-reached f u r = rw r refl

  pub outcome-none : (f : UnitKey → Option Outcome) (u : UnitKey) → s.is_faultless u ≡ false → outcome meaning s f u ≡ None
  outcome-none f u no_ = rw no_ refl

  pub sound-of : (f : UnitKey → Option Outcome) (u : UnitKey) (o : Option Outcome) → o ≡ outcome meaning s f u → is_sound o ≡ true → is_reached s f u ≡ true
  sound-of f u o e h =
      elim (tested (is_reached s f u)) as (λ _. is_reached s f u ≡ true) [
        | inl r ↦ r
        | inr r ↦ let n : o ≡ None = e ∙ rw r refl in let k : is_sound o ≡ false = rw n refl in absurd (cc)
      ]

  pub faultless-of : (f : UnitKey → Option Outcome) (u : UnitKey) → is_reached s f u ≡ true → s.is_faultless u ≡ true
  faultless-of f u r = (both (s.is_faultless u) _ r).0

  module _ (f : UnitKey → Option Outcome) where
    -- all on which a unit depends that is reached is sound and reached, and lower
    depended-on : (a b : Key) → DependsOn s.files a b → is_reached s f (unit_named a) ≡ true → SolvesBelow (is.rank (unit_named a)) f → (is_sound (f (unit_named b)) ≡ true) × (is_reached s f (unit_named b) ≡ true) × (is.rank (unit_named b) < is.rank (unit_named a))
    depended-on a b (directly c) r solves =
        let two = both (s.is_faultless (unit_named a)) (list_all (λ k. is_sound (f (unit_named k))) (direct s.files a)) r in
        let sound : is_sound (f (unit_named b)) ≡ true = all-at (λ (k : Key). is_sound (f (unit_named k))) (direct s.files a) b two.1 c in
        let lower : Below (is.rank (unit_named a)) (unit_named b) = λ t. is.ordered (unit_named a) (unit_named b) two.0 t c in
        let reached = sound-of f (unit_named b) (f (unit_named b)) (solves (unit_named b) lower) sound in
        (sound, reached, lower (faultless-of f (unit_named b) reached))
    depended-on a b (through {y = y} d e) r solves =
        let one = depended-on a y d r solves in
        let two = depended-on y b e one.1 (below-less _ _ f one.2 solves) in
        let l = one.2 in
        let m = two.2 in
        (two.0, two.1, omega (arith, l, m))

    pub near-depended : (u x : UnitKey) → Depends s u x → is_reached s f u ≡ true → SolvesBelow (is.rank u) f → (is_sound (f x) ≡ true) × (is_reached s f x ≡ true) × (is.rank x < is.rank u)
    near-depended u x d r solves = depended-on (key_of u) (key_of x) d r solves

    -- a body on which the unit depends has its declaration near
    declared-by : (u : UnitKey) (k : UnitKind) (n : List ℕ) → Depends s u (record { name = n; kind = k }) → s.is_faultless (record { name = n; kind = k }) ≡ true → same_kind k Body ≡ true → Near s u (declaration n)
    declared-by u Decl n d t h = absurd (cc)
    declared-by u Sub n d t h = absurd (cc)
    declared-by u Body n d t h =
        elim (tested (s.is_faultless (declaration n))) as (λ _. Near s u (declaration n)) [
          | inl e ↦ near-there s u (declaration n) e (depended (through d (directly (is.completes n t e))))
          | inr e ↦ (missing e, λ k m. depended d)
        ]

    -- the outcomes of these units name what is near them
    abbrev pub ClosedBelow : UnitKey → Type 0
    ClosedBelow u = (y : UnitKey) → Depends s u y → Each (Near s y) (outcome_units (meaning y (table s f)))

    module _ (u : UnitKey) (reached : is_reached s f u ≡ true) (solves : SolvesBelow (is.rank u) f) (closed : ClosedBelow u) where
      sound-answered : (x : UnitKey) → Depends s u x → (i : UnitInterface) (tree : UnitTree) (q : Query) → query.Of x property.Kind ≡ q → Each (Near s u) (told_of x (answer_of i (query.Of x property.Kind)))
      sound-answered x d i tree q e =
          let r = near-depended u x d reached solves in
          either (Near s u) (same_kind x.kind Body) (declaration x.name) (λ h. declared-by u x.kind x.name d (faultless-of f x r.1) h)

      sound-learns : (q : Query) → Depends s u (unit_of q) → (o : Option Outcome) → o ≡ f (unit_of q) → Each (Near s u) (learned q (entry o q))
      sound-learns q d None e = let r = near-depended u (unit_of q) d reached solves in let t : is_sound None ≡ true = subst (λ (o : Option Outcome). is_sound o ≡ true) (sym e) r.0 in absurd (cc)
      sound-learns q d (Some (Faulty faults)) e = let r = near-depended u (unit_of q) d reached solves in let t : is_sound (Some (Faulty faults)) ≡ true = subst (λ (o : Option Outcome). is_sound o ≡ true) (sym e) r.0 in absurd (cc)
      sound-learns q d (Some (Sound i tree)) e =
          let r = near-depended u (unit_of q) d reached solves in
          let is_it : Some (Sound i tree) ≡ Some (meaning (unit_of q) (table s f)) = e ∙ solves (unit_of q) (λ t. r.2) ∙ outcome-reached f (unit_of q) r.1 in
          let same : Sound i tree ≡ meaning (unit_of q) (table s f) = cc in
          each-append (Near s u) _ _
          (λ x c. near-through s u (unit_of q) d x (subst (λ (o : Outcome). Each (Near s (unit_of q)) (outcome_units o)) (sym same) (closed (unit_of q) d) x (answer-named i tree q x c)))
          (answered-each q (answer_of i q) (Near s u) (λ x k. at x k))
        where
          at : (x : UnitKey) → q ≡ query.Of x property.Kind → Each (Near s u) (told_of x (answer_of i q))
          at x k = subst (λ (p : Query). Each (Near s u) (told_of x (answer_of i p))) (sym k) (sound-answered x (subst (λ (p : Query). Depends s u (unit_of p)) k d) i tree q (sym k))

      none-learns : (q : Query) → Near s u (unit_of q) → s.is_faultless (unit_of q) ≡ false → Each (Near s u) (learned q (no_answer q))
      none-learns q near gone =
          each-append (Near s u) _ _ (none-named q (Near s u)) (answered-each q (no_answer q) (Near s u) (λ x k. at x k))
        where
          at : (x : UnitKey) → q ≡ query.Of x property.Kind → Each (Near s u) (told_of x (no_answer q))
          at x k =
              let n : Near s u x = subst (λ (p : Query). Near s u (unit_of p)) k near in
              let g : s.is_faultless x ≡ false = subst (λ (p : Query). s.is_faultless (unit_of p) ≡ false) k gone in
              subst (λ (p : Query). Each (Near s u) (told_of x (no_answer p))) (sym k) (either (Near s u) (same_kind x.kind Decl) (body x.name) (λ h. near-other s u (body x.name) refl (n.1 h g)))

      predefined-learns : (q : Query) → has_unit predefined_units (unit_of q) ≡ true → Each (Near s u) (learned q (s.predefined q))
      predefined-learns q h =
          each-append (Near s u) _ _ (λ x c. near-predefined s is u x (all-at (has_unit predefined_units) (units_named (s.predefined q)) x (is.closed q h) c))
          (answered-each q (s.predefined q) (Near s u) (λ x k. at x k))
        where
          at : (x : UnitKey) → q ≡ query.Of x property.Kind → Each (Near s u) (told_of x (s.predefined q))
          at x k =
              let g : has_unit predefined_units x ≡ true = subst (λ (p : Query). has_unit predefined_units (unit_of p) ≡ true) k h in
              let p = is.packages x g in
              let a : s.predefined q ≡ answers.Kind p.0 = ap s.predefined k ∙ p.1 in
              let none : same_kind x.kind Body ≡ false = predefined-kind x.kind x.name g in
              subst (λ (y : AnswerKind). Each (Near s u) (told_of x y)) (sym a) (either (Near s u) (same_kind x.kind Body) (declaration x.name) (λ t. absurd (cc)))

      gone-none : (x : UnitKey) → s.is_faultless x ≡ false → f x ≡ None
      gone-none x g = solves x (λ t. absurd (cc)) ∙ outcome-none f x g

      pub learns : (q : Query) → is_of_another u q ≡ true → Near s u (unit_of q) → Each (Near s u) (learned q (table s f q))
      learns q other near = at (has_unit predefined_units (unit_of q)) refl near.0
        where
          at : (b : Bool) → has_unit predefined_units (unit_of q) ≡ b → Fine s u (unit_of q) → Each (Near s u) (learned q (if b then s.predefined q else entry (f (unit_of q)) q))
          at true h fine = predefined-learns q h
          at false h (itself e) = absurd (others-not u (unit_of q) _ h other e)
          at false h (depended d) = sound-learns q d (f (unit_of q)) refl
          at false h (missing g) = subst (λ (o : Option Outcome). Each (Near s u) (learned q (entry o q))) (sym (gone-none (unit_of q) g)) (none-learns q near g)

    -- what a check of a unit comes to know is near the unit
    module _ (u : UnitKey) (reached : is_reached s f u ≡ true) (solves : SolvesBelow (is.rank u) f) (closed : ClosedBelow u) where
      there : s.is_faultless u ≡ true
      there = faultless-of f u reached

      pub knows : Each (Near s u) (named_by (s.header_of u))
      knows = names-near s is u (faultless-of f u reached) (λ k c. below k c)
        where
          below : (k : Key) → Contains (dependences s.files (s.header_of u)) k → s.is_faultless (unit_named k) ≡ true
          below k c = let r = depended-on (key_of u) k (into-direct s is u (faultless-of f u reached) k c) reached solves in faultless-of f (unit_named k) r.1

      -- a table that gives the same of all lower units agrees with the log of the check
      pub moves : (g : UnitKey → Option Outcome) → ((d : UnitKey) → Below (is.rank u) d → f d ≡ g d) → (c : Check meaning u (s.header_of u) (table s f)) → Agrees (table s g) c.log × Each (Near s u) (known_after (named_by (s.header_of u)) c.log)
      moves g same c = (moved.0, each-append (Near s u) (named_by (s.header_of u)) _ knows moved.1)
        where
          at : (q : Query) (b : Bool) → has_unit predefined_units (unit_of q) ≡ b → is_of_another u q ≡ true → Fine s u (unit_of q) → f (unit_of q) ≡ g (unit_of q) ⊎ (b ≡ true)
          at q true h o n = inr refl
          at q false h o (itself e) = absurd (others-not u (unit_of q) _ h o e)
          at q false h o (depended d) = inl (same (unit_of q) (λ t. (near-depended u (unit_of q) d reached solves).2))
          at q false h o (missing m) = inl (same (unit_of q) (λ t. absurd (cc)))

          by : (q : Query) (b : Bool) → f (unit_of q) ≡ g (unit_of q) ⊎ (b ≡ true) → (if b then s.predefined q else entry (f (unit_of q)) q) ≡ (if b then s.predefined q else entry (g (unit_of q)) q)
          by q true e = refl
          by q false (inl e) = ap (λ o. entry o q) e
          by q false (inr e) = absurd (cc)

          alike : (q : Query) → is_of_another u q ≡ true → Near s u (unit_of q) → table s f q ≡ table s g q
          alike q o n = by q (has_unit predefined_units (unit_of q)) (at q (has_unit predefined_units (unit_of q)) refl o n.0)

          moved : Agrees (table s g) c.log × Each (Near s u) (flat_map (λ (e : Query × AnswerKind). learned e.0 e.1) c.log)
          moved = log-moves s u (table s f) (table s g) (λ q o n. alike q o n) (learns u reached solves closed) (named_by (s.header_of u)) c.log knows c.grounded c.others c.agrees

      -- what the outcome names is near
      pub outcome-near : Each (Near s u) (outcome_units (meaning u (table s f)))
      outcome-near x c =
          let k = keeps u (table s f) in
          let h : has_unit (u ∷ known_after (named_by (s.header_of u)) k.log) x ≡ true = all-at (has_unit (u ∷ known_after (named_by (s.header_of u)) k.log)) (outcome_units (meaning u (table s f))) x k.names c in
          each-cons (Near s u) u (known_after (named_by (s.header_of u)) k.log) (near-there s u u there (itself refl)) (moves f (λ d b. refl) k).1 x (has-contains (u ∷ known_after (named_by (s.header_of u)) k.log) x h)

    closed-all : (n : ℕ) (u : UnitKey) → is.rank u < n → is_reached s f u ≡ true → SolvesBelow (is.rank u) f → Each (Near s u) (outcome_units (meaning u (table s f)))
    closed-all zero u less r solves = absurd (omega (arith, less))
    closed-all (suc n) u less r solves =
        outcome-near u r solves (λ y d. let l = near-depended u y d r solves in let k = l.2 in closed-all n y (omega (arith, less, k)) l.1 (below-less _ _ f k solves))

    pub closed-below : (u : UnitKey) → is_reached s f u ≡ true → SolvesBelow (is.rank u) f → ClosedBelow u
    closed-below u r solves y d = let l = near-depended u y d r solves in closed-all (suc (is.rank y)) y (omega arith) l.1 (below-less _ _ f l.2 solves)

    -- two maps that are the same of all lower units give a unit one outcome
    pub one-outcome : (u : UnitKey) (g : UnitKey → Option Outcome) → SolvesBelow (is.rank u) f → ((d : UnitKey) → Below (is.rank u) d → f d ≡ g d) → outcome meaning s f u ≡ outcome meaning s g u
    one-outcome u g solves same =
        elim (tested (s.is_faultless u)) as (λ _. outcome meaning s f u ≡ outcome meaning s g u) [
          | inl t ↦
              let alike : is_reached s f u ≡ is_reached s g u = ap (λ b. s.is_faultless u && b) (all-same (λ (k : Key). is_sound (f (unit_named k))) (λ (k : Key). is_sound (g (unit_named k))) (direct s.files (key_of u)) (λ k c. ap is_sound (same (unit_named k) (λ e. is.ordered u (unit_named k) t e c)))) in
              elim (tested (is_reached s f u)) as (λ _. outcome meaning s f u ≡ outcome meaning s g u) [
                | inl r ↦
                    let k = keeps u (table s f) in
                    let m = (moves u r solves (closed-below u r solves) g same k).0 in
                    outcome-reached f u r ∙ ap (λ (o : Outcome). Some o) (k.reads (table s g) m) ∙ sym (outcome-reached g u (sym alike ∙ r))
                | inr r ↦ unreached f r ∙ sym (unreached g (sym alike ∙ r))
              ]
          | inr t ↦ outcome-none f u t ∙ sym (outcome-none g u t)
        ]
      where
        unreached : (h : UnitKey → Option Outcome) → is_reached s h u ≡ false → outcome meaning s h u ≡ None
        unreached h r = rw r refl

  pub solves-all : (n : ℕ) (f : UnitKey → Option Outcome) → Solves meaning s f → SolvesBelow n f
  solves-all n f solves d b = solves d

  agree-below : (f g : UnitKey → Option Outcome) → Solves meaning s f → Solves meaning s g → (n : ℕ) (u : UnitKey) → Below n u → f u ≡ g u
  agree-below f g sf sg zero u b = sf u ∙ elim (tested (s.is_faultless u)) as (λ _. outcome meaning s f u ≡ g u) [ inl t ↦ let r = b t in absurd (omega (arith, r)) | inr t ↦ outcome-none f u t ∙ sym (outcome-none g u t) ∙ sym (sg u) ]
  agree-below f g sf sg (suc n) u b =
      sf u ∙ elim (tested (s.is_faultless u)) as (λ _. outcome meaning s f u ≡ outcome meaning s g u) [
        | inl t ↦ let less = b t in one-outcome f u g (solves-all (is.rank u) f sf) (λ d e. agree-below f g sf sg n d (λ k. let r = e k in omega (arith, less, r)))
        | inr t ↦ outcome-none f u t ∙ sym (outcome-none g u t)
      ] ∙ sym (sg u)

  pub only : (f g : UnitKey → Option Outcome) → Solves meaning s f → Solves meaning s g → (u : UnitKey) → f u ≡ g u
  only f g sf sg u = agree-below f g sf sg (suc (is.rank u)) u (λ t. omega arith)

  rounds-none : (n : ℕ) (u : UnitKey) → s.is_faultless u ≡ false → rounds meaning s n u ≡ None
  rounds-none zero u t = refl
  rounds-none (suc n) u t = outcome-none (rounds meaning s n) u t

  rounds-below : (n : ℕ) → SolvesBelow n (rounds meaning s n)
  rounds-below zero u b = elim (tested (s.is_faultless u)) as (λ _. None ≡ outcome meaning s (rounds meaning s 0) u) [ inl t ↦ let r = b t in absurd (omega (arith, r)) | inr t ↦ sym (outcome-none (rounds meaning s 0) u t) ]
  rounds-below (suc n) u b =
      elim (tested (s.is_faultless u)) as (λ _. outcome meaning s (rounds meaning s n) u ≡ outcome meaning s (rounds meaning s (suc n)) u) [
        | inl t ↦
            let less = b t in
            let lower : (d : UnitKey) → Below (is.rank u) d → rounds meaning s n d ≡ outcome meaning s (rounds meaning s n) d = λ d e. rounds-below n d (λ k. let r = e k in omega (arith, less, r)) in
            one-outcome (rounds meaning s n) u (rounds meaning s (suc n)) lower lower
        | inr t ↦ outcome-none (rounds meaning s n) u t ∙ sym (outcome-none (rounds meaning s (suc n)) u t)
      ]

  pub solved : Solves meaning s (rounds meaning s is.bound)
  solved u = rounds-below is.bound u (is.bounded u)
