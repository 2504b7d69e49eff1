-- A log's answers, entered and taken out one by one.
use Rattle.std.proofs.Common.{◌≡◌, ◌<◌, ◌+◌, ℕ, Bool, true, false, ◌&&◌, ◌||◌, not, List, Option, Some, None, refl, sym, ◌∙◌, ap, length, nat_eq, nat_lt, arith}
use Rattle.std.specs.Prelude.{slice_get}
use Rattle.std.specs.Option.{option_map_or}
use Rattle.std.proofs.lemmas.Bool.{ltb-true, ltb-false, lt-ltb, le-ltb, eqb-true, eqb-false}
use Rattle.std.proofs.lemmas.Option.{slice_get_past}
use Rattle.al_query.specs.Queries.{same_query}
use Rattle.al_query.specs.declared.answer.AnswerKind.{AnswerKind}
use Rattle.al_query.specs.declared.query.Query.{Query}
use Rattle.al_query_store.specs.Stored.{in_log}

abbrev pub Log : Type 0
Log = List (Query × AnswerKind)

-- whether a log has an answer to a question at this place, which is below another
abbrev pub in_below : Log → Query → ℕ → ℕ → Bool
in_below log q n j = nat_lt j n && in_log log q j

abbrev pub asks : Query → Option (Query × AnswerKind) → Bool
asks q o = option_map_or (λ e. same_query e.0 q) o false

or_false : (b : Bool) → b ≡ (b || false)
or_false true = refl
or_false false = refl

pub below-next : (log : Log) (q : Query) (i j : ℕ) (o : Option (Query × AnswerKind)) → slice_get log i ≡ o → in_below log q (i + 1) j ≡ (in_below log q i j || (nat_eq i j && asks q o))
below-next log q i j o h = by (nat_eq i j) refl
  where
    by : (e : Bool) → nat_eq i j ≡ e → in_below log q (i + 1) j ≡ (in_below log q i j || (e && asks q o))
    by true e =
        let same : i ≡ j = eqb-true i j e in
        let a : nat_lt j (i + 1) ≡ true = lt-ltb j (i + 1) (omega (arith, same)) in
        let b : nat_lt j i ≡ false = le-ltb j i (omega (arith, same)) in
        ap (λ (x : Bool). x && in_log log q j) a ∙ ap (λ (x : ℕ). in_log log q x) (sym same) ∙ ap (asks q) h
        ∙ sym (ap (λ (x : Bool). (x && in_log log q j) || asks q o) b)
    by false e = ap (λ (x : Bool). x && in_log log q j) (at (nat_lt j i) refl) ∙ or_false (in_below log q i j)
      where
        at : (l : Bool) → nat_lt j i ≡ l → nat_lt j (i + 1) ≡ nat_lt j i
        at true l = lt-ltb j (i + 1) (omega (arith, ltb-true j i l)) ∙ sym l
        at false l = le-ltb j (i + 1) (omega (arith, ltb-false j i l, eqb-false i j e)) ∙ sym l

taken : (r k b s e : Bool) → ((r && not (k && b)) && not (s && (k && e))) ≡ (r && not (k && (b || (e && s))))
taken false k b s e = refl
taken true false b true e = refl
taken true false b false e = refl
taken true true true s e = refl
taken true true false true true = refl
taken true true false true false = refl
taken true true false false true = refl
taken true true false false false = refl

entered : (r k b s e : Bool) → ((r || (k && b)) || (s && (k && e))) ≡ (r || (k && (b || (e && s))))
entered true k b s e = refl
entered false false b true e = refl
entered false false b false e = refl
entered false true true s e = refl
entered false true false true true = refl
entered false true false true false = refl
entered false true false false true = refl
entered false true false false false = refl

module _ (log : Log) (q : Query) (i j : ℕ) (e : Query × AnswerKind) (at : slice_get log i ≡ Some e) (r now k : Bool) where
  pub taken-next : now ≡ ((r && not (k && in_below log q i j)) && not (same_query e.0 q && (k && nat_eq i j))) → now ≡ (r && not (k && in_below log q (i + 1) j))
  taken-next h = h ∙ taken r k (in_below log q i j) (same_query e.0 q) (nat_eq i j) ∙ ap (λ (b : Bool). r && not (k && b)) (sym (below-next log q i j (Some e) at))

  pub entered-next : now ≡ ((r || (k && in_below log q i j)) || (same_query e.0 q && (k && nat_eq i j))) → now ≡ (r || (k && in_below log q (i + 1) j))
  entered-next h = h ∙ entered r k (in_below log q i j) (same_query e.0 q) (nat_eq i j) ∙ ap (λ (b : Bool). r || (k && b)) (sym (below-next log q i j (Some e) at))

-- all places of a log are below its length
pub below-all : (log : Log) (q : Query) (j : ℕ) → in_below log q (length log) j ≡ in_log log q j
below-all log q j = by (nat_lt j (length log)) refl
  where
    by : (b : Bool) → nat_lt j (length log) ≡ b → (b && in_log log q j) ≡ in_log log q j
    by true h = refl
    by false h = sym (ap (asks q) (slice_get_past log j (ltb-false j (length log) h)))

pub below-none : (log : Log) (q : Query) (j : ℕ) → in_below log q 0 j ≡ false
below-none log q j = by (nat_lt j 0) refl
  where
    by : (b : Bool) → nat_lt j 0 ≡ b → (b && in_log log q j) ≡ false
    by true h = let l : j < 0 = ltb-true j 0 h in absurd (omega (arith, l))
    by false h = refl

-- a place past the end is none
pub taken-none : (log : Log) (q : Query) (i j : ℕ) (r k : Bool) → slice_get log i ≡ None → (r && not (k && in_below log q i j)) ≡ (r && not (k && in_below log q (i + 1) j))
taken-none log q i j r k at = ap (λ (b : Bool). r && not (k && b)) (or_false (in_below log q i j) ∙ ap (λ (b : Bool). in_below log q i j || b) (sym (by (nat_eq i j))) ∙ sym (below-next log q i j None at))
  where
    by : (b : Bool) → (b && false) ≡ false
    by true = refl
    by false = refl

pub entered-none : (log : Log) (q : Query) (i j : ℕ) (r k : Bool) → slice_get log i ≡ None → (r || (k && in_below log q i j)) ≡ (r || (k && in_below log q (i + 1) j))
entered-none log q i j r k at = ap (λ (b : Bool). r || (k && b)) (or_false (in_below log q i j) ∙ ap (λ (b : Bool). in_below log q i j || b) (sym (by (nat_eq i j))) ∙ sym (below-next log q i j None at))
  where
    by : (b : Bool) → (b && false) ≡ false
    by true = refl
    by false = refl

and_one : (r k : Bool) → r ≡ (r && not (k && false))
and_one false k = refl
and_one true true = refl
and_one true false = refl

or_none : (r k : Bool) → r ≡ (r || (k && false))
or_none true k = refl
or_none false true = refl
or_none false false = refl

module _ (log : Log) (q : Query) (j : ℕ) (r k : Bool) where
  pub taken-first : r ≡ (r && not (k && in_below log q 0 j))
  taken-first = and_one r k ∙ ap (λ (b : Bool). r && not (k && b)) (sym (below-none log q j))

  pub entered-first : r ≡ (r || (k && in_below log q 0 j))
  entered-first = or_none r k ∙ ap (λ (b : Bool). r || (k && b)) (sym (below-none log q j))

back : (r k b l x : Bool) → (k ≡ true → r ≡ false) → ((r || (k && (l && x))) && not (k && x)) ≡ r
back true true b l x h = absurd (true_false (h refl))
  where
    true_false : true ≡ false → ⊥
    true_false e = cc
back true false b l x h = refl
back false false b l x h = refl
back false true b true true h = refl
back false true b true false h = refl
back false true b false x h = refl

-- what was entered in part is taken out again
pub withdrawn : (log : Log) (q : Query) (i j : ℕ) (r mid now k : Bool) → (k ≡ true → r ≡ false) → mid ≡ (r || (k && in_below log q i j)) → now ≡ (mid && not (k && in_log log q j)) → now ≡ r
withdrawn log q i j r mid now k none m n = n ∙ ap (λ (x : Bool). x && not (k && in_log log q j)) m ∙ back r k true (nat_lt j i) (in_log log q j) none
