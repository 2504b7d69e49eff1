-- The partition that a build can use again.
use Rattle.std.proofs.Common.{◌≡◌, Bor, ℕ, true, List, [], ◌∷◌, ◌++◌, map, Option, Some, None, IfSome, is_some, refl, sym, ap, subst, ◌∙◌, if◌then◌else◌}
use Rattle.std.specs.Prelude.{MatchOption}
use Rattle.std.specs.Option.{option_map}
use Rattle.std.specs.List.{Contains, flat_map}
use Rattle.al_base.specs.Batch.{Key, key_of}
use Rattle.al_base.specs.declared.unit_key.UnitKey.{UnitKey}
use Rattle.al_base.specs.declared.unit_key.UnitKind.TheVariants.{Sub}
use Rattle.al_unit_graph.specs.Headers.{Header, Library}
use Rattle.al_unit_graph.specs.Library.{unit_at}
use Rattle.al_unit_graph.specs.Needed.{subunits_of}
use Rattle.al_bind.specs.Elaboration.{IsPartOf, itself, subunit}
use Rattle.al_engine.specs.Placed.{ArePlaced, AreSubunits, item, nothing}
use Rattle.al_query.specs.declared.answer.AnswerKind.{AnswerKind}
use Rattle.al_query.specs.declared.query.Query.{Query}
use Rattle.al_query_outcome.specs.Results.{Outcome}
use Rattle.al_engine_refresh.specs.EntryLaw.{TextMeaning}
use Rattle.al_engine_refresh.specs.Stored.{Stored}
use Rattle.al_engine_refresh.specs.Builds.{results_of}
use Rattle.al_engine.specs.GraphGraphs.{HaveOneGraph, unplaced}
use Rattle.al_engine.proofs.SameUnits.{there_too}
use Rattle.al_engine.specs.Batches.{IsBatch}
use Rattle.al_engine.specs.BatchRenewals.{HoldsPartition, KeepsPartition}
use Rattle.al_engine.specs.declared.compiled.Compiled.{Compiled}
use Rattle.al_engine.specs.declared.compiled.Compiled.TheVariants.{Faulty, Unbound, TooLarge, Made}
use Rattle.al_engine.specs.declared.compiled.Program.{Program}
use Rattle.al_engine.specs.Earlier.{KeepsEarlier}
use Rattle.al_engine.specs.declared.earlier.Earlier.{Earlier}
use Rattle.al_engine.specs.Rebuilds.{IsRebuilt}
use Rattle.al_engine.specs.declared.rebuilding.Rebuilt.{Rebuilt}

-- the parts of an item depend on what the units are
module _ (old new : Library) (units : (key : Key) → option_map unplaced (unit_at old key) ≡ option_map unplaced (unit_at new key)) where
  some-units : (o : Option Header) → is_some o ≡ is_some (option_map unplaced o)
  some-units None = refl
  some-units (Some h) = refl

  is-unit : (key : Key) → is_some (unit_at old key) ≡ is_some (unit_at new key)
  is-unit key = some-units (unit_at old key) ∙ ap is_some (units key) ∙ sym (some-units (unit_at new key))

  the_subunits : (name : List ℕ) (h k : Header) → unplaced h ≡ unplaced k → subunits_of old name h ≡ subunits_of new name k
  the_subunits name h k is = (λ i. flat_map (λ stub. if is-unit (name ++ 46 ∷ stub, Sub) i then (name ++ 46 ∷ stub, Sub) ∷ [] else []) h.stubs) ∙ ap (subunits_of new name) is

  part : {x p : Key} → IsPartOf old x p → IsPartOf new x p
  part itself = itself
  part (subunit {p = p} {q = q} {h = h} is at c) =
      let k = there_too (unit_at old p) (unit_at new p) (units p) h at in subunit (part is) k.1 (subst (λ (ks : List Key). Contains ks q) (the_subunits p.0 h k.0 k.2) c)

module _ (old new : Library) (one : HaveOneGraph old new) where
  subunits-stay : (x : Key) (subunits : List Key) → AreSubunits old x subunits → AreSubunits new x subunits
  subunits-stay x subunits are = record {
    ascend = are.ascend;
    all = λ p. (
      (λ c. let is = (are.all p).0 c in (part old new one.units is.0, is.1)),
      (λ is. (are.all p).1 (part new old (λ key. sym (one.units key)) is.0, is.1)),
    );
  }

  placed-stay : (items placed : List Key) → ArePlaced old items placed → ArePlaced new items placed
  placed-stay _ _ nothing = nothing
  placed-stay _ _ (item {x = x} {items = items} {subunits = subunits} {placed = placed} are more) = item (subunits-stay x subunits are) (placed-stay items placed more)

  partition-stays : (f : UnitKey → Option Outcome) (main : List ℕ) (program : Program) → HoldsPartition old f main program → HoldsPartition new f main program
  partition-stays f main program is = (
    record {
      ordered = one.elaboration main (map key_of program.order.items) is.0.ordered;
      placed = is.0.placed;
      are_placed = placed-stay (map key_of program.order.items) is.0.placed is.0.are_placed;
      symbol_is = refl;
      objects_are = is.0.objects_are;
    },
    is.1,
  )

  keeps-stay : (f : UnitKey → Option Outcome) (main : List ℕ) (compiled : Compiled) → KeepsPartition old f main compiled → KeepsPartition new f main compiled
  keeps-stay f main (Faulty diagnostics) is = tt
  keeps-stay f main (Unbound fault) is = tt
  keeps-stay f main (TooLarge order) is = tt
  keeps-stay f main (Made program) is = partition-stays f main program is

  -- so does what is kept of an earlier build
  earlier-stays : (f : UnitKey → Option Outcome) (earlier : Option Earlier) → KeepsEarlier old f earlier → KeepsEarlier new f earlier
  earlier-stays f None is = tt
  earlier-stays f (Some k) is = record { outcomes = is.outcomes; others = is.others; sound = is.sound; keeps = keeps-stay is.outcomes k.main k.compiled is.keeps }

  -- what compiling gave holds the partition of a library with the same headers, by the same outcomes
  batch-keeps : (f : UnitKey → Option Outcome) (main : List ℕ) (compiled : Compiled) → IsBatch old f main compiled → KeepsPartition new f main compiled
  batch-keeps f main (Faulty diagnostics) is = tt
  batch-keeps f main (Unbound fault) is = tt
  batch-keeps f main (TooLarge order) is = tt
  batch-keeps f main (Made program) is = partition-stays f main program is.2

-- if the build reached each unit, these are the outcomes of the entries that there are
pub entries-keep : (meaning : TextMeaning) (header : List ℕ → Header) (pre : Query → AnswerKind) (lib : Library) (main : List ℕ) (before entries : UnitKey → Option Stored) (gave : Rebuilt) (is : IsRebuilt meaning header pre lib main before entries gave) → ((w : UnitKey) → entries w ≡ is.made w)
    → (new : Library) → HaveOneGraph lib new → KeepsPartition new (results_of entries) main gave.compiled × KeepsEarlier new (results_of entries) gave.earlier
entries-keep meaning header pre lib main before entries gave is made new one =
    subst (λ (at : UnitKey → Option Stored). KeepsPartition new (results_of at) main gave.compiled × KeepsEarlier new (results_of at) gave.earlier) (λ i w. sym (made w) i)
    (batch-keeps lib new one (results_of is.made) main gave.compiled is.is_batch, earlier-stays lib new one (results_of is.made) gave.earlier is.earlier)

-- what holds if there is an element
pub some-is : {X : Type 0} (o : Option X) (P : Type 0) → P → IfSome o (λ _. P)
some-is None P p = tt
some-is (Some x) P p = p

-- the partition is that of this main unit, if the last build was of it
pub partition-for : {X U : Type 0} (unit : Option U) (same : Option X) (main_of : X → List ℕ) (main : List ℕ) (K : List ℕ → Type 0) → MatchOption same ⊥ (λ b. main_of b ≡ main) → IfSome unit (λ _. IfSome same (λ b. K (main_of b))) → IfSome unit (λ _. K main)
partition-for None same main_of main K is has = tt
partition-for (Some u) None main_of main K is has = absurd is
partition-for (Some u) (Some b) main_of main K is has = subst K is has

pub partition-of-last : {X U : Type 0} (unit : Option U) (same : Option X) (main_of : X → List ℕ) (last : Option (Bor (List ℕ))) (K : List ℕ → Type 0) → IfSome last (λ m. MatchOption same ⊥ (λ b. main_of b ≡ m.now)) → IfSome unit (λ _. IfSome same (λ b. K (main_of b)))
    → IfSome last (λ m. IfSome unit (λ _. K m.now))
partition-of-last unit same main_of None K is has = tt
partition-of-last unit same main_of (Some m) K is has = partition-for unit same main_of m.now K is has
