-- Bytes before the first place of one of them, as they are read in turn.
use Rattle.std.proofs.Common.{◌≡◌, ◌≢◌, ℕ, zero, suc, Bool, cond, eqb, true, false, List, [], ◌∷◌, ◌++◌, take, Option, Some, None, refl, ap, arith}
use Rattle.std.proofs.lemmas.Bool.Decides.{nat_tests}
use Rattle.std.proofs.lemmas.List.Elements.{All-nil, All-cons}
use Rattle.al_session_stream.specs.Cuts.{onto, cut_at, CutsFirst}

-- a byte that isn't looked for, at the end of bytes that aren't
pub cut_at_push : (byte b : ℕ) (bs : List ℕ) → cut_at byte bs ≡ None → b ≢ byte → cut_at byte (bs ++ b ∷ []) ≡ None
cut_at_push byte b [] none differs = grind (arith, nat_tests)
cut_at_push byte b (x ∷ bs) none differs =
    elim (eqb x byte) as (λ t. cond t (Some ([], bs)) (onto x (cut_at byte bs)) ≡ None → cond t (Some ([], bs ++ b ∷ [])) (onto x (cut_at byte (bs ++ b ∷ []))) ≡ None) [
      | true ↦ λ e. cc
      | false ↦ λ e. ap (onto x) (cut_at_push byte b bs (onto_none x (cut_at byte bs) e) differs)
    ] none
  where
    onto_none : (x : ℕ) (cut : Option (List ℕ × List ℕ)) → onto x cut ≡ None → cut ≡ None
    onto_none x None e = refl
    onto_none x (Some cut) e = cc

-- the byte that is looked for, after bytes that aren't
pub cut_at_found : (byte : ℕ) (bs more : List ℕ) → cut_at byte bs ≡ None → cut_at byte (bs ++ byte ∷ more) ≡ Some (bs, more)
cut_at_found byte [] more none = grind (arith, nat_tests)
cut_at_found byte (x ∷ bs) more none =
    elim (eqb x byte) as (λ t. cond t (Some ([], bs)) (onto x (cut_at byte bs)) ≡ None → cond t (Some ([], bs ++ byte ∷ more)) (onto x (cut_at byte (bs ++ byte ∷ more))) ≡ Some (x ∷ bs, more)) [
      | true ↦ λ e. cc
      | false ↦ λ e. ap (onto x) (cut_at_found byte bs more (onto_none x (cut_at byte bs) e))
    ] none
  where
    onto_none : (x : ℕ) (cut : Option (List ℕ × List ℕ)) → onto x cut ≡ None → cut ≡ None
    onto_none x None e = refl
    onto_none x (Some cut) e = cc

-- what is kept of bytes that are kept in turn
pub take_push_kept : (n : ℕ) (bs : List ℕ) (b : ℕ) → take n (take n bs ++ b ∷ []) ≡ take n (bs ++ b ∷ [])
take_push_kept zero bs b = refl
take_push_kept (suc n) [] b = refl
take_push_kept (suc n) (x ∷ bs) b = ap (λ r. x ∷ r) (take_push_kept n bs b)

-- each cut is at the first place
pub cut_at-first : (byte : ℕ) (bytes : List ℕ) → CutsFirst byte bytes (cut_at byte bytes)
cut_at-first byte [] = All-nil (λ x. x ≢ byte)
cut_at-first byte (b ∷ bs) = step (cut_at-first byte bs) (eqb b byte) refl
  where
    onto_first : b ≢ byte → (cut : Option (List ℕ × List ℕ)) → CutsFirst byte bs cut → CutsFirst byte (b ∷ bs) (onto b cut)
    onto_first differs None lacks = All-cons (λ x. x ≢ byte) b bs differs lacks
    onto_first differs (Some cut) first = (ap (λ r. b ∷ r) first.0, All-cons (λ x. x ≢ byte) b cut.0 differs first.1)

    step : CutsFirst byte bs (cut_at byte bs) → (t : Bool) → eqb b byte ≡ t → CutsFirst byte (b ∷ bs) (cond t (Some ([], bs)) (onto b (cut_at byte bs)))
    step rest true e = let same : b ≡ byte = grind (arith, nat_tests) in (ap (λ x. x ∷ bs) same, All-nil (λ x. x ≢ byte))
    step rest false e = onto_first (grind (arith, nat_tests)) (cut_at byte bs) rest
