-- What is read in turn is read as a whole.
use Rattle.std.proofs.Common.{◌≡◌, ℕ, ◌+◌, ◌≤◌, List, [], ◌∷◌, ◌++◌, length, take, drop, Option, Some, None, refl, ap, sym, ◌∙◌, append_assoc, append-nil, length-append, arith, inl, inr}
use Rattle.std.proofs.lemmas.List.{take-append-drop}
use Rattle.std.specs.Io.KnownBytes.{Consumes, Appends, Keeps, prepend_known}
use Rattle.al_session_stream.specs.Input.{Moment, moment, Reads, Stops}

pub consumes_none : (x : Option (List ℕ)) → Consumes x x []
consumes_none None = tt
consumes_none (Some xs) = refl

pub consumes_then : (x y z : Option (List ℕ)) (bs cs : List ℕ) → Consumes x y bs → Consumes y z cs → Consumes x z (bs ++ cs)
consumes_then None y z bs cs h k = tt
consumes_then (Some xs) None z bs cs h k = absurd h
consumes_then (Some xs) (Some ys) None bs cs h k = absurd k
consumes_then (Some xs) (Some ys) (Some zs) bs cs h k = h ∙ ap (λ r. bs ++ r) k ∙ sym (append_assoc bs cs zs)

pub consumes_one : (b : ℕ) (bs : List ℕ) (x : Option (List ℕ)) → Consumes (prepend_known (b ∷ bs) x) (prepend_known bs x) (b ∷ [])
consumes_one b bs None = tt
consumes_one b bs (Some xs) = refl

pub consumes_front : (n : ℕ) (bs : List ℕ) (x : Option (List ℕ)) → Consumes (prepend_known bs x) (prepend_known (drop n bs) x) (take n bs)
consumes_front n bs None = tt
consumes_front n bs (Some xs) = ap (λ r. r ++ xs) (sym (take-append-drop n bs)) ∙ append_assoc (take n bs) (drop n bs) xs

pub appends_none : (x : Option (List ℕ)) → Appends x x []
appends_none None = tt
appends_none (Some xs) = sym (append-nil xs)

pub appends_then : (x y z : Option (List ℕ)) (bs cs : List ℕ) → Appends x y bs → Appends y z cs → Appends x z (bs ++ cs)
appends_then None y z bs cs h k = tt
appends_then (Some xs) None z bs cs h k = absurd h
appends_then (Some xs) (Some ys) None bs cs h k = absurd k
appends_then (Some xs) (Some ys) (Some zs) bs cs h k = k ∙ ap (λ r. r ++ cs) h ∙ append_assoc xs bs cs

pub appends_keeps : (x y z : Option (List ℕ)) (bs : List ℕ) → Appends x y bs → Keeps y z → Appends x z bs
appends_keeps None y z bs h k = tt
appends_keeps (Some xs) None z bs h k = absurd h
appends_keeps (Some xs) (Some ys) None bs h k = absurd k
appends_keeps (Some xs) (Some ys) (Some zs) bs h k = k ∙ h

pub append_then : (a b c xs ys : List ℕ) → b ≡ a ++ xs → c ≡ b ++ ys → c ≡ a ++ (xs ++ ys)
append_then a b c xs ys h k = k ∙ ap (λ r. r ++ ys) h ∙ append_assoc a xs ys

pub reads_none : (m : Moment) → Reads m m [] 0
reads_none m = record { adds = consumes_none m.ahead; no_fault = refl; counted = refl; few = omega arith }

-- the first bytes in the buffer are read if it drops them
pub reads_front : {S : Type 0} (ahead : S → Option (List ℕ)) (faults pulls : S → ℕ) (source : S) (old new : List ℕ × ℕ) (n : ℕ)
    → new.0 ≡ drop n old.0 → new.1 ≡ old.1 → Reads (moment ahead faults pulls source old) (moment ahead faults pulls source new) (take n old.0) 0
reads_front ahead faults pulls source old new n rest left = record {
  adds = rw rest (consumes_front n old.0 (ahead source));
  no_fault = refl;
  counted = ap (λ l. pulls source + l) left;
  few = omega arith;
}

pub reads_then : {a b c : Moment} {xs ys : List ℕ} {m n : ℕ} (most : ℕ) → m + n ≤ most → Reads a b xs m → Reads b c ys n → Reads a c (xs ++ ys) most
reads_then {a} {b} {c} {xs} {ys} {m} {n} most le h k = record {
  adds = consumes_then a.ahead b.ahead c.ahead xs ys h.adds k.adds;
  no_fault = k.no_fault ∙ h.no_fault;
  counted = k.counted ∙ h.counted;
  few = let one = h.few in let two = k.few in omega arith;
}

pub reads_within : {a b : Moment} {xs : List ℕ} {m : ℕ} (most : ℕ) → m ≤ most → Reads a b xs m → Reads a b xs most
reads_within {a} {b} {xs} {m} most le h = record { adds = h.adds; no_fault = h.no_fault; counted = h.counted; few = let one = h.few in omega arith }

pub stops_then : {a b c : Moment} {xs ys : List ℕ} {m : ℕ} → m ≤ length xs → Reads a b xs m → Stops b c ys → Stops a c (xs ++ ys)
stops_then {a} {b} {c} {xs} {ys} {m} le h k = record {
  adds = consumes_then a.ahead b.ahead c.ahead xs ys h.adds k.adds;
  none_held = k.none_held;
  cause = elim k.cause [
    | inl e ↦ inl (record { counted = e.counted ∙ ap (λ n. n + 1) h.no_fault })
    | inr e ↦ inr (record { no_fault = e.no_fault ∙ h.no_fault; none_left = e.none_left; few = let one = h.few in let two = e.few in omega (arith, length-append xs ys) })
  ];
  counted = k.counted ∙ h.counted;
}
