-- Names that are read are those that were written, and what was written is read again.
use Rattle.std.proofs.Common.{◌≡◌, ℕ, zero, suc, ◌+◌, ◌-◌, ◌<◌, ◌≤◌, false, ltb, List, [], ◌∷◌, ◌++◌, length, take, drop, Some, None, refl, sym, ap, subst, ◌∙◌, append_assoc, append-nil, arith}
use Rattle.std.specs.List.{flat_map}
use Rattle.std.proofs.lemmas.Bool.{ltb-false, le-ltb}
use Rattle.std.proofs.lemmas.List.{take_at, drop_at, take-append-drop, length-append, length-take}
use Rattle.al_instr.specs.Codes.{word_bytes, name_bytes, names_bytes}
use Rattle.al_instr.specs.Reading.{word_at, name_at, names_after, names_at}
use Rattle.al_instr.proofs.Fields.{IsBytes, IsBytes-drop, Takes, Takes-then, bind_some, guard_some, word_again, word_takes, IsReader}

name_takes : (bytes name rest : List ℕ) → IsBytes bytes → name_at bytes ≡ Some (name, rest) → Takes bytes (name_bytes name) rest
unfolding name_at
name_takes [] name rest fits e = absurd cc
name_takes (n ∷ bytes) name rest fits e =
    let after : IsBytes bytes = λ k. fits (suc k) in
    let g = guard_some (ltb (length bytes) n) (take n bytes, drop n bytes) (name, rest) e in
    let long : n ≤ length bytes = ltb-false _ _ g.0 in
    let len : length (take n bytes) ≡ n = omega (arith, length-take n bytes) in
    let parts : n ∷ bytes ≡ name_bytes (take n bytes) ++ drop n bytes = ap (λ (xs : List ℕ). n ∷ xs) (sym (take-append-drop n bytes)) ∙ ap (λ k. k ∷ (take n bytes ++ drop n bytes)) (sym len) in
    subst (λ (p : List ℕ × List ℕ). Takes (n ∷ bytes) (name_bytes p.0) p.1) g.1 (record { parts = parts; rest_fits = IsBytes-drop n bytes after })

name_again : (name rest : List ℕ) → name_at (name_bytes name ++ rest) ≡ Some (name, rest)
unfolding name_at
name_again name rest =
    let long : ltb (length (name ++ rest)) (length name) ≡ false = le-ltb _ _ (omega (arith, length-append name rest)) in
    rw (long, take_at name rest (length name) refl, drop_at name rest (length name) refl) refl

-- the names that were found, after those that were there
record More (names : List (List ℕ)) (n : ℕ) (bytes : List ℕ) (all : List (List ℕ)) (rest : List ℕ) : Type 0 where
  more : List (List ℕ)
  all_is : all ≡ names ++ more
  count : length more ≡ n
  takes : Takes bytes (flat_map name_bytes more) rest

more_takes : (names : List (List ℕ)) (n : ℕ) (bytes : List ℕ) (all : List (List ℕ)) (rest : List ℕ) → IsBytes bytes → names_after names n bytes ≡ Some (all, rest) → More names n bytes all rest
unfolding names_after
more_takes names zero bytes all rest fits e =
    let same : (names, bytes) ≡ (all, rest) = cc in
    subst (λ (p : List (List ℕ) × List ℕ). More names 0 bytes p.0 p.1) same (record { more = []; all_is = sym (append-nil names); count = refl; takes = record { parts = refl; rest_fits = fits } })
more_takes names (suc n) bytes all rest fits e =
    let b = bind_some (name_at bytes) (λ x. names_after (names ++ x.0 ∷ []) n x.1) (all, rest) e in
    let t = name_takes bytes b.0.0 b.0.1 fits b.1 in
    let later = more_takes (names ++ b.0.0 ∷ []) n b.0.1 all rest t.rest_fits b.2 in
    record {
      more = b.0.0 ∷ later.more;
      all_is = later.all_is ∙ append_assoc names (b.0.0 ∷ []) later.more;
      count = ap suc later.count;
      takes = Takes-then bytes (name_bytes b.0.0) b.0.1 (flat_map name_bytes later.more) rest t later.takes;
    }

more_again : (names more : List (List ℕ)) (rest : List ℕ) → names_after names (length more) (flat_map name_bytes more ++ rest) ≡ Some (names ++ more, rest)
unfolding names_after
more_again names [] rest = rw append-nil refl
more_again names (name ∷ more) rest =
    rw (append_assoc (name_bytes name) (flat_map name_bytes more) rest, name_again name (flat_map name_bytes more ++ rest))
    (more_again (names ++ name ∷ []) more rest ∙ ap (λ (xs : List (List ℕ)). Some (xs, rest)) (append_assoc names (name ∷ []) more))

names_takes : (bytes : List ℕ) (names : List (List ℕ)) (rest : List ℕ) → IsBytes bytes → names_at bytes ≡ Some (names, rest) → Takes bytes (names_bytes names) rest
unfolding names_at
names_takes bytes names rest fits e =
    let b = bind_some (word_at bytes) (λ n. names_after [] n.0 n.1) (names, rest) e in
    let t = word_takes bytes b.0.0 b.0.1 fits b.1 in
    let m = more_takes [] b.0.0 b.0.1 names rest t.0.rest_fits b.2 in
    let all_is : names ≡ m.more = m.all_is in
    let counted : word_bytes b.0.0 ≡ word_bytes (length names) = ap word_bytes (sym m.count ∙ ap length (sym all_is)) in
    let both = Takes-then bytes (word_bytes b.0.0) b.0.1 (flat_map name_bytes m.more) rest t.0 m.takes in
    let named : Takes bytes (word_bytes b.0.0 ++ flat_map name_bytes names) rest = subst (λ (xs : List (List ℕ)). Takes bytes (word_bytes b.0.0 ++ flat_map name_bytes xs) rest) (sym all_is) both in
    subst (λ (xs : List ℕ). Takes bytes (xs ++ flat_map name_bytes names) rest) counted named

pub names_again : (names : List (List ℕ)) (rest : List ℕ) → length names < 0x1_0000_0000 → names_at (names_bytes names ++ rest) ≡ Some (names, rest)
unfolding names_at
names_again names rest lt =
    rw (append_assoc (word_bytes (length names)) (flat_map name_bytes names) rest, word_again (length names) (flat_map name_bytes names ++ rest) lt) (more_again [] names rest)

pub names_read : IsReader names_at names_bytes
names_read = record { takes = names_takes }

-- the names of a list are read from the front, so many of them already
pub record NamesSoFar (names : List (List ℕ)) (index count : ℕ) (rest bytes : List ℕ) : Type 0 where
  pub number : length names ≡ index
  pub later : names_after names (count - index) rest ≡ names_after [] count bytes

count_less : (count index : ℕ) → index < count → count - index ≡ suc (count - (index + 1))
count_less count index lt = omega arith

after_name : (names : List (List ℕ)) (index count : ℕ) (rest bytes name after : List ℕ) → NamesSoFar names index count rest bytes → index < count → name_at rest ≡ Some (name, after) → names_after (names ++ name ∷ []) (count - (index + 1)) after ≡ names_after [] count bytes
unfolding names_after
after_name names index count rest bytes name after h lt e =
    let now : names_after names (suc (count - (index + 1))) rest ≡ names_after (names ++ name ∷ []) (count - (index + 1)) after = rw e refl in
    sym now ∙ ap (λ n. names_after names n rest) (sym (count_less count index lt)) ∙ h.later

pub one_more : (names : List (List ℕ)) (index count : ℕ) (rest bytes name after : List ℕ) → NamesSoFar names index count rest bytes → index < count → name_at rest ≡ Some (name, after) → NamesSoFar (names ++ name ∷ []) (index + 1) count after bytes
one_more names index count rest bytes name after h lt e = record {
  number = omega (arith, length-append names (name ∷ []), h.number);
  later = after_name names index count rest bytes name after h lt e;
}

pub no_name : (names : List (List ℕ)) (index count : ℕ) (rest bytes : List ℕ) → NamesSoFar names index count rest bytes → index < count → name_at rest ≡ None → names_after [] count bytes ≡ None
unfolding names_after
no_name names index count rest bytes h lt e =
    let now : names_after names (suc (count - (index + 1))) rest ≡ None = rw e refl in
    sym h.later ∙ ap (λ n. names_after names n rest) (count_less count index lt) ∙ now

pub all_names : (names : List (List ℕ)) (index count : ℕ) (rest bytes : List ℕ) → NamesSoFar names index count rest bytes → count ≤ index → names_after [] count bytes ≡ Some (names, rest)
unfolding names_after
all_names names index count rest bytes h le =
    let none : count - index ≡ 0 = omega arith in
    sym h.later ∙ ap (λ n. names_after names n rest) none
