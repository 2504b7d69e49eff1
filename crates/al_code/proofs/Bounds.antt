-- Pieces whose jumps lead to the beginning of one of their instructions, or to their end.
use Rattle.std.proofs.Common.{◌≡◌, ℕ, ◌+◌, ◌⊎◌, ℤ, pos, neg_ℤ, ◌+ℤ◌, List, [], ◌∷◌, ◌++◌, length, Option, Some, None, IfSome, refl, sym, ap, subst, ◌∙◌, arith, inl, inr, length-append}
use Rattle.std.proofs.lemmas.Int.{ints}
use Rattle.al_view.specs.declared.link.LinkSymbol.{LinkSymbol}
use Rattle.al_instr.specs.declared.instruction.Instr.{Instr}
use Rattle.al_instr.specs.declared.instruction.Instr.TheVariants as instr
use Rattle.al_instr.specs.Codes.{code_bytes, size_of, encoded}
use Rattle.al_code.specs.declared.piece.Construct.{Construct}
use Rattle.al_code.specs.declared.piece.Target.{Target}
use Rattle.al_code.specs.declared.piece.JumpCondition.{JumpCondition}
use Rattle.al_code.specs.declared.piece.JumpCondition.TheVariants as when
use Rattle.al_code_object.specs.declared.object.Address.{Address}
use Rattle.al_code.specs.Pieces.{Piece, Whole, Using, Leaving, Begins, Line, back, bytes_of, closed, defines_from, definition_at, jump_of, over_or, repeated, size}
use Rattle.al_code.specs.Targets.{outside}
use Rattle.al_code.proofs.Jumps.{jump_size}
use Rattle.al_code.proofs.Closing.{noted_closed}
use Rattle.al_code.proofs.Writing.{noted_append, size_cons}
use Rattle.al_code.specs.Division.{BeginsAt, JumpsLead, jump_in}

-- the instructions of pieces
abbrev pub instrs : List Piece → List Instr
instrs [] = []
instrs (Whole i ∷ ps) = i ∷ instrs ps
instrs (Using i symbol ∷ ps) = i ∷ instrs ps
instrs (Leaving w t ∷ ps) = jump_of w (pos 0) ∷ instrs ps
instrs (Begins symbol ∷ ps) = instrs ps
instrs (Line n ∷ ps) = instrs ps

pub instrs_append : (p q : List Piece) → instrs (p ++ q) ≡ instrs p ++ instrs q
instrs_append [] q = refl
instrs_append (Whole i ∷ p) q = ap (λ (is : List Instr). i ∷ is) (instrs_append p q)
instrs_append (Using i symbol ∷ p) q = ap (λ (is : List Instr). i ∷ is) (instrs_append p q)
instrs_append (Leaving w t ∷ p) q = ap (λ (is : List Instr). jump_of w (pos 0) ∷ is) (instrs_append p q)
instrs_append (Begins symbol ∷ p) q = instrs_append p q
instrs_append (Line n ∷ p) q = instrs_append p q

pub instrs_bytes : (ps : List Piece) → bytes_of ps ≡ code_bytes (instrs ps)
instrs_bytes [] = refl
instrs_bytes (Whole i ∷ ps) = ap (λ (xs : List ℕ). encoded i ++ xs) (instrs_bytes ps)
instrs_bytes (Using i symbol ∷ ps) = ap (λ (xs : List ℕ). encoded i ++ xs) (instrs_bytes ps)
instrs_bytes (Leaving w t ∷ ps) = ap (λ (xs : List ℕ). encoded (jump_of w (pos 0)) ++ xs) (instrs_bytes ps)
instrs_bytes (Begins symbol ∷ ps) = instrs_bytes ps
instrs_bytes (Line n ∷ ps) = instrs_bytes ps

-- ---- places

-- an instruction begins there, or it is the end
abbrev BoundAt : ℕ → List Instr → ℤ → Type 0
BoundAt from [] place = place ≡ pos from
BoundAt from (i ∷ is) place = (place ≡ pos from) ⊎ BoundAt (from + size_of i) is place

abbrev bytes_in : List Instr → ℕ
bytes_in is = length (code_bytes is)

bytes_cons : (i : Instr) (is : List Instr) → bytes_in (i ∷ is) ≡ size_of i + bytes_in is
bytes_cons i is = length-append (encoded i) (code_bytes is)

bound_left : (from : ℕ) (is js : List Instr) (place : ℤ) → BoundAt from is place → BoundAt from (is ++ js) place
bound_left from [] [] place h = h
bound_left from [] (j ∷ js) place h = inl h
bound_left from (i ∷ is) js place h = elim h [ inl e ↦ inl e | inr r ↦ inr (bound_left (from + size_of i) is js place r) ]

bound_right : (from : ℕ) (is js : List Instr) (place : ℤ) → BoundAt (from + bytes_in is) js place → BoundAt from (is ++ js) place
bound_right from [] js place h = subst (λ (n : ℕ). BoundAt n js place) (omega arith) h
bound_right from (i ∷ is) js place h =
    let e : from + bytes_in (i ∷ is) ≡ (from + size_of i) + bytes_in is = omega (arith, bytes_cons i is) in
    inr (bound_right (from + size_of i) is js place (subst (λ (n : ℕ). BoundAt n js place) e h))

bound_front : (from : ℕ) (is : List Instr) → BoundAt from is (pos from)
bound_front from [] = refl
bound_front from (i ∷ is) = inl refl

bound_end : (from : ℕ) (is : List Instr) → BoundAt from is (pos (from + bytes_in is))
bound_end from [] = ap (λ (n : ℕ). pos n) (omega arith)
bound_end from (i ∷ is) =
    let e : (from + size_of i) + bytes_in is ≡ from + bytes_in (i ∷ is) = omega (arith, bytes_cons i is) in
    inr (subst (λ (n : ℕ). BoundAt (from + size_of i) is (pos n)) e (bound_end (from + size_of i) is))

-- if more instructions follow, one begins there
bound_begins : (from : ℕ) (is js : List Instr) (place : ℤ) → BeginsAt (from + bytes_in is) js (pos (from + bytes_in is)) → BoundAt from is place → BeginsAt from (is ++ js) place
bound_begins from [] js place front h =
    let e : from + 0 ≡ from = omega arith in
    subst (λ (z : ℤ). BeginsAt from js z) (sym h) (subst (λ (n : ℕ). BeginsAt n js (pos n)) e front)
bound_begins from (i ∷ is) js place front h =
    let e : from + bytes_in (i ∷ is) ≡ (from + size_of i) + bytes_in is = omega (arith, bytes_cons i is) in
    elim h [
      | inl at ↦ inl at
      | inr r ↦ inr (bound_begins (from + size_of i) is js place (subst (λ (n : ℕ). BeginsAt n js (pos n)) e front) r)
    ]

begins_right : (from : ℕ) (is js : List Instr) (place : ℤ) → BeginsAt (from + bytes_in is) js place → BeginsAt from (is ++ js) place
begins_right from [] js place h = subst (λ (n : ℕ). BeginsAt n js place) (omega arith) h
begins_right from (i ∷ is) js place h =
    let e : from + bytes_in (i ∷ is) ≡ (from + size_of i) + bytes_in is = omega (arith, bytes_cons i is) in
    inr (begins_right (from + size_of i) is js place (subst (λ (n : ℕ). BeginsAt n js place) e h))

-- ---- jumps

leads_weaker : (P Q : ℤ → Type 0) (more : (z : ℤ) → P z → Q z) (from : ℕ) (is : List Instr) → JumpsLead P from is → JumpsLead Q from is
leads_weaker P Q more from [] h = tt
leads_weaker P Q more from (i ∷ is) h = (at (jump_in i) h.0, leads_weaker P Q more (from + size_of i) is h.1) where
  at : (d : Option ℤ) → IfSome d (λ d. P (pos (from + size_of i) +ℤ d)) → IfSome d (λ d. Q (pos (from + size_of i) +ℤ d))
  at None x = x
  at (Some d) x = more (pos (from + size_of i) +ℤ d) x

leads_append : (P : ℤ → Type 0) (from : ℕ) (is js : List Instr) → JumpsLead P from is → JumpsLead P (from + bytes_in is) js → JumpsLead P from (is ++ js)
leads_append P from [] js h k = subst (λ (n : ℕ). JumpsLead P n js) (omega arith) k
leads_append P from (i ∷ is) js h k =
    let e : from + bytes_in (i ∷ is) ≡ (from + size_of i) + bytes_in is = omega (arith, bytes_cons i is) in
    (h.0, leads_append P (from + size_of i) is js h.1 (subst (λ (n : ℕ). JumpsLead P n js) e k))

-- ---- pieces

-- each jump leads to the beginning of one of their instructions, or to their end, and no symbol is defined among them
pub record Bounded (ps : List Piece) : Type 0 where
  pub lead : (from : ℕ) → JumpsLead (BoundAt from (instrs ps)) from (instrs ps)
  pub quiet : (from : ℕ) → defines_from from ps ≡ []

-- each jump leads to an instruction of them, and there is one; no symbol is defined among them
pub record Inner (ps : List Piece) : Type 0 where
  pub lead : (from : ℕ) → JumpsLead (BeginsAt from (instrs ps)) from (instrs ps)
  pub front : (from : ℕ) → BeginsAt from (instrs ps) (pos from)
  pub quiet : (from : ℕ) → defines_from from ps ≡ []

both_quiet : (p q : List Piece) → ((from : ℕ) → defines_from from p ≡ []) → ((from : ℕ) → defines_from from q ≡ []) → (from : ℕ) → defines_from from (p ++ q) ≡ []
both_quiet p q hp hq from =
    noted_append definition_at from p q ∙ ap (λ (ds : List Address). ds ++ defines_from (from + size p) q) (hp from) ∙ hq (from + size p)

pub nothing : Bounded []
nothing = record { lead = λ from. tt; quiet = λ from. refl }

-- the place at which the code of a line begins
pub line_here : {n : ℕ} → Bounded (Line n ∷ [])
line_here = record { lead = λ from. tt; quiet = λ from. refl }

-- one instruction that is no jump
pub whole : {i : Instr} → jump_in i ≡ None → Bounded (Whole i ∷ [])
whole {i = i} plain = record { lead = λ from. (subst (λ (d : Option ℤ). IfSome d (λ d. BoundAt from (i ∷ []) (pos (from + size_of i) +ℤ d))) (sym plain) tt, tt); quiet = λ from. refl }

pub using_one : {i : Instr} {symbol : LinkSymbol} → jump_in i ≡ None → Bounded (Using i symbol ∷ [])
using_one {i = i} plain = record { lead = λ from. (subst (λ (d : Option ℤ). IfSome d (λ d. BoundAt from (i ∷ []) (pos (from + size_of i) +ℤ d))) (sym plain) tt, tt); quiet = λ from. refl }

pub last : {i : Instr} → jump_in i ≡ None → Inner (Whole i ∷ [])
last {i = i} plain = record {
  lead = λ from. (subst (λ (d : Option ℤ). IfSome d (λ d. BeginsAt from (i ∷ []) (pos (from + size_of i) +ℤ d))) (sym plain) tt, tt);
  front = λ from. inl refl;
  quiet = λ from. refl;
}

jump_leads : (P : ℤ → Type 0) (end : ℕ) (w : JumpCondition) (d : ℤ) → P (pos end +ℤ d) → IfSome (jump_in (jump_of w d)) (λ d. P (pos end +ℤ d))
jump_leads P end when.Always d h = h
jump_leads P end when.IfZero d h = h

-- a jump that waits leads to its own end
pub waiting : {w : JumpCondition} {t : Target} → Bounded (Leaving w t ∷ [])
waiting {w = w} = record { lead = λ from. (jump_leads (BoundAt from (jump_of w (pos 0) ∷ [])) (from + size_of (jump_of w (pos 0))) w (pos 0) (inr (omega (arith, ints))), tt); quiet = λ from. refl }

pub then : {p q : List Piece} → Bounded p → Bounded q → Bounded (p ++ q)
then {p = p} {q = q} hp hq = record {
  lead = λ from.
      subst (λ (is : List Instr). JumpsLead (BoundAt from is) from is) (sym (instrs_append p q))
      (leads_append (BoundAt from (instrs p ++ instrs q)) from (instrs p) (instrs q)
      (leads_weaker (BoundAt from (instrs p)) (BoundAt from (instrs p ++ instrs q)) (λ z h. bound_left from (instrs p) (instrs q) z h) from (instrs p) (hp.lead from))
      (leads_weaker (BoundAt (from + bytes_in (instrs p)) (instrs q)) (BoundAt from (instrs p ++ instrs q)) (λ z h. bound_right from (instrs p) (instrs q) z h) (from + bytes_in (instrs p)) (instrs q) (hq.lead (from + bytes_in (instrs p)))));
  quiet = both_quiet p q hp.quiet hq.quiet;
}

pub ending : {p q : List Piece} → Bounded p → Inner q → Inner (p ++ q)
ending {p = p} {q = q} hp hq = record {
  lead = λ from.
      subst (λ (is : List Instr). JumpsLead (BeginsAt from is) from is) (sym (instrs_append p q))
      (leads_append (BeginsAt from (instrs p ++ instrs q)) from (instrs p) (instrs q)
      (leads_weaker (BoundAt from (instrs p)) (BeginsAt from (instrs p ++ instrs q)) (λ z h. bound_begins from (instrs p) (instrs q) z (hq.front (from + bytes_in (instrs p))) h) from (instrs p) (hp.lead from))
      (leads_weaker (BeginsAt (from + bytes_in (instrs p)) (instrs q)) (BeginsAt from (instrs p ++ instrs q)) (λ z h. begins_right from (instrs p) (instrs q) z h) (from + bytes_in (instrs p)) (instrs q) (hq.lead (from + bytes_in (instrs p)))));
  front = λ from.
      subst (λ (is : List Instr). BeginsAt from is (pos from)) (sym (instrs_append p q))
      (bound_begins from (instrs p) (instrs q) (pos from) (hq.front (from + bytes_in (instrs p))) (bound_front from (instrs p)));
  quiet = both_quiet p q hp.quiet hq.quiet;
}

-- ---- constructs

jump_ends : (from : ℕ) (w : JumpCondition) (d : ℤ) → from + size_of (jump_of w d) ≡ from + 5
jump_ends from w d = omega (arith, jump_size w d)

-- one jump of a construct that ends, if the rest has so many bytes
jump_closed : (P : ℤ → Type 0) (from n : ℕ) (w : JumpCondition) (t : Target) (b : Option Target) (ps : List Piece) → P (pos ((from + 5) + n))
    → IfSome (jump_in (jump_of w (pos 0))) (λ d. P (pos (from + size_of (jump_of w (pos 0))) +ℤ d)) → JumpsLead P (from + 5) (instrs ps) → JumpsLead P from (instrs (over_or w b n ∷ ps))
jump_closed P from n w t None ps end head rest =
    let f : pos ((from + 5) + n) ≡ pos (from + size_of (jump_of w (pos n))) +ℤ pos n = omega (arith, ints, jump_ends from w (pos n)) in
    (jump_leads P (from + size_of (jump_of w (pos n))) w (pos n) (subst P f end), subst (λ (k : ℕ). JumpsLead P k (instrs ps)) (sym (jump_ends from w (pos n))) rest)
jump_closed P from n w t (Some u) ps end head rest = (head, subst (λ (k : ℕ). JumpsLead P k (instrs ps)) (sym (jump_ends from w (pos 0))) rest)

-- the end of a construct: its jumps lead to the end or as before
closed_leads : (P : ℤ → Type 0) (c : Construct) (from : ℕ) (ps : List Piece) → P (pos (from + size ps)) → JumpsLead P from (instrs ps) → JumpsLead P from (instrs (closed c ps))
closed_leads P c from [] end h = tt
closed_leads P c from (Whole i ∷ ps) end h =
    let e : from + size (Whole i ∷ ps) ≡ (from + size_of i) + size ps = omega (arith, size_cons (Whole i) ps) in
    (h.0, closed_leads P c (from + size_of i) ps (subst (λ (n : ℕ). P (pos n)) e end) h.1)
closed_leads P c from (Using i symbol ∷ ps) end h =
    let e : from + size (Using i symbol ∷ ps) ≡ (from + size_of i) + size ps = omega (arith, size_cons (Using i symbol) ps) in
    (h.0, closed_leads P c (from + size_of i) ps (subst (λ (n : ℕ). P (pos n)) e end) h.1)
closed_leads P c from (Begins symbol ∷ ps) end h = closed_leads P c from ps end h
closed_leads P c from (Line n ∷ ps) end h = closed_leads P c from ps end h
closed_leads P c from (Leaving w t ∷ ps) end h =
    let e : from + size (Leaving w t ∷ ps) ≡ (from + 5) + size ps = omega (arith, size_cons (Leaving w t) ps, jump_size w (pos 0)) in
    let last : P (pos ((from + 5) + size ps)) = subst (λ (n : ℕ). P (pos n)) e end in
    let rest : JumpsLead P (from + 5) (instrs ps) = subst (λ (k : ℕ). JumpsLead P k (instrs ps)) (jump_ends from w (pos 0)) h.1 in
    jump_closed P from (size ps) w t (outside c t) (closed c ps) last h.0 (closed_leads P c (from + 5) ps last rest)

bound_closed : (from n : ℕ) (w : JumpCondition) (b : Option Target) (ps : List Piece) (place : ℤ) → (place ≡ pos from) ⊎ BoundAt (from + 5) (instrs ps) place → BoundAt from (instrs (over_or w b n ∷ ps)) place
bound_closed from n w None ps place h = elim h [ inl e ↦ inl e | inr r ↦ inr (subst (λ (k : ℕ). BoundAt k (instrs ps) place) (sym (jump_ends from w (pos n))) r) ]
bound_closed from n w (Some u) ps place h = elim h [ inl e ↦ inl e | inr r ↦ inr (subst (λ (k : ℕ). BoundAt k (instrs ps) place) (sym (jump_ends from w (pos 0))) r) ]

closed_bounds : (c : Construct) (from : ℕ) (ps : List Piece) (place : ℤ) → BoundAt from (instrs ps) place → BoundAt from (instrs (closed c ps)) place
closed_bounds c from [] place h = h
closed_bounds c from (Whole i ∷ ps) place h = elim h [ inl e ↦ inl e | inr r ↦ inr (closed_bounds c (from + size_of i) ps place r) ]
closed_bounds c from (Using i symbol ∷ ps) place h = elim h [ inl e ↦ inl e | inr r ↦ inr (closed_bounds c (from + size_of i) ps place r) ]
closed_bounds c from (Begins symbol ∷ ps) place h = closed_bounds c from ps place h
closed_bounds c from (Line n ∷ ps) place h = closed_bounds c from ps place h
closed_bounds c from (Leaving w t ∷ ps) place h =
    bound_closed from (size ps) w (outside c t) (closed c ps) place
    (elim h [ inl e ↦ inl e | inr r ↦ inr (closed_bounds c (from + 5) ps place (subst (λ (k : ℕ). BoundAt k (instrs ps) place) (jump_ends from w (pos 0)) r)) ])

pub end_of : (c : Construct) {ps : List Piece} → Bounded ps → Bounded (closed c ps)
end_of c {ps = ps} h = record {
  lead = λ from.
      let e : bytes_in (instrs ps) ≡ size ps = ap length (sym (instrs_bytes ps)) in
      closed_leads (BoundAt from (instrs (closed c ps))) c from ps
      (closed_bounds c from ps (pos (from + size ps)) (subst (λ (n : ℕ). BoundAt from (instrs ps) (pos (from + n))) e (bound_end from (instrs ps))))
      (leads_weaker (BoundAt from (instrs ps)) (BoundAt from (instrs (closed c ps))) (λ z r. closed_bounds c from ps z r) from (instrs ps) (h.lead from));
  quiet = λ from. noted_closed definition_at (λ n w z. refl) (λ n w t. refl) c from ps ∙ h.quiet from;
}

-- a repetition: the last jump leads to the beginning
pub around : {ps : List Piece} → Bounded ps → Bounded (repeated ps)
unfolding repeated
around {ps = ps} h = record {
  lead = λ from.
      let all : List Instr = instrs ps ++ instr.Jump (neg_ℤ (pos (size ps + 5))) ∷ [] in
      let e : bytes_in (instrs ps) ≡ size ps = ap length (sym (instrs_bytes ps)) in
      let j : size_of (instr.Jump (neg_ℤ (pos (size ps + 5)))) ≡ 5 = jump_size when.Always (neg_ℤ (pos (size ps + 5))) in
      let f : pos from ≡ pos ((from + bytes_in (instrs ps)) + size_of (instr.Jump (neg_ℤ (pos (size ps + 5))))) +ℤ neg_ℤ (pos (size ps + 5)) = omega (arith, ints, e, j) in
      subst (λ (is : List Instr). JumpsLead (BoundAt from is) from is) (sym (instrs_append ps (back (size ps) ∷ [])))
      (leads_append (BoundAt from all) from (instrs ps) (instr.Jump (neg_ℤ (pos (size ps + 5))) ∷ [])
      (leads_weaker (BoundAt from (instrs ps)) (BoundAt from all) (λ z r. bound_left from (instrs ps) (instr.Jump (neg_ℤ (pos (size ps + 5))) ∷ []) z r) from (instrs ps) (h.lead from))
      (subst (BoundAt from all) f (bound_front from all), tt));
  quiet = both_quiet ps (back (size ps) ∷ []) h.quiet (λ from. refl);
}
