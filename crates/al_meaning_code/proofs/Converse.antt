-- An exception that a run raises is one that the call means: runs stop at one place.
use Rattle.std.proofs.Common.{◌≡◌, ℕ, zero, suc, ◌+◌, ◌≤◌, List, [], ◌∷◌, Option, Some, None, Result, Err, refl, sym, ◌∙◌, ap, arith, inl, inr}
use Rattle.std.specs.Prelude.{option_and_then}
use Rattle.al_base.specs.declared.unit_key.UnitKey.{UnitKey}
use Rattle.al_code.specs.LineLaws.{TreesTellCode}
use Rattle.al_code.specs.Pieces.{size}
use Rattle.al_code.specs.Templates.{call_code}
use Rattle.al_link_image.specs.declared.parts.Region.{Region}
use Rattle.al_machine.specs.declared.regions.Entered.{Entered}
use Rattle.al_machine.specs.declared.code.Step.{Step}
use Rattle.al_machine.specs.declared.instruction.Exception.{Exception}
use Rattle.al_machine.specs.declared.instruction.Exception.TheVariants as exception
use Rattle.al_machine.specs.declared.instruction.Flow.{Flow}
use Rattle.al_machine.specs.declared.instruction.Instruction.{Instruction}
use Rattle.al_machine.specs.declared.instruction.Trap.{Trap}
use Rattle.al_machine.specs.declared.instruction.Trap.TheVariants.{Raised}
use Rattle.al_machine.specs.declared.operation.Operation.{Operation}
use Rattle.al_machine.specs.declared.operation.Operation.TheVariants as operation
use Rattle.al_machine.specs.Bursts.{At, landed, advanced_by, advanced, carried}
use Rattle.al_machine.specs.Code.{fetch}
use Rattle.al_machine.specs.Machine.{Machine}
use Rattle.al_machine.specs.Table.{exec}
use Rattle.al_meaning.specs.Scalars.{Failure, ConstraintError, ProgramError, Meaningless}
use Rattle.al_meaning.specs.States.{Outcome, Gives, Raises, GoesOn, Words}
use Rattle.al_meaning.specs.Expressions.{called}
use Rattle.al_meaning.specs.Partitions.{calls_of}
use Rattle.al_meaning_code.specs.Running.{at, TrapsAt, Exhausts}
use Rattle.al_meaning_code.specs.Effects.{table_line, line_or, CallRuns}
use Rattle.al_meaning_code.specs.Laws.{Among, IsMeant, call_of, stack_for, ExceptionsAreMeant}
use Rattle.al_meaning_code.proofs.Families.{calls_are_done}

-- parts of what is fetched, and of what an instruction does
next_of : Option (Operation × ℕ) → ℕ
next_of None = 0
next_of (Some x) = x.1

word_of : Option (Operation × ℕ) → Instruction → Instruction
word_of (Some (operation.Word i, next)) d = i
word_of _ d = d

exception_of : Result (Flow × Machine) Trap → Exception → Exception
exception_of (Err (Raised e)) d = e
exception_of _ d = d

module _ (objects : List Region) (inside : List Entered) (code : List Step) where
  -- a run that stops does so once
  stops_once : (j k : ℕ) (a b c : At) → carried objects inside code j a ≡ Some b → advanced objects inside code b ≡ None → carried objects inside code k a ≡ Some c → advanced objects inside code c ≡ None → b ≡ c
  stops_once zero zero a b c e s f t = cc
  stops_once zero (suc k) a b c e s f t =
      let same : a ≡ b = cc in
      let none : advanced objects inside code a ≡ None = ap (λ (x : At). advanced objects inside code x) same ∙ s in
      absurd (let no_ : ◌≡◌ {A = Option At} None (Some c) = sym (ap (λ (o : Option At). option_and_then (λ (x : At). carried objects inside code k x) o) none) ∙ f in cc)
  stops_once (suc j) zero a b c e s f t =
      let same : a ≡ c = cc in
      let none : advanced objects inside code a ≡ None = ap (λ (x : At). advanced objects inside code x) same ∙ t in
      absurd (let no_ : ◌≡◌ {A = Option At} None (Some b) = sym (ap (λ (o : Option At). option_and_then (λ (x : At). carried objects inside code j x) o) none) ∙ e in cc)
  stops_once (suc j) (suc k) a b c e s f t = go (advanced objects inside code a) (λ x g h. stops_once j k x b c g s h t) e f
    where
      go : (o : Option At) → ((x : At) → carried objects inside code j x ≡ Some b → carried objects inside code k x ≡ Some c → b ≡ c) → option_and_then (λ (x : At). carried objects inside code j x) o ≡ Some b → option_and_then (λ (x : At). carried objects inside code k x) o ≡ Some c → b ≡ c
      go None more g h = absurd (cc)
      go (Some x) more g h = more x g h

  -- .. and doesn't go on beyond
  stops_there : (j k : ℕ) (a b c : At) → carried objects inside code j a ≡ Some b → advanced objects inside code b ≡ None → carried objects inside code k a ≡ Some c → k ≤ j
  stops_there j zero a b c e s f = omega arith
  stops_there zero (suc k) a b c e s f =
      let same : a ≡ b = cc in
      let none : advanced objects inside code a ≡ None = ap (λ (x : At). advanced objects inside code x) same ∙ s in
      absurd (let no_ : ◌≡◌ {A = Option At} None (Some c) = sym (ap (λ (o : Option At). option_and_then (λ (x : At). carried objects inside code k x) o) none) ∙ f in cc)
  stops_there (suc j) (suc k) a b c e s f = go (advanced objects inside code a) (λ x g h. stops_there j k x b c g s h) e f
    where
      go : (o : Option At) → ((x : At) → carried objects inside code j x ≡ Some b → carried objects inside code k x ≡ Some c → k ≤ j) → option_and_then (λ (x : At). carried objects inside code j x) o ≡ Some b → option_and_then (λ (x : At). carried objects inside code k x) o ≡ Some c → suc k ≤ suc j
      go None more g h = absurd (cc)
      go (Some x) more g h = let l = more x g h in omega arith

  -- at an instruction that raises an exception
  raising : (a : At) (next : ℕ) (i : Instruction) (e : Exception) → fetch code a.place ≡ Some (operation.Word i, next) → exec objects inside next i a.machine ≡ Err (Raised e) → advanced objects inside code a ≡ None
  raising a next i e there r = ap (λ (o : Option (Operation × ℕ)). advanced_by objects inside code o a.machine) there ∙ ap (λ (x : Result (Flow × Machine) Trap). landed code next x) r

  -- at one that isn't on words
  other : (a : At) → ((i : Instruction) (next : ℕ) → fetch code a.place ≡ Some (operation.Word i, next) → ⊥) → advanced objects inside code a ≡ None
  other a no_ = go (fetch code a.place) refl
    where
      go : (o : Option (Operation × ℕ)) → fetch code a.place ≡ o → advanced_by objects inside code o a.machine ≡ None
      go None e = refl
      go (Some (operation.Word i, next)) e = absurd (no_ i next e)
      go (Some (operation.Task i, next)) e = refl
      go (Some (operation.Output i, next)) e = refl

  -- one place raises one exception
  one_exception : (a b : At) (next next' : ℕ) (i i' : Instruction) (e e' : Exception) → a ≡ b → fetch code a.place ≡ Some (operation.Word i, next) → exec objects inside next i a.machine ≡ Err (Raised e) → fetch code b.place ≡ Some (operation.Word i', next') → exec objects inside next' i' b.machine ≡ Err (Raised e') → e ≡ e'
  unfolding next_of word_of exception_of
  one_exception a b next next' i i' e e' same there r there' r' =
      let fetched : fetch code a.place ≡ Some (operation.Word i', next') = ap (λ (x : At). fetch code x.place) same ∙ there' in
      let pair : ◌≡◌ {A = Option (Operation × ℕ)} (Some (operation.Word i, next)) (Some (operation.Word i', next')) = sym there ∙ fetched in
      let i_is : i ≡ i' = ap (λ (o : Option (Operation × ℕ)). word_of o i) pair in
      let next_is : next ≡ next' = ap next_of pair in
      let ran : exec objects inside next' i' a.machine ≡ Err (Raised e) = ap (λ (k : ℕ). exec objects inside k i' a.machine) (sym next_is) ∙ ap (λ (k : Instruction). exec objects inside next k a.machine) (sym i_is) ∙ r in
      let ran' : exec objects inside next' i' a.machine ≡ Err (Raised e') = ap (λ (x : At). exec objects inside next' i' x.machine) same ∙ r' in
      ap (λ (x : Result (Flow × Machine) Trap). exception_of x e) (sym ran ∙ ran')

pub exceptions_are_meant : TreesTellCode → ExceptionsAreMeant
exceptions_are_meant tell c laid us words room members family n symbol member st ends pc m shows stands after line e t few not_short =
    go (called (calls_of us n) (call_of symbol) st) (calls_are_done tell c laid us words room members family n symbol member line st ends pc m shows stands)
  where
    to : ℕ
    to = pc + size (call_code c.depth (call_of symbol))

    stopped : advanced c.objects c.inside c.code t.last ≡ None
    stopped = raising c.objects c.inside c.code t.last t.next t.instruction e t.there t.raises

    lined : (l : UnitKey × ℕ) (b : At) → b ≡ t.last → c.lines b.place ≡ Some l → l ≡ line
    lined l b same told =
        let here : c.lines t.last.place ≡ Some l = ap (λ (x : At). c.lines x.place) (sym same) ∙ told in
        let both : Some l ≡ Some line = sym here ∙ t.told in
        cc

    raised : (f : Failure) (told : Option (UnitKey × ℕ)) (x : Exception) (u : TrapsAt c.objects c.inside c.code c.lines (at pc m) (table_line (line_or line told)) x) → (e ≡ x) × (table_line (line_or line told) ≡ line)
    raised f told x u =
        let same : u.last ≡ t.last = stops_once c.objects c.inside c.code u.leads.0 t.leads.0 (at pc m) u.last t.last u.leads.1 (raising c.objects c.inside c.code u.last u.next u.instruction x u.there u.raises) t.leads.1 stopped in
        (one_exception c.objects c.inside c.code t.last u.last t.next u.next t.instruction u.instruction e x (sym same) t.there t.raises u.there u.raises, lined (table_line (line_or line told)) u.last same u.told)

    lacking : Exhausts c.objects c.inside c.code (at pc m) m (stack_for words room n) → ⊥
    lacking x =
        let u = x.3 in
        let same : u.last ≡ t.last = stops_once c.objects c.inside c.code u.leads.0 t.leads.0 (at pc m) u.last t.last u.leads.1 (raising c.objects c.inside c.code u.last u.next u.instruction exception.Storage u.there u.raises) t.leads.1 stopped in
        not_short (one_exception c.objects c.inside c.code t.last u.last t.next u.next t.instruction u.instruction e exception.Storage (sym same) t.there t.raises u.there u.raises)

    go : (o : Outcome Words) → CallRuns c.objects c.inside c.code c.lines c.linked c.depth c.floor (stack_for words room n) (Among c) c.address line (at pc m) m to (suc n) o → IsMeant e line o
    go (Gives [] s) (inl x) =
        let same : at to x.0 ≡ t.last = stops_once c.objects c.inside c.code x.1.0 t.leads.0 (at pc m) (at to x.0) t.last x.1.1 (other c.objects c.inside c.code (at to x.0) after) t.leads.1 stopped in
        absurd (after t.instruction t.next (ap (λ (y : At). fetch c.code y.place) same ∙ t.there))
    go (Gives [] s) (inr x) = absurd (lacking x)
    go (Gives (v ∷ vs) s) x = absurd x
    go (Raises ConstraintError told s) (inl u) = raised ConstraintError told exception.Constraint u
    go (Raises ConstraintError told s) (inr x) = absurd (lacking x)
    go (Raises ProgramError told s) (inr x) = absurd (lacking x)
    go (GoesOn s) (inr x) = absurd (lacking x)
    go (Raises ProgramError told s) (inl u) = raised ProgramError told exception.Program u
    go (Raises Meaningless told s) x = tt
    go (GoesOn s) (inl x) = absurd (let l = stops_there c.objects c.inside c.code t.leads.0 x.0 (at pc m) t.last x.2 t.leads.1 stopped x.3 in let k = x.1 in omega (arith, few))
