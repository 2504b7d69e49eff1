-- What the walk left is what its record shows.
use Rattle.std.proofs.Common.{◌≡◌, ◌∙◌, Bool, true, false, List, [], ◌∷◌, Option, Some, None, length, refl, ap, if◌then◌else◌}
use Rattle.std.specs.Option.{option_map}
use Rattle.al_base.specs.declared.diagnostic.Diagnostic.{Diagnostic}
use Rattle.al_base.specs.declared.unit_key.UnitKey.{UnitKey}
use Rattle.al_base.specs.declared.unit_key.UnitKind.TheVariants.{Sub}
use Rattle.al_view.specs.Symbols.{same_kind}
use Rattle.al_view.specs.declared.view.ViewKind.{ViewKind}
use Rattle.al_view_typed.specs.UnitTrees.{ElaborationTree, elaboration_model, unit_model}
use Rattle.al_view_typed.specs.declared.unit.Elaboration.{Elaboration}
use Rattle.al_view_typed.specs.declared.unit.TypedUnit.{TypedUnit}
use Rattle.al_stmts.specs.WalkedViews.{inside_model}
use Rattle.al_stmts.specs.declared.inside.WalkedInside.{WalkedInside}
use Rattle.al_query_outcome.specs.Tables.{interface_of}
use Rattle.al_check_promises.specs.SelfChecks.{not_checked}
use Rattle.al_check_bounded.specs.Verdicts.{Verdict, sound_of}
use Rattle.al_check_bounded.specs.Verdicts.Verdict.{Wrong, Right}
use Rattle.al_check_bounded.specs.Ended.{viewed, walked_unit}
use Rattle.al_check_bounded.specs.Made.{finding_of, made, or_not_yet, unless_wrong}
use Rattle.al_check_bounded.specs.declared.after.EndedText.{EndedText}
use Rattle.al_check_bounded.specs.declared.after.UnitFacts.{UnitFacts}
use Rattle.al_check_bounded.specs.declared.made.WalkedUnit.{WalkedUnit}

elaborated : (b : Bool) (e : Elaboration) → option_map elaboration_model (if b then None else Some e) ≡ (if b then None else Some (elaboration_model e))
elaborated true e = refl
elaborated false e = refl

abbrev inside_of : WalkedUnit → Elaboration
inside_of w = record { line = w.line; frame = w.frame; declarations = w.declarations; statements = w.statements }

unit_of : WalkedUnit → Option Elaboration → TypedUnit
unit_of w e = record { unit = w.unit; elaboration = e; bodies = w.bodies; words = w.words; objects = w.objects; flags = w.flags; protected_objects = w.protected_objects }

-- a unit without errors
pub sound_is : (w : WalkedUnit) (e : Option Elaboration) → e ≡ (if same_kind w.unit.kind Sub then None else Some (inside_of w)) → sound_of (record { properties = w.properties; parts = w.parts; tree = record { unit = w.unit; elaboration = e; bodies = w.bodies; words = w.words; objects = w.objects; flags = w.flags; protected_objects = w.protected_objects } }) ≡ made w
unfolding unit_of unit_model elaboration_model
sound_is w e is =
    ap (λ (x : Option Elaboration). Right (interface_of w.properties w.parts) (unit_model (unit_of w x))) is
    ∙ ap (λ (x : Option ElaborationTree). Right (interface_of w.properties w.parts) (record (unit_model (unit_of w None)) { elaboration = x })) (elaborated (same_kind w.unit.kind Sub) (inside_of w))

-- what is found with a view
pub with_kind : (r : UnitFacts) (kind : ViewKind) (e : EndedText) (inside : WalkedInside) → finding_of inside.faults (walked_unit r kind e inside.declarations inside.statements inside.bodies) ≡ viewed r (Some kind) e (inside_model inside)
unfolding finding_of inside_model
with_kind r kind e inside = refl

-- errors are reported if there are some
pub some_wrong : (ds : List Diagnostic) (v : Verdict) → (length ds ≡ 0 → ⊥) → Wrong ds ≡ unless_wrong ds v
some_wrong [] v h = absurd (h refl)
some_wrong (d ∷ ds) v h = refl

pub none_wrong : (ds : List Diagnostic) (v : Verdict) → length ds ≡ 0 → v ≡ unless_wrong ds v
none_wrong [] v h = refl
none_wrong (d ∷ ds) v h = absurd (cc)

-- or E700
pub some_told : (unit : UnitKey) (ds : List Diagnostic) → (length ds ≡ 0 → ⊥) → ds ≡ or_not_yet unit ds
some_told unit [] h = absurd (h refl)
some_told unit (d ∷ ds) h = refl

pub none_told : (unit : UnitKey) (ds : List Diagnostic) → length ds ≡ 0 → not_checked unit ≡ or_not_yet unit ds
none_told unit [] h = refl
none_told unit (d ∷ ds) h = absurd (cc)
