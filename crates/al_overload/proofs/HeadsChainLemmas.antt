-- A chain with one more operator at its beginning.
use Rattle.std.proofs.Common.{◌≡◌, Bool, ◌&&◌, List, [], ◌∷◌, ◌++◌, Option, refl, ap, ◌∙◌}
use Rattle.al_overload.specs.Counts.{plain_all}
use Rattle.al_overload.specs.Labelling.{Tree, MoreTrees}
use Rattle.al_overload.specs.HeadsChains.{chained_head, chained_part, chained_universal, joint_head, joint_part, joint_universal}
use Rattle.al_overload.specs.declared.heads_chain.Joint.{Joint}
use Rattle.al_overload.specs.declared.everywhere.Predefined.{Predefined}
use Rattle.al_overload.specs.declared.part.Nominal.{Nominal}

pub first_joined_universal : (joints : List Joint) (joint : Joint) (universal : Bool)
    → chained_universal (joints ++ joint ∷ []) universal ≡ chained_universal joints (joint_universal joint.sign (universal && joint.right.are_universal))
first_joined_universal [] joint universal = refl
first_joined_universal (x ∷ joints) joint universal =
    ap (λ (b : Bool). joint_universal x.sign (b && x.right.are_universal)) (first_joined_universal joints joint universal)

pub first_joined_part : (joints : List Joint) (joint : Joint) (part : Option Nominal)
    → chained_part (joints ++ joint ∷ []) part ≡ chained_part joints (joint_part joint.sign part)
first_joined_part [] joint part = refl
first_joined_part (x ∷ joints) joint part = ap (joint_part x.sign) (first_joined_part joints joint part)

pub first_joined_head : (p : Predefined) (joints : List Joint) (joint : Joint) (head : Tree) (universal : Bool) (part : Option Nominal)
    → chained_head p (joints ++ joint ∷ []) head universal part
    ≡ chained_head p joints (joint_head p joint.sign part (MoreTrees head (plain_all joint.right.operands)) (universal && joint.right.are_universal)) (joint_universal joint.sign (universal && joint.right.are_universal)) (joint_part joint.sign part)
first_joined_head p [] joint head universal part = refl
first_joined_head p (x ∷ joints) joint head universal part =
    let first = joint_head p joint.sign part (MoreTrees head (plain_all joint.right.operands)) (universal && joint.right.are_universal) in
    let first_universal = joint_universal joint.sign (universal && joint.right.are_universal) in
    let first_part = joint_part joint.sign part in
    ap (λ (t : Tree). joint_head p x.sign (chained_part (joints ++ joint ∷ []) part) (MoreTrees t (plain_all x.right.operands)) (chained_universal (joints ++ joint ∷ []) universal && x.right.are_universal)) (first_joined_head p joints joint head universal part)
    ∙ ap (λ (b : Bool). joint_head p x.sign (chained_part (joints ++ joint ∷ []) part) (MoreTrees (chained_head p joints first first_universal first_part) (plain_all x.right.operands)) (b && x.right.are_universal)) (first_joined_universal joints joint universal)
    ∙ ap (λ (q : Option Nominal). joint_head p x.sign q (MoreTrees (chained_head p joints first first_universal first_part) (plain_all x.right.operands)) (chained_universal joints first_universal && x.right.are_universal)) (first_joined_part joints joint part)
