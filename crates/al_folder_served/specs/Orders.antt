-- Orders of elaboration with their reasons, as they are printed.
use Rattle.std.specs.Prelude.{ℕ, ◌++◌, List, [], ◌∷◌, codes}
use Rattle.std.specs.List.{flat_map}
use Rattle.al_base.specs.Batch.{key_of}
use Rattle.al_base.specs.declared.unit_key.UnitKey.{UnitKey}
use Rattle.al_folder.specs.Parts.{part_lines}
use Rattle.al_folder_served.specs.Why.{why_of}
use Rattle.al_folder_served.specs.declared.reasons.Reasons.{Reasons}
use Rattle.al_folder_served.specs.declared.why.Why.{Why}
use Rattle.al_folder_served.specs.declared.why.Why.TheVariants.{Completed, Parent, With}

-- a name between these words
abbrev pub between : List ℕ → List ℕ → List ℕ → List ℕ
between front back name = front ++ name ++ back

-- the words before and after the name of what an item depends on
abbrev pub why_front : Why → List ℕ
why_front Completed = codes "  after the declaration of "
why_front Parent = codes "  after "
why_front With = codes "  after "

abbrev pub why_back : Why → List ℕ
why_back Completed = codes "\n"
why_back Parent = codes ", its parent\n"
why_back With = codes ", by a with clause\n"

-- an item comes after one that it depends on
abbrev pub depends_line : List ℕ → UnitKey → List ℕ
depends_line item before = let why = why_of item before.name in between (why_front why) (why_back why) before.name

-- it comes after the bodies, and after the units and all that these need, that its pragmas name
abbrev pub named_lines : Reasons → List ℕ
named_lines r = flat_map (between (codes "  after the body of ") (codes ", by a pragma Elaborate\n")) r.elaborate.items ++ flat_map (between (codes "  after all that ") (codes " needs, by a pragma Elaborate_All\n")) r.elaborate_all.items

-- a line for an item, and one for each reason why it comes after others
abbrev pub reasons_text : Reasons → List ℕ
reasons_text r = part_lines (key_of r.item ∷ []) ++ flat_map (depends_line r.item.name) r.depends.items ++ named_lines r

abbrev pub order_text : List Reasons → List ℕ
order_text order = flat_map reasons_text order
