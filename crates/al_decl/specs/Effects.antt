-- The words of temporaries in what declarations do, after those of the objects.
use Rattle.std.specs.Prelude.{ℕ, List, [], ◌∷◌, Option, Some, None, option_map}
use Rattle.al_decl_judged.specs.declared.progress.Progress.{Progress}
use Rattle.al_overload_slots.specs.Slots.{value_after, value_numbered}
use Rattle.al_view_typed.specs.DeclarationTrees.{ComponentValueTree, DeclarationFormTree, DeclarationTree}
use Rattle.al_view_typed.specs.DeclarationTrees.DeclarationFormTree.{Objects, Subprogram, Elaborated, SingleTask, SingleProtected}
use Rattle.al_view_typed.specs.ExpressionTrees.{ValueTree}
use Rattle.al_view.specs.declared.view.ObjectPlace.{ObjectPlace}

-- values of components, one declaration after the other
abbrev pub component_numbered : ℕ → ComponentValueTree → ComponentValueTree
component_numbered word c = record c { value = value_numbered word c.value }

abbrev pub components_numbered : ℕ → List ComponentValueTree → List ComponentValueTree
components_numbered word [] = []
components_numbered word (c ∷ cs) = component_numbered word c ∷ components_numbered (value_after word c.value) cs

abbrev pub components_after : ℕ → List ComponentValueTree → ℕ
components_after word [] = word
components_after word (c ∷ cs) = components_after (value_after word c.value) cs

-- the values of objects and of components take words from this one on; no other declaration takes any here
abbrev pub form_numbered : ℕ → DeclarationFormTree → DeclarationFormTree
form_numbered word (Objects places words value) = Objects places words (option_map (value_numbered word) value)
form_numbered word (Subprogram flag) = Subprogram flag
form_numbered word (Elaborated flag) = Elaborated flag
form_numbered word (SingleTask symbol priority) = SingleTask symbol priority
form_numbered word (SingleProtected symbol values) = SingleProtected symbol (components_numbered word values)

abbrev pub optional_after : ℕ → Option ValueTree → ℕ
optional_after word None = word
optional_after word (Some value) = value_after word value

-- the next word after them
abbrev pub form_after : ℕ → DeclarationFormTree → ℕ
form_after word (Objects places words value) = optional_after word value
form_after word (Subprogram flag) = word
form_after word (Elaborated flag) = word
form_after word (SingleTask symbol priority) = word
form_after word (SingleProtected symbol values) = components_after word values

abbrev pub effect_numbered : ℕ → Option DeclarationTree → Option DeclarationTree
effect_numbered word effect = option_map (λ (d : DeclarationTree). record { line = d.line; form = form_numbered word d.form }) effect

abbrev pub effect_after : ℕ → Option DeclarationTree → ℕ
effect_after word None = word
effect_after word (Some d) = form_after word d.form

-- the words of the frame that are left after an effect
abbrev pub after_effect : Progress → Option DeclarationTree → Progress
after_effect p effect = record p { words = record p.words { frame = effect_after p.words.frame effect } }
