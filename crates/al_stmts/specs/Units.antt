-- The walk over the item of a compilation unit, after its context clause (ARM 7.1, 7.2, 10.1.1, 10.1.3): what is elaborated with the unit, and
-- the bodies in it.
use Rattle.std.specs.Prelude.{List, [], ◌∷◌, Option, Some, None}
use Rattle.al_tree_grammar.specs.Grammar.{Label}
use Rattle.al_tree_syntax.specs.DeclarationTrees.{DeclarationTree as Basic}
use Rattle.al_tree_syntax.specs.DeclarationTrees.DeclarationTree.{CommonDeclaration, SubprogramDeclaration, TaskDeclaration, ProtectedDeclaration}
use Rattle.al_tree_syntax.specs.UnitTrees.{LibraryItemTree, PackageTree, PackageBodyTree, PackageStatementsTree, PrivatePartTree}
use Rattle.al_tree_syntax.specs.UnitTrees.LibraryItemTree.{LibrarySubprogram, LibraryPackage, LibraryBody, LibraryPackageBody, Subunit}
use Rattle.al_stmts.specs.declared.returns.EnclosingBody.TheVariants as bodies
use Rattle.al_stmts.specs.Readings.{Reading}
use Rattle.al_stmts.specs.Steps.{Enclosing, Inside, Part, closed_by, ended_by, in_body, inside_of, no_part, nothing}
use Rattle.al_stmts.specs.Walking.{body_walked, closed, declared_part, end_of_compound, inside_after, items_walked, part_after, statements_walked}

abbrev pub without_statements : {H : Type 0} → H × Part → H × Inside
without_statements p = (p.0, inside_of p.1 nothing)

-- the declarations of a package, which has none with bodies
abbrev pub declaration_walked : {H : Type 0} → Reading H → H → Basic → H × Part
declaration_walked R h (CommonDeclaration c) = declared_part (R.declared h c)
declaration_walked R h (SubprogramDeclaration s) = declared_part (R.subprogram h s)
declaration_walked R h (TaskDeclaration t) = declared_part (R.single_task h t)
declaration_walked R h (ProtectedDeclaration l p) = declared_part (R.single_object h l p)

abbrev pub declarations_walked : {H : Type 0} → Reading H → H → List Basic → H × Part
declarations_walked R h [] = (h, no_part)
declarations_walked R h (d ∷ ds) = let one = declaration_walked R h d in part_after one (declarations_walked R one.0 ds)

-- from a private part on the ancestors' private parts are seen (ARM 8.2(5))
abbrev pub private_walked : {H : Type 0} → Reading H → H → Option PrivatePartTree → H × Part
private_walked R h None = (h, no_part)
private_walked R h (Some p) = declarations_walked R (R.private_entered h) p.declarations

-- both parts of a package
abbrev pub parts_walked : {H : Type 0} → Reading H → H → PackageTree → H × Part
parts_walked R h k = let visible = declarations_walked R h k.visible in part_after visible (private_walked R visible.0 k.private_part)

-- both parts up to the end: E302 there if a private type has no full declaration
abbrev pub parts_completed : {H : Type 0} → Reading H → H × Part → Label → H × Part
parts_completed R part end = (part.0, closed_by part.1 (R.incomplete part.0 end))

-- a package: what waits at its end is left to its body; the name at its end, E308, counts as a declaration
abbrev pub package_walked : {H : Type 0} → Reading H → H → PackageTree → H × Inside
package_walked R h k = let whole = parts_completed R (parts_walked R h k) k.end.end in (whole.0, ended_by (inside_of whole.1 nothing) (end_of_compound k.name k.end.end_name))

-- the statements of a package's body, in which there is no return (ARM 6.5(5))
abbrev pub enclosing_package : Enclosing
enclosing_package = in_body (record { body = bodies.Package; words = 0; bounds = None })

abbrev pub statements_entered : {H : Type 0} → Reading H → H × Part → H × Part
statements_entered R part = (R.statements_entered part.0, part.1)

-- the body of a package, in which its declarations wait from the start: E302 at its `begin`, or else at its `end`
abbrev pub package_inside : {H : Type 0} → Reading H → H × Part → Label → Option PackageStatementsTree → H × Inside
package_inside R part end (Some s) = let whole = statements_entered R (closed R part s.opening) in inside_after whole (statements_walked R enclosing_package whole.0 s.statements)
package_inside R part end None = without_statements (closed R part end)

abbrev pub package_body_walked : {H : Type 0} → Reading H → H → PackageBodyTree → H × Inside
package_body_walked R h k =
    let inside = package_inside R (items_walked R h k.items) k.end.end k.statements in (inside.0, ended_by inside.1 (end_of_compound k.name k.end.end_name))

-- the item of a unit. The head of a library body is compared with its declaration, that of a subunit with its stub, whatever their
-- types are; after it the ancestors' private parts are seen.
abbrev pub unit_walked : {H : Type 0} → Reading H → H → LibraryItemTree → H × Inside
unit_walked R h (LibrarySubprogram p s) = without_statements (declared_part (R.subprogram h s))
unit_walked R h (LibraryPackage p l k) = package_walked R h k
unit_walked R h (LibraryBody s b) = without_statements (body_walked R h s b)
unit_walked R h (LibraryPackageBody l k) = package_body_walked R h k
unit_walked R h (Subunit l o n s b) = without_statements (body_walked R h s b)
