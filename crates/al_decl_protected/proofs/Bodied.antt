-- The body of what is named alone that completes nothing.
use Rattle.std.proofs.Common.{◌≡◌, ℕ, Option, None, Result, Err, sym, ap, ◌∙◌}
use Rattle.al_base_fault.specs.declared.fault.Fault.{Fault}
use Rattle.al_decl.specs.declared.env.Environment.{Environment}
use Rattle.al_view.specs.declared.view.ViewKind.{ViewKind}
use Rattle.al_decl_protected.specs.Bodies.{Named, body_by}

abbrev wrong : Fault → Result Named Fault
wrong f = Err f

pub body_alone : (h : Environment) (line : ℕ) (f lone : Fault) (r : Option (ℕ × ViewKind)) → f ≡ lone → r ≡ None → wrong f ≡ body_by h line lone r
body_alone h line f lone r is none = ap wrong is ∙ sym (ap (body_by h line lone) none)
