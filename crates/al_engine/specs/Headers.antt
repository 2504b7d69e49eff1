-- When two headers are the same except for places.
use Rattle.std.specs.Prelude.{◌≡◌}
use Rattle.al_unit_graph.specs.Headers.{Header}

pub record HaveSameNames (a b : Header) : Type 0 where
  pub name : a.name ≡ b.name
  pub designator : a.designator ≡ b.designator
  pub parent_body : a.parent_body ≡ b.parent_body

pub record HaveSameProperties (a b : Header) : Type 0 where
  pub form : a.form ≡ b.form
  pub is_private : a.is_private ≡ b.is_private
  pub needs_body : a.needs_body ≡ b.needs_body
  pub has_elaborate_body : a.has_elaborate_body ≡ b.has_elaborate_body
  pub is_parameterless_procedure : a.is_parameterless_procedure ≡ b.is_parameterless_procedure

pub record HaveSameLists (a b : Header) : Type 0 where
  pub mentions : a.mentions ≡ b.mentions
  pub stubs : a.stubs ≡ b.stubs
  pub elaborate : a.elaborate ≡ b.elaborate
  pub elaborate_all : a.elaborate_all ≡ b.elaborate_all
