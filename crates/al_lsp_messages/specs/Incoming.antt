-- What a JSON value is as a message (JSON-RPC 2.0).
use Rattle.std.specs.Prelude.{ℕ, List, Bool, true, false, ◌||◌, is_some, codes, Option, Some, None, option_map, option_and_then, if◌then◌else◌}
use Rattle.serde_json.specs.Data.{Data, Num, unsigned, negative, float, null, boolean, number, string, array, object}
use Rattle.serde_json.specs.Find.{get, as_str}
use Rattle.serde_json.specs.View.{view}
use Rattle.al_lsp_messages.specs.declared.incoming.Incoming.{Incoming}
use Rattle.al_lsp_messages.specs.declared.incoming.Incoming.TheVariants as incoming

pub data Shape : Type 0 where
  -- its id, its method, its parameters
  request : Data → List ℕ → Option Data → Shape
  notice : List ℕ → Option Data → Shape
  -- to a request of the server's
  answer : Shape
  invalid : Shape

-- a text or an integer
abbrev pub is_id : Data → Bool
is_id null = false
is_id (boolean b) = false
is_id (number (unsigned n)) = true
is_id (number (negative z)) = true
is_id (number (float x)) = false
is_id (string s) = true
is_id (array ds) = false
is_id (object ms) = false

abbrev pub with_id : Option Data → List ℕ → Option Data → Shape
with_id None method params = notice method params
with_id (Some id) method params = if is_id id then request id method params else invalid

abbrev pub with_method : Data → Option (List ℕ) → Shape
with_method d None = if is_some (get (codes "result") d) || is_some (get (codes "error") d) then answer else invalid
with_method d (Some method) = with_id (get (codes "id") d) method (get (codes "params") d)

-- what a JSON value is
abbrev pub shape_of : Data → Shape
shape_of d = with_method d (option_and_then as_str (get (codes "method") d))

-- .. as the code has it
abbrev pub shape_in : Incoming → Shape
shape_in (incoming.Request id method params) = request (view id.now) method.now (option_map (λ p. view p.now) params)
shape_in (incoming.Notice method params) = notice method.now (option_map (λ p. view p.now) params)
shape_in incoming.Answer = answer
shape_in incoming.Invalid = invalid
