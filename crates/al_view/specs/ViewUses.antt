-- What of a view the linker must find for who names it: code, data and protected objects, and no types.
use Rattle.std.specs.Prelude.{List, [], ◌∷◌, ◌++◌, Option, Some, None}
use Rattle.std.specs.List.{flat_map}
use Rattle.al_view.specs.declared.link.LinkKind.{LinkKind}
use Rattle.al_view.specs.declared.link.LinkKind.TheVariants.{Code, Gate, EntryBody, Flag, Data, Protected}
use Rattle.al_view.specs.declared.link.LinkSymbol.{LinkSymbol}
use Rattle.al_view.specs.declared.symbol.Symbol.{Symbol}
use Rattle.al_view.specs.declared.view.CallKind.{CallKind}
use Rattle.al_view.specs.declared.view.CallKind.TheVariants as call
use Rattle.al_view.specs.declared.view.ObjectPlace.{ObjectPlace}
use Rattle.al_view.specs.declared.view.ObjectPlace.TheVariants.{Frame, Static}
use Rattle.al_view.specs.declared.view.SubprogramView.{SubprogramView}
use Rattle.al_view.specs.declared.view.ViewKind.{ViewKind}
use Rattle.al_view.specs.declared.view.ViewKind.TheVariants.{OfObject, OfSubprogram, OfTask, OfProtected}

-- the symbol for the linker of this kind, for the declaration with this symbol
abbrev pub link : LinkKind → Symbol → LinkSymbol
link kind symbol = record { symbol = symbol; kind = kind }

-- what lies at a place of this kind: what lies in a frame the linker doesn't see
abbrev pub place_uses : LinkKind → ObjectPlace → List LinkSymbol
place_uses kind (Frame depth word) = []
place_uses kind (Static symbol word) = link kind symbol ∷ []

abbrev pub flag_uses : Option ObjectPlace → List LinkSymbol
flag_uses (Some place) = place_uses Flag place
flag_uses None = []

-- the code of what is called: that of an operator or of a predefined subprogram is at the call itself
abbrev pub callee_uses : CallKind → Symbol → List LinkSymbol
callee_uses (call.Operator of_type) s = []
callee_uses call.Predefined s = []
callee_uses (call.Subprogram depth) s = link Code s ∷ []
callee_uses call.Protected s = link Code s ∷ []
callee_uses call.Entry s = link Gate s ∷ link EntryBody s ∷ []

abbrev pub subprogram_uses : SubprogramView → List LinkSymbol
subprogram_uses s = callee_uses s.call s.symbol ++ flag_uses s.flag

unfoldable pub view_uses : ViewKind → List LinkSymbol
view_uses (OfObject o) = place_uses Data o.place
view_uses (OfSubprogram s) = subprogram_uses s
view_uses (OfTask t) = link Code t.symbol ∷ []
view_uses (OfProtected p) = link Data p.symbol ∷ link Protected p.symbol ∷ link Flag p.symbol ∷ flat_map (λ o. subprogram_uses o.subprogram) p.operations
view_uses _ = []
