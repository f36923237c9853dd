-- The edits of a setup (AddPmu, AddSub, Grant and Define), compared.
use Rattle.std.specs.Prelude.{ℕ, ◌==◌, ◌&&◌, Bool, false, List}
use Rattle.std.specs.Cmp.Lexicographic.{pointwise}
use Rattle.std.specs.List.{list_any}
use Rattle.std.specs.Str.{bytes_eq}
use Rattle.pg_wire.specs.declared.ids.PmuKey.{PmuKey}
use Rattle.pg_wire.specs.Keys.{key_eq}
use Rattle.pg_stream.specs.declared.definition.Definition.{Definition}
use Rattle.pg_gateway.specs.declared.edit.Edit.{Edit}
use Rattle.pg_gateway.specs.declared.edit.Edit.TheVariants.{AddPmu, AddSub, Grant, Define}

-- every field is the same
abbrev pub definition_eq : Definition → Definition → Bool
definition_eq d e =
    (((((d.stream == e.stream && d.rate == e.rate) && d.base == e.base) && d.wait == e.wait) && d.window == e.window)
    && bytes_eq d.header e.header) && pointwise key_eq d.members e.members

abbrev pub registers : PmuKey → Edit → Bool
registers k (AddPmu l) = key_eq k l
registers k e = false

abbrev pub adds_with : ℕ → ℕ → ℕ → Edit → Bool
adds_with u size bytes (AddSub v ring limit) = (u == v && size == ring) && bytes == limit
adds_with u size bytes e = false

abbrev pub grants : ℕ → PmuKey → Edit → Bool
grants u k (Grant v l) = u == v && key_eq k l
grants u k e = false

abbrev pub defines : ℕ → Definition → Edit → Bool
defines u d (Define v e) = u == v && definition_eq d e
defines u d e = false

-- both are one edit of a setup
abbrev pub edit_eq : Edit → Edit → Bool
edit_eq (AddPmu k) e = registers k e
edit_eq (AddSub u size bytes) e = adds_with u size bytes e
edit_eq (Grant u k) e = grants u k e
edit_eq (Define u d) e = defines u d e
edit_eq d e = false

-- one of the edits is this one
abbrev pub has : List Edit → Edit → Bool
has edits e = list_any (λ d. edit_eq d e) edits
