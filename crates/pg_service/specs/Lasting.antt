-- The edits that are in force once some were done.
use Rattle.std.specs.Prelude.{ℕ, ◌==◌, ◌&&◌, ◌++◌, Bool, true, false, not, List, [], ◌∷◌, filter, if◌then◌else◌}
use Rattle.pg_wire.specs.declared.ids.PmuKey.{PmuKey}
use Rattle.pg_wire.specs.Keys.{key_eq}
use Rattle.pg_gateway.specs.declared.edit.Edit.{Edit}
use Rattle.pg_gateway.specs.declared.edit.Edit.TheVariants.{AddPmu, DropPmu, AddSub, DropSub, Grant, Revoke, Define, Remove}

-- An edit is in force until a later one takes it back.
abbrev pub is_lasting : Edit → Bool
is_lasting (AddPmu k) = true
is_lasting (AddSub u size bytes) = true
is_lasting (Grant u k) = true
is_lasting (Define u d) = true
is_lasting e = false

-- An edit registers or grants this PMU.
abbrev pub is_of_pmu : PmuKey → Edit → Bool
is_of_pmu k (AddPmu l) = key_eq k l
is_of_pmu k (Grant u l) = key_eq k l
is_of_pmu k e = false

-- An edit adds this subscriber, grants it a PMU or defines a stream of it.
abbrev pub is_of_sub : ℕ → Edit → Bool
is_of_sub u (AddSub v size bytes) = u == v
is_of_sub u (Grant v k) = u == v
is_of_sub u (Define v d) = u == v
is_of_sub u e = false

abbrev pub grants : ℕ → PmuKey → Edit → Bool
grants u k (Grant v l) = u == v && key_eq k l
grants u k e = false

abbrev pub defines : ℕ → ℕ → Edit → Bool
defines u stream (Define v d) = u == v && stream == d.stream
defines u stream e = false

-- An edit takes an earlier one back: who drops a PMU revokes its grants, and who drops a subscriber its grants and streams. A grant of what is
-- granted takes the place of the earlier one.
abbrev pub undoes : Edit → Edit → Bool
undoes (DropPmu k) e = is_of_pmu k e
undoes (DropSub u) e = is_of_sub u e
undoes (Grant u k) e = grants u k e
undoes (Revoke u k) e = grants u k e
undoes (Remove u stream) e = defines u stream e
undoes d e = false

-- the edits that are in force once this one was done after them
abbrev pub in_force_after : Edit → List Edit → List Edit
in_force_after edit edits =
    filter (λ earlier. not (undoes edit earlier)) edits ++ (if is_lasting edit then edit ∷ [] else [])
