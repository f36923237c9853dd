-- Keys of PMUs, compared.
use Rattle.std.specs.Prelude.{◌&&◌, ◌||◌, Bool, nat_lt, nat_eq}
use Rattle.pg_wire.specs.declared.ids.PmuKey.{PmuKey}

-- they name one PMU
abbrev pub key_eq : PmuKey → PmuKey → Bool
key_eq a b = nat_eq a.source b.source && nat_eq a.pmu b.pmu

-- the first comes before the second: by source, then by PMU
abbrev pub key_before : PmuKey → PmuKey → Bool
key_before a b = nat_lt a.source b.source || (nat_eq a.source b.source && nat_lt a.pmu b.pmu)
