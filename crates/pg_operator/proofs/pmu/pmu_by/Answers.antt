use Rattle.std.proofs.Common.{rules, sym, refl, ◌≡◌, option_map, codes, Some, true}
use Rattle.toml.specs.View.{table_view}
use Rattle.pg_operator.specs.Setups.{absent_or, addresses_in, boolean_in, called_values, keys_within, optional, pmu_names, required, whole_in}
use Rattle.pg_operator.proofs.pmu.pmu_by.Goals as goal

pub returns : goal.returns
returns c =
    let ms = table_view c.args.table.now in
    let keys : keys_within pmu_names ms ≡ true = search rules in
    let id : required (whole_in 1 65534) (codes "id") ms ≡ Some c.in_ok-pmu.pmu = sym c.in_ok-pmu.ensures in
    let source : optional c.in_ok-pmu.pmu (whole_in 1 65534) (codes "source") ms ≡ Some c.in_ok-source.source = sym c.in_ok-source.ensures in
    let connect : absent_or addresses_in (codes "connect") ms ≡ Some (option_map called_values c.in_ok-connect.connect) = sym c.in_ok-connect.ensures in
    let first : absent_or boolean_in (codes "prefer_first") ms ≡ Some c.in_ok-prefer_first.prefer_first = sym c.in_ok-prefer_first.ensures in
    let silence : absent_or (whole_in 0 3600) (codes "silence") ms ≡ Some c.in_ok-silence.silence = sym c.in_ok-silence.ensures in
    let clock : absent_or (whole_in 1 30000) (codes "clock_ms") ms ≡ Some c.in_ok-clock_ms.clock_ms = sym c.in_ok-clock_ms.ensures in
    let ahead : absent_or (whole_in 0 30000) (codes "ahead_ms") ms ≡ Some c.in_ok-ahead_ms.ahead_ms = sym c.in_ok-ahead_ms.ensures in
    rw (keys, id, source, connect, first, silence, clock, ahead) refl
