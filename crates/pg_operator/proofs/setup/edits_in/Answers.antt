use Rattle.std.proofs.Common.{rules, ◌≡◌, map, codes, Some, true}
use Rattle.toml.specs.View.{table_view}
use Rattle.pg_operator.specs.Setups.{edits_by, general_by, general_of, keys_within, list_of, pmu_in, required, subscriber_in, subscriber_value, told, top_names}
use Rattle.pg_operator.proofs.setup.edits_in.Goals as goal

pub returns-clause-ok : goal.returns-clause-ok
returns-clause-ok c =
    let ms = table_view c.args.table.now in
    let own = c.in-Some._general in
    let pmus = map told c.in_ok-pmus.pmus.items in
    let subscribers = map subscriber_value c.in_ok-subscribers.subscribers.items in
    let keys : keys_within top_names ms ≡ true = search rules in
    let general : general_by ms ≡ Some (general_of own) = search rules in
    let listed : required (list_of pmu_in) (codes "pmu") ms ≡ Some pmus = c.in_ok-pmus.ensures.ok in
    let added : required (list_of subscriber_in) (codes "subscriber") ms ≡ Some subscribers = c.in_ok-subscribers.ensures.ok in
    rw (keys, general, listed, added) (search rules)
