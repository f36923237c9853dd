use Rattle.std.proofs.Common.{rules, ◌≡◌, map, codes, option_map, string_bytes, Some, true}
use Rattle.toml.specs.View.{table_view}
use Rattle.pg_operator.specs.Setups.{general_by, general_of, keys_within, list_of, pmu_in, required, source_value, sources_of, subscriber_in, subscriber_value, told, top_names}
use Rattle.pg_operator.proofs.setup.setup_in.Goals as goal

pub returns-clause-ok : goal.returns-clause-ok
returns-clause-ok c =
    let ms = table_view c.args.table.now in
    let own = c.in-Some.general in
    let pmus = map told c.in_ok-tables.tables.items in
    let sources = map source_value c.in_ok-sources.sources.items in
    let subscribers = map subscriber_value c.in_ok-subscribers.subscribers.items in
    let keys : keys_within top_names ms ≡ true = search rules in
    let general : general_by ms ≡ Some (general_of own) = search rules in
    let listed : required (list_of pmu_in) (codes "pmu") ms ≡ Some pmus = c.in_ok-tables.ensures.ok in
    let found : sources_of pmus ≡ Some sources = search rules in
    let added : required (list_of subscriber_in) (codes "subscriber") ms ≡ Some subscribers = c.in_ok-subscribers.ensures.ok in
    let numbers : c.in_ok-pmus.pmus.items ≡ map (λ p. p.key) pmus = search rules in
    let name : option_map (λ s. s.now) own.name ≡ option_map (λ s. string_bytes s) c.in_ok-name.name = search rules in
    let control : option_map (λ s. s.now) own.control ≡ option_map (λ s. string_bytes s) c.in_ok-control.control = search rules in
    let folder : option_map (λ s. s.now) own.record_folder ≡ option_map (λ s. string_bytes s) c.in_ok-record_folder.record_folder = search rules in
    rw (keys, general, listed, found, added, numbers)
    (λ k. Some (record { pmus = map (λ p. p.key) pmus; sources = sources; subscribers = subscribers; general = record (general_of own) { control = control k; name = name k; record_folder = folder k } }))
