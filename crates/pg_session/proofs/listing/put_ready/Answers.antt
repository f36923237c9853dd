use Rattle.std.proofs.Common.{◌≡◌, ◌<◌, ◌-◌, length, take, Some, sym, ap, ◌∙◌, arith, subst, refl}
use Rattle.std.specs.Arc.{arc_value}
use Rattle.std.proofs.lemmas.List.{length-take-le}
use Rattle.std.proofs.lemmas.Option.{slice_get_within}
use Rattle.circular_buffer.specs.Buffer.{Buffer, last_item}
use Rattle.pg_outcfg.specs.Listing.{with_config}
use Rattle.pg_session.proofs.Putting.{PutSoFar, put_none, put_last, put_new, put_more, put_done, none_left}
use Rattle.pg_session.proofs.listing.put_ready.Goals as goal

pub loop-copy-init : goal.loop-copy-init
loop-copy-init c =
    (put_none arc_value c.args.config.now c.args.places.now c.args.listed.now c.args.configs.now.items c.requires.places c.requires.ready, refl)

pub key-key-requires : goal.key-key-requires
key-key-requires c =
    let left = c.loop-copy.configs.items in
    let last : last_item left ≡ Some c.in-Some.copy = sym c.in-Some.ensures.value in
    let within : length left - 1 < length left = slice_get_within left (length left - 1) c.in-Some.copy last in
    let short : length (take (length left - 1) left) ≡ length left - 1 = length-take-le (length left - 1) left (omega arith) in
    let k = c.len.ensures.len ∙ ap (λ (b : Buffer _). length b.items) c.pop_back.ensures.items ∙ short in
    c.requires.places c.len.result 0 (omega (arith, k, within, c.loop-copy.invariant.0.few))

pub put-requires : goal.put-requires
put-requires c =
    let left = c.loop-copy.configs.items in
    let last : last_item left ≡ Some c.in-Some.copy = sym c.in-Some.ensures.value in
    let short : length (take (length left - 1) left) ≡ length left - 1 = length-take-le (length left - 1) left (omega arith) in
    let k = c.len.ensures.len ∙ ap (λ (b : Buffer _). length b.items) c.pop_back.ensures.items ∙ short in
    let next = put_last arc_value c.args.config.now c.args.places.now c.args.listed.now left c.loop-copy.listed c.in-Some.copy c.key-key.result c.len.result
    c.requires.places c.loop-copy.invariant.0 last k c.key-key.ensures.source c.key-key.ensures.pmu in
    record {
      room = λ h.
          let more = put_new c.loop-copy.listed c.key-key.result (arc_value c.in-Some.copy) h in
          let whole = ap length next.1.put in
          omega (arith, more, whole, put_more c.args.config.now c.args.listed.now c.args.places.now (length (take c.len.result left)), c.requires.room);
    }

pub loop-copy-preserved : goal.loop-copy-preserved
loop-copy-preserved c =
    let left = c.loop-copy.configs.items in
    let last : last_item left ≡ Some c.in-Some.copy = sym c.in-Some.ensures.value in
    let short : length (take (length left - 1) left) ≡ length left - 1 = length-take-le (length left - 1) left (omega arith) in
    let k = c.len.ensures.len ∙ ap (λ (b : Buffer _). length b.items) c.pop_back.ensures.items ∙ short in
    let next = put_last arc_value c.args.config.now c.args.places.now c.args.listed.now left c.loop-copy.listed c.in-Some.copy c.key-key.result c.len.result
    c.requires.places c.loop-copy.invariant.0 last k c.key-key.ensures.source c.key-key.ensures.pmu in
    let items = ap (λ (b : Buffer _). b.items) c.pop_back.ensures.items ∙ ap (λ m. take m left) (sym k) in
    let so = subst (λ xs. PutSoFar arc_value c.args.config.now c.args.places.now c.args.listed.now xs
    (with_config c.loop-copy.listed c.key-key.result (arc_value c.in-Some.copy))) (sym items) next.1 in (
      subst (λ l. PutSoFar arc_value c.args.config.now c.args.places.now c.args.listed.now c.pop_back.new.self.items l) (sym c.put.ensures.list) so,
      ap (λ (b : Buffer _). b.capacity) c.pop_back.ensures.items ∙ c.loop-copy.invariant.1,
    )

pub returns-clause-listed : goal.returns-clause-listed
returns-clause-listed c =
    put_done arc_value c.args.config.now c.args.places.now c.args.listed.now c.loop-copy.configs.items c.loop-copy.listed c.loop-copy.invariant.0
    (none_left c.loop-copy.configs.items (sym c.in_default.ensures.value))

pub returns-clause-configs : goal.returns-clause-configs
returns-clause-configs c =
    ap (λ (b : Buffer _). b.items) c.pop_back.ensures.items
    ∙ ap (λ xs. take (length xs - 1) xs) (none_left c.loop-copy.configs.items (sym c.in_default.ensures.value))
