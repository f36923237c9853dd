-- The input which a record is spells the event that was recorded.
use Rattle.std.proofs.Common.{◌≡◌, ℕ, ◌+◌, ◌*◌, ◌^◌, ◌<◌, nat_lt, ◌&&◌, Bool, true, false, if◌then◌else◌, List, [], ◌∷◌, ◌++◌, length, Option, Some, None, option_map, refl, sym, ap, ap₂, ◌∙◌, arith}
use Rattle.std.proofs.lemmas.Bool.Decides.{nat_tests}
use Rattle.std.specs.Int.{w16, w32, to_be_bytes}
use Rattle.pg_wire.specs.Check.{chk}
use Rattle.pg_wire.specs.Head.{two_at}
use Rattle.pg_command.specs.Spelling.{written}
use Rattle.pg_command.proofs.Commands.{written-frame, written-spelled, read-spelled}
use Rattle.pg_record.specs.declared.record.RecordKind.TheVariants.{Measurement, Configuration, Command, Tick, Connect, Hangup, Drain}
use Rattle.std.proofs.lemmas.Nat.{from_be_bytes-to_be_bytes_4}
use Rattle.pg_record.specs.Numbers.{four_in}
use Rattle.pg_data.specs.Measurements as measured_data
use Rattle.pg_data.specs.Measurements.{IsMeasurement}
use Rattle.pg_data.specs.Reading.{spelling_of}
use Rattle.pg_data.proofs.Spellings.{reads-back}
use Rattle.pg_session.specs.Events as session
use Rattle.pg_gateway.specs.GatewayEvents.{asks, tick}
use Rattle.pg_serve.specs.Inputs.{InputValue, pmu_bytes, sub_bytes, names}
use Rattle.pg_serve.specs.Replaying.{SpellsWord}
use Rattle.pg_recordings.specs.Inputs.{framed, of_source, of_subscriber, measured, commanded, drained, input_in}
use Rattle.pg_recordings.specs.Recorded.{measured_body, command_body, RecordsAreSpelled}

subscribed : {A : Type 0} (u : ℕ) (x : Option A) → 0 < u → of_subscriber u x ≡ x
subscribed u x some = let is : nat_lt 0 u ≡ true = grind (arith, nat_tests) in ap (λ b. if b then x else None) is

sourced : {A : Type 0} (id : ℕ) (x : Option A) → 0 < id → id < 65535 → of_source id x ≡ x
sourced id x low high =
    let is : (nat_lt 0 id && nat_lt id 65535) ≡ true = grind (arith, nat_tests) in ap (λ b. if b then x else None) is

four_reads : (n : ℕ) → n < 2 ^ 32 → four_in (to_be_bytes w32 n) ≡ Some (n, [])
four_reads n small = ap (λ k. Some (k, [])) (from_be_bytes-to_be_bytes_4 n small)

abbrev with_check : List ℕ → List ℕ
with_check front = front ++ to_be_bytes w16 (chk front)

framed_is : (m : measured_data.Measurement) → framed 2 m.source (measured_body m) ≡ spelling_of m
framed_is m =
    let size : 8 + length (measured_body m) ≡ 16 + length m.body = omega arith in
    ap (λ k. with_check (0xAA ∷ 2 ∷ to_be_bytes w16 k ++ to_be_bytes w16 m.source ++ measured_body m)) size

measured_is : (m : measured_data.Measurement) → 16 + length m.body < 2 ^ 16 → measured m.source (measured_body m) ≡ Some (pmu_bytes m.source (spelling_of m))
measured_is m small =
    let long : nat_lt (length (measured_body m)) 8 ≡ false = grind (arith, nat_tests) in
    let fits : nat_lt (8 + length (measured_body m)) 65536 ≡ true = grind (arith, nat_tests) in
    ap₂ (λ a b. option_map (pmu_bytes m.source) (if a then None else (if b then Some (framed 2 m.source (measured_body m)) else None))) long fits
    ∙ ap (λ frame. Some (pmu_bytes m.source frame)) (framed_is m)

commanded_is : (u stream word : ℕ) → stream < 2 ^ 16 → commanded u (command_body stream word) ≡ Some (sub_bytes u (written stream 0 word))
commanded_is u stream word small =
    let body = command_body stream word in
    let same : two_at body 0 ≡ stream = omega arith in
    ap (λ s. Some (sub_bytes u (written s 0 word))) same

spelled_word : (stream word : ℕ) → stream < 2 ^ 16 → word < 2 ^ 16 → SpellsWord (written stream 0 word) stream word
spelled_word stream word stream_fits word_fits = record {
  whole = written-frame stream 0 word stream_fits (omega arith) word_fits;
  read = read-spelled (written stream 0 word) (record { stream = stream; word = word }) (written-spelled stream 0 word stream_fits (omega arith) word_fits);
}

drained_is : (u room : ℕ) → room < 65536 → drained u (Some (room, [])) ≡ Some (names (asks u (session.drain room)))
drained_is u room small =
    let fits : nat_lt 65535 room ≡ false = grind (arith, nat_tests) in
    ap (λ b. if b then None else Some (names (asks u (session.drain room)))) fits

pub records_are_spelled : RecordsAreSpelled
records_are_spelled = record {
  measured = λ past m is low high awaits. (
    pmu_bytes m.source (spelling_of m),
    sourced m.source (measured m.source (measured_body m)) low high ∙ measured_is m is.small,
    (m.config, awaits, (reads-back m is).spelled),
  );
  announced = λ past config frame spells low high link.
      (pmu_bytes config.source frame, sourced config.source (Some (pmu_bytes config.source frame)) low high, (link, refl, spells));
  commanded = λ past u stream word some stream_fits word_fits session. (
    sub_bytes u (written stream 0 word),
    subscribed u (commanded u (command_body stream word)) some ∙ commanded_is u stream word stream_fits,
    (refl, session, spelled_word stream word stream_fits word_fits),
  );
  ticked = λ past soc fits. (names (tick soc), ap (option_map (λ x. names (tick x.0))) (four_reads soc fits), refl);
  connected = λ past u some. (names (asks u session.connect), subscribed u (Some (names (asks u session.connect))) some, refl);
  ended = λ past u some. (names (asks u session.hangup), subscribed u (Some (names (asks u session.hangup))) some, refl);
  drained = λ past u room some small. (
    names (asks u (session.drain room)),
    subscribed u (drained u (four_in (to_be_bytes w32 room))) some ∙ ap (drained u) (four_reads room (omega arith)) ∙ drained_is u room small,
    refl,
  );
}
