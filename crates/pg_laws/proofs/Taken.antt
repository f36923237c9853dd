-- Each event that a subscriber takes was read.
use Rattle.std.proofs.Common.{◌≡◌, ℕ, ◌+◌, List, [], ◌∷◌, ◌++◌, length, take, slice_get, Option, Some, None, IfSome, refl, sym, subst, arith}
use Rattle.std.specs.List.{AllByRecursion}
use Rattle.std.specs.Arc.{arc_value}
use Rattle.std.proofs.lemmas.List.Elements.{All-get_or}
use Rattle.std.proofs.lemmas.Option.{slice_get_within, get_or_from_slice_get}
use Rattle.pg_wire.specs.declared.ids.PmuKey.{PmuKey}
use Rattle.pg_config.specs.Parts.{Part, Source, IsPart, IsSource, data_len, data_lens}
use Rattle.pg_data.specs.Measurements.{Measurement, IsMeasurement, block_of}
use Rattle.pg_data.proofs.Blocks.{lens_within, place_sized, range_sized}
use Rattle.pg_outcfg.specs.Listing.{Listing}
use Rattle.pg_session.specs.declared.event.PrivateEvent.{PrivateEvent}
use Rattle.pg_session.specs.declared.event.PrivateEvent.TheVariants as private
use Rattle.pg_session.specs.Events.{subscriber_event, announced_part, announced_at, sampled_part, samples_at}
use Rattle.pg_session.specs.Shown.{Model, SubscriberValue, ShowsPrivate}
use Rattle.pg_session.specs.Ready.{Accepts, AreHeld}
use Rattle.pg_laws.specs.Lengths.{IsChecked, IsLongAs, IsLongBy, IsRead, WasChecked}

-- ---- configurations

part_checked : (config : Source) (i : ℕ) (part : Part) → IsSource config → slice_get config.parts i ≡ Some part → IsPart part
part_checked config i part is e =
    let one = All-get_or (λ p. IsPart p × (p.base ≡ is.base) × (p.rate ≡ is.rate)) config.parts i part (slice_get_within config.parts i part e) is.each in
    subst IsPart (get_or_from_slice_get config.parts i part part e) one.0

announced_checked : (config : Source) (places : List ℕ) → IsSource config → AllByRecursion IsChecked (announced_at config places)
announced_checked config [] is = tt
announced_checked config (i ∷ places) is = by (slice_get config.parts i) (λ part e. part_checked config i part is e) (announced_checked config places is)
  where
    by : (o : Option Part) → ((part : Part) → o ≡ Some part → IsPart part) → AllByRecursion IsChecked (announced_at config places)
        → AllByRecursion IsChecked (announced_part config o ++ announced_at config places)
    by None each rest = rest
    by (Some part) each rest = (each part refl, rest)

-- ---- blocks

-- a block of a data frame is as long as its configuration says
block_long : (m : Measurement) (i : ℕ) → IsMeasurement m → IfSome (slice_get m.config.parts i) (λ part. length (block_of m i) ≡ data_len part)
block_long m i is =
    range_sized (slice_get m.config.parts i) m.body (data_lens (take i m.config.parts)) (data_lens (take (i + 1) m.config.parts))
    (omega (arith, is.size, lens_within m.config.parts (i + 1)))
    (place_sized m.config.parts i (data_lens (take i m.config.parts)) (data_lens (take (i + 1) m.config.parts)) refl refl)

samples_long : (m : Measurement) (grants : List PmuKey) (listed : Listing) (places : List ℕ) → IsMeasurement m → AreHeld grants listed (samples_at m places)
    → AllByRecursion (IsLongBy listed) (samples_at m places)
samples_long m grants listed [] is held = tt
samples_long m grants listed (i ∷ places) is held =
    by (slice_get m.config.parts i) (block_long m i is) held (λ rest. samples_long m grants listed places is rest)
  where
    by : (o : Option Part) → IfSome o (λ part. length (block_of m i) ≡ data_len part) → AreHeld grants listed (sampled_part m i o ++ samples_at m places)
        → (AreHeld grants listed (samples_at m places) → AllByRecursion (IsLongBy listed) (samples_at m places))
        → AllByRecursion (IsLongBy listed) (sampled_part m i o ++ samples_at m places)
    by None long held rest = rest held
    by (Some part) long held rest = (subst (λ o. IsLongAs o (block_of m i)) (sym held.1) long, rest held.2)

-- ---- events

own_read : (v : SubscriberValue) (e : PrivateEvent) → Accepts v e → WasChecked e → IsRead v.own.listed (subscriber_event e)
own_read v (private.Grant key None) takes is = tt
own_read v (private.Grant key (Some config)) takes is = is
own_read v (private.Announce config places) takes is = announced_checked config.now places.now is
own_read v (private.Measure frame places) takes is = samples_long (arc_value frame.now) v.own.grants v.own.listed places.now is takes.own
own_read v (private.Revoke key) takes is = tt
own_read v (private.Define definition) takes is = tt
own_read v (private.Remove number) takes is = tt
own_read v (private.Tick soc) takes is = tt
own_read v private.Connect takes is = tt
own_read v private.Hangup takes is = tt
own_read v (private.Command asked) takes is = tt
own_read v (private.Drain buf) takes is = tt

pub taken-read : (v : SubscriberValue) (p : Model) (e : PrivateEvent) → ShowsPrivate v p → Accepts v e → WasChecked e → IsRead p.listed (subscriber_event e)
taken-read v p e shows takes is = subst (λ listed. IsRead listed (subscriber_event e)) shows.listed (own_read v e takes is)
