-- How a subscriber stands: what waits for it, and one of its streams with one of its members.
use Rattle.std.specs.Prelude.{ℕ, is_some, length, List, option_map, slice_get, slice_index_or}
use Rattle.pg_wire.specs.declared.ids.PmuKey.{PmuKey}
use Rattle.pg_entitle.specs.Grants.{has_key}
use Rattle.pg_align.specs.declared.counts.SlotCounts.{SlotCounts}
use Rattle.pg_outcfg.specs.Frames.{effective_of}
use Rattle.pg_outcfg.specs.Listing.{Listing, config_at}
use Rattle.pg_ring.specs.Shown.{Queue, bytes_to_leave, frames_to_leave, saturated}
use Rattle.pg_ring.specs.Numbers.{shown_of}
use Rattle.pg_session.specs.declared.standing.MemberPlace.{MemberPlace}
use Rattle.pg_session.specs.declared.standing.MemberStanding.{MemberStanding}
use Rattle.pg_session.specs.declared.standing.Standing.{Standing}
use Rattle.pg_session.specs.declared.standing.StreamStanding.{StreamStanding}
use Rattle.pg_session.specs.Machines.{Alignment}
use Rattle.pg_session.specs.Streams.{StreamOf}
use Rattle.pg_session.specs.Private.{Private}
use Rattle.pg_session.specs.Shown.{Model, Own}
use Rattle.pg_session.specs.ByAll.{by_arrivals}
use Rattle.pg_session.specs.Kept.{by_slots}

-- the member of this key at a place of a stream with these counts
abbrev pub member_standing : List PmuKey → Listing → SlotCounts → ℕ → PmuKey → MemberStanding
member_standing grants listed counts place key =
    record {
      key = key;
      is_granted = has_key grants key;
      is_effective = is_some (config_at listed key);
      missing = slice_index_or counts.missing place 0;
      late = slice_index_or counts.late place 0;
    }

-- The effective members are those that its CFG-2 tells, and so those that its data frames carry.
abbrev pub stream_standing : {A : Type 0} → Alignment A → List PmuKey → Listing → ℕ → StreamOf A → StreamStanding
stream_standing slots grants listed member s =
    record {
      stream = s.definition.stream;
      is_on = slots.is_on s.slots;
      effective = length (effective_of listed s.definition.members);
      members = length s.definition.members;
      layouts = s.layouts;
      complete = (slots.counts s.slots).complete;
      waited = (slots.counts s.slots).waited;
      pushed = (slots.counts s.slots).pushed;
      changed = (slots.counts s.slots).changed;
      member = option_map (member_standing grants listed (slots.counts s.slots) member) (slice_get s.definition.members member);
    }

-- a subscriber whose queue shows this, and the stream and member at a place
abbrev pub standing_at : {A Q : Type 0} → Alignment A → Private A Q → Queue → MemberPlace → Standing
standing_at slots p queue place =
    record {
      frames = frames_to_leave queue;
      bytes = saturated (length (bytes_to_leave queue));
      stream = option_map (stream_standing slots p.grants p.listed place.member) (slice_get p.streams place.stream);
    }

-- of the model, and of what is kept
abbrev pub standing_of : Model → MemberPlace → Standing
standing_of p place = standing_at by_arrivals p (shown_of p.output.queue) place

abbrev pub own_standing : Own → MemberPlace → Standing
own_standing p place = standing_at by_slots p p.output.queue place
