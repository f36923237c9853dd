-- How a subscriber stands is the same of what is kept and of the model that it shows.
use Rattle.std.proofs.Common.{◌≡◌, ℕ, zero, suc, List, [], ◌∷◌, length, slice_get, option_map, Option, Some, refl, ap, ap₂, ◌∙◌, Bool}
use Rattle.pg_wire.specs.declared.ids.PmuKey.{PmuKey}
use Rattle.pg_data.specs.Pieces.{Piece}
use Rattle.pg_stream.specs.declared.definition.Definition.{Definition}
use Rattle.pg_align.specs.Counts.{counts_of}
use Rattle.pg_align.specs.declared.counts.SlotCounts.{SlotCounts}
use Rattle.pg_align.specs.Histories.{StreamHistory}
use Rattle.pg_align.specs.Slots.{Aligned}
use Rattle.pg_outcfg.specs.Frames.{effective_of}
use Rattle.pg_outcfg.specs.Listing.{Listing}
use Rattle.pg_ring.specs.Shown.{Queue, bytes_to_leave, frames_to_leave, saturated}
use Rattle.pg_session.specs.declared.standing.Standing.{Standing}
use Rattle.pg_session.specs.declared.standing.StreamStanding.{StreamStanding}
use Rattle.pg_session.specs.declared.layouts.Layouts.{Layouts}
use Rattle.pg_session.specs.Streams.{StreamOf}
use Rattle.pg_session.specs.Shown.{Model, Own, StreamShows, StreamsShow, OwnShows}
use Rattle.pg_session.specs.ByAll.{by_arrivals}
use Rattle.pg_session.specs.Kept.{by_slots}
use Rattle.pg_session.specs.declared.standing.MemberPlace.{MemberPlace}
use Rattle.pg_session.specs.Standing.{member_standing, stream_standing, standing_of, own_standing}

same_stream : (grants : List PmuKey) (listed : Listing) (member : ℕ) (s : StreamOf (Aligned Piece)) (t : StreamOf (StreamHistory Piece)) → StreamShows s t
    → stream_standing by_slots grants listed member s ≡ stream_standing by_arrivals grants listed member t
same_stream grants listed member s t shows =
    let stands : Definition → Bool → SlotCounts → Layouts → StreamStanding = λ d on counts layouts. record {
      stream = d.stream;
      is_on = on;
      effective = length (effective_of listed d.members);
      members = length d.members;
      layouts = layouts;
      complete = counts.complete;
      waited = counts.waited;
      pushed = counts.pushed;
      changed = counts.changed;
      member = option_map (member_standing grants listed counts member) (slice_get d.members member);
    } in
    ap₂ (λ d on. stands d on s.slots.counts s.layouts) shows.definition (ap (λ a. a.is_on) shows.slots.same)
    ∙ ap (λ counts. stands t.definition t.slots.is_on counts s.layouts) (ap (λ a. a.counts) shows.slots.same)
    ∙ ap (stands t.definition t.slots.is_on (counts_of t.slots.past)) shows.layouts

same_place : (grants : List PmuKey) (listed : Listing) (member : ℕ) (ss : List (StreamOf (Aligned Piece))) (ts : List (StreamOf (StreamHistory Piece))) (place : ℕ) → StreamsShow ss ts
    → option_map (stream_standing by_slots grants listed member) (slice_get ss place) ≡ option_map (stream_standing by_arrivals grants listed member) (slice_get ts place)
same_place grants listed member [] [] place shows = refl
same_place grants listed member (s ∷ ss) (t ∷ ts) zero shows = ap Some (same_stream grants listed member s t shows.0)
same_place grants listed member (s ∷ ss) (t ∷ ts) (suc place) shows = same_place grants listed member ss ts place shows.1
same_place grants listed member [] (t ∷ ts) place shows = absurd shows
same_place grants listed member (s ∷ ss) [] place shows = absurd shows

pub same_standing : (v : Own) (p : Model) (place : MemberPlace) → OwnShows v p → own_standing v place ≡ standing_of p place
same_standing v p place shows =
    let stands : Queue → Option StreamStanding → Standing = λ queue stream. record {
      frames = frames_to_leave queue;
      bytes = saturated (length (bytes_to_leave queue));
      stream = stream;
    } in
    ap₂ stands shows.queue.same
    (ap₂ (λ grants listed. option_map (stream_standing by_slots grants listed place.member) (slice_get v.streams place.stream)) shows.grants shows.listed
    ∙ same_place p.grants p.listed place.member v.streams p.streams place.stream shows.streams)
