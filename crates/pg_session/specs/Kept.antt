-- What the code keeps: of a stream its open slots, of a queue the frames that stand with their gaps.
use Rattle.std.specs.Prelude.{◌+◌, ◌-◌, length, sum_by}
use Rattle.pg_data.specs.Pieces.{Piece}
use Rattle.pg_align.specs.Slots.{Aligned, none_open, answer_at, with_arrival, with_tick, all_leaving, all_flushed, with_shape, with_start, with_none}
use Rattle.pg_ring.specs.Shown.{Queue, begun_of, bytes_to_leave, frames_begun, gap_of, saturated, drained, emptied, data_frames}
use Rattle.pg_ring.specs.Steps.{with_data, with_lost, with_reply, takes_reply}
use Rattle.pg_session.specs.Machines.{Alignment, Queueing}

abbrev pub by_slots : Alignment (Aligned Piece)
by_slots = record {
  opening = λ d. none_open d.window d.wait (length d.members);
  is_on = λ a. a.is_on;
  answer = answer_at;
  arrive = with_arrival;
  tick = with_tick;
  leave = all_leaving;
  flush = all_flushed;
  reshape = with_shape;
  start = with_start;
  discard = with_none;
  counts = λ a. a.counts;
}

abbrev pub by_gaps : Queueing Queue
by_gaps = record {
  push = with_data;
  dropped = λ queue frame. length queue.frames + 1 - length (with_data queue frame).frames;
  lose = with_lost;
  takes_reply = takes_reply;
  reply = with_reply;
  bytes = bytes_to_leave;
  begun = begun_of;
  gap = λ queue n. saturated (sum_by gap_of (frames_begun queue n));
  drain = drained;
  clear = emptied;
  cleared = data_frames;
}
