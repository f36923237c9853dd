-- The model: a stream by all arrivals of its on-period, and a queue by all frames ever made.
use Rattle.std.specs.Prelude.{length, sum_by}
use Rattle.pg_data.specs.Pieces.{Piece}
use Rattle.pg_align.specs.Counts.{counts_of}
use Rattle.pg_align.specs.Histories.{StreamHistory, opening, answer_to, take_arrival, ticked, leave_all, flush_all, reshaped, started, discarded}
use Rattle.pg_ring.specs.Shown.{begun_of, bytes_to_leave, frames_begun, gap_of, saturated}
use Rattle.pg_ring.specs.Numbers.{Numbered, shown_of, push_made, dropped_by, lose_made, reply_made, drain_made, clear_made, cleared_by}
use Rattle.pg_ring.specs.Steps.{takes_reply}
use Rattle.pg_session.specs.Machines.{Alignment, Queueing}

abbrev pub by_arrivals : Alignment (StreamHistory Piece)
by_arrivals = record {
  opening = λ d. opening d.window d.wait (length d.members);
  is_on = λ h. h.is_on;
  answer = answer_to;
  arrive = take_arrival;
  tick = ticked;
  leave = leave_all;
  flush = flush_all;
  reshape = reshaped;
  start = started;
  discard = discarded;
  counts = λ h. counts_of h.past;
}

abbrev pub by_numbers : Queueing Numbered
by_numbers = record {
  push = push_made;
  dropped = dropped_by;
  lose = lose_made;
  takes_reply = λ m. takes_reply (shown_of m);
  reply = reply_made;
  bytes = λ m. bytes_to_leave (shown_of m);
  begun = λ m n. begun_of (shown_of m) n;
  gap = λ m n. saturated (sum_by gap_of (frames_begun (shown_of m) n));
  drain = drain_made;
  clear = clear_made;
  cleared = cleared_by;
}
