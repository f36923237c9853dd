-- What the fields of an output queue mean, and what they keep.
use Rattle.std.specs.Prelude.{◌≡◌, ℕ, ◌≤◌, ◌<◌, List, length, map, drop}
use Rattle.std.specs.Global.{Vec}
use Rattle.pg_ring.specs.Shown.{Queue, bytes_in, HaveBytes, RepliesHaveBytes}
use Rattle.pg_ring.specs.Items.{shown}
use Rattle.pg_ring.specs.declared.queue.OutQueue.TheInside.{Inside}

abbrev pub contents : Vec ℕ → List ℕ
contents bytes = bytes.items

abbrev pub queue_of : Inside → Queue
queue_of a =
    record {
      ring_size = a.frames.capacity;
      byte_limit = a.byte_limit;
      rest = drop a.taken a.hand.items;
      data_in_hand = a.data_in_hand;
      replies = map contents a.replies.items;
      frames = shown a.frames.items;
      pending = a.pending;
    }

pub record QueueIsKept (a : Inside) : Type 0 where
  pub taken : a.taken ≤ length a.hand.items
  pub counted : a.held ≡ bytes_in (shown a.frames.items)
  pub within_limit : a.held ≤ a.byte_limit
  pub some_size : 0 < a.frames.capacity
  pub small_size : a.frames.capacity ≤ 1024
  pub least_limit : 16 ≤ a.byte_limit
  pub most_limit : a.byte_limit ≤ 16777216
  pub few_frames : length a.frames.items ≤ a.frames.capacity
  pub eight : a.replies.capacity ≡ 8
  pub few_replies : length a.replies.items ≤ 8
  pub frames_have_bytes : HaveBytes (shown a.frames.items)
  pub replies_have_bytes : RepliesHaveBytes (map contents a.replies.items)
