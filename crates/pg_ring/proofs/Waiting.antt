-- The bytes that wait, counted up to 2^64 - 1.
use Rattle.std.proofs.Common.{◌≡◌, ℕ, ◌+◌, ◌<◌, List, [], ◌∷◌, length, get_or, drop, map, refl, sym, ap, ◌∙◌, arith, length-append}
use Rattle.std.proofs.lemmas.List.{drop_more}
use Rattle.std.proofs.lemmas.Grind.{flat_map-append}
use Rattle.pg_ring.specs.Shown.{Queue, Framed, bytes_of, bytes_in, bytes_to_leave, pieces_of, saturated}
use Rattle.pg_ring.proofs.Handing.{joined}

pub saturated_sum : (a b c : ℕ) → saturated (saturated (a + b) + c) ≡ saturated (a + (b + c))
saturated_sum a b c = omega arith

-- one reply more is counted
pub counted_next : (bytes : ℕ) (replies : List (List ℕ)) (i : ℕ) (reply : List ℕ) → i < length replies → get_or replies i [] ≡ reply
    → saturated (saturated (bytes + length reply) + length (joined (drop (i + 1) replies))) ≡ saturated (bytes + length (joined (drop i replies)))
counted_next bytes replies i reply within is =
    saturated_sum bytes (length reply) (length (joined (drop (i + 1) replies)))
    ∙ ap (λ n. saturated (bytes + n))
    (ap (λ r. length r + length (joined (drop (i + 1) replies))) (sym is)
    ∙ sym (length-append (get_or replies i []) (joined (drop (i + 1) replies)))
    ∙ ap (λ l. length (joined l)) (sym (drop_more replies i [] within)))

pub frame_bytes : (frames : List Framed) → length (joined (map bytes_of frames)) ≡ bytes_in frames
frame_bytes [] = refl
frame_bytes (frame ∷ frames) = length-append frame.bytes (joined (map bytes_of frames)) ∙ ap (λ n. length frame.bytes + n) (frame_bytes frames)

-- the rest in hand and the frames, and the replies
pub waiting_bytes : (queue : Queue) (rest held replies : ℕ) → rest ≡ length queue.rest → held ≡ bytes_in queue.frames
    → replies ≡ saturated (length (joined queue.replies)) → saturated (saturated (rest + held) + replies) ≡ saturated (length (bytes_to_leave queue))
waiting_bytes queue rest held replies rest_is held_is replies_is =
    let frames = frame_bytes queue.frames in
    let pieces : length (joined (pieces_of queue)) ≡ length (joined queue.replies) + length (joined (map bytes_of queue.frames)) =
    ap length (flat_map-append (λ piece. piece) queue.replies (map bytes_of queue.frames)) ∙ length-append (joined queue.replies) (joined (map bytes_of queue.frames)) in
    let all = length-append queue.rest (joined (pieces_of queue)) in
    rw all (omega (arith, rest_is, held_is, replies_is, frames, pieces))
