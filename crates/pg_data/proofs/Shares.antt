-- One PMU's part of a data frame lies in bytes of its own.
use Rattle.std.proofs.Common.{◌≡◌, ℕ, suc, ◌+◌, ◌-◌, ◌<◌, List, length, take, drop, get_or, slice_get, Option, Result, Ok, Err, IfOk, option_map, sym, ap, ap₂, ◌∙◌, add-one, arith}
use Rattle.std.proofs.lemmas.List.{get_or-take, get_or-drop}
use Rattle.std.specs.Arc.{arc_value}
use Rattle.std.specs.declared.sync.Arc.{Arc}
use Rattle.pg_wire.specs.declared.refusal.Refusal.{Refusal}
use Rattle.pg_wire.specs.Head.{two_at, three_at, four_at}
use Rattle.pg_config.specs.Parts.{Part, Source, data_lens}
use Rattle.pg_data.specs.Measurements.{Measurement, block_of}
use Rattle.pg_data.specs.Reading.{SpellsData, IsDataFrame, ReadsAs, data_of}
use Rattle.pg_data.specs.Sharing.{Share, share_of, time_bytes, HasOwnBytes, AgreeOnOne}
use Rattle.pg_data.proofs.Blocks.{lens_within, lens_step, range-of_part}
use Rattle.pg_data.proofs.Spellings.{Passed, Passed-from_read, passed-spelled, body-length, body-sized}

-- each PMU's block is the frame's own bytes at its place
own-read : (config : Source) (frame : List ℕ) → IsDataFrame frame → (m : Measurement) → Passed config frame m → HasOwnBytes config frame m
own-read config frame is m p i low =
    let step = lens_step config.parts i low in
    let within = lens_within config.parts (suc i) in
    let long = body-length frame is.frame in
    let sized = body-sized config frame is.frame p.size in
    let size : length frame ≡ 16 + data_lens config.parts = is.frame.0.size ∙ p.size in
    ap (λ n. block_of n i) (sym p.value)
    ∙ range-of_part frame 14 (length frame - 16) (data_lens (take i config.parts)) (data_lens (take (i + 1) config.parts))
    (rw (add-one i) (omega arith)) (rw (add-one i) (omega arith))

pub own_from : {Z : Type 0} (config : Source) (frame : List ℕ) (r : Result (Arc Measurement Z) Refusal) → IsDataFrame frame
    → ReadsAs r (data_of config frame) → IfOk r (λ v. HasOwnBytes config frame (arc_value v))
own_from config frame (Ok v) is h = own-read config frame is (arc_value v) (Passed-from_read config frame (arc_value v) h)
own_from config frame (Err e) is h = tt

-- one byte among those of the time
time_byte : (frame another : List ℕ) → time_bytes frame ≡ time_bytes another → (k : ℕ) → k < 10 → get_or frame (4 + k) 0 ≡ get_or another (4 + k) 0
time_byte frame another same k low =
    sym (get_or-take 10 (drop 4 frame) k 0 low ∙ get_or-drop 4 frame k 0) ∙ ap (λ xs. get_or xs k 0) same
    ∙ (get_or-take 10 (drop 4 another) k 0 low ∙ get_or-drop 4 another k 0)

abbrev share_with : ℕ → ℕ → ℕ → ℕ → List ℕ → Option Part → Option Share
share_with source soc quality frac block part =
    option_map (λ p. record { source = source; soc = soc; quality = quality; frac = frac; config = p; block = block }) part

pub shares-agree : (config other : Source) (frame another : List ℕ) (m n : Measurement) (i j : ℕ) → SpellsData frame config m → SpellsData another other n
    → AgreeOnOne config other frame another i j → share_of m i ≡ share_of n j
shares-agree config other frame another m n i j s t agree =
    let p = passed-spelled frame config m s in
    let q = passed-spelled another other n t in
    let b4 : get_or frame 4 0 ≡ get_or another 4 0 = time_byte frame another agree.time 0 (omega arith) in
    let b5 : get_or frame 5 0 ≡ get_or another 5 0 = time_byte frame another agree.time 1 (omega arith) in
    let b6 : get_or frame 6 0 ≡ get_or another 6 0 = time_byte frame another agree.time 2 (omega arith) in
    let b7 : get_or frame 7 0 ≡ get_or another 7 0 = time_byte frame another agree.time 3 (omega arith) in
    let b8 : get_or frame 8 0 ≡ get_or another 8 0 = time_byte frame another agree.time 4 (omega arith) in
    let b9 : get_or frame 9 0 ≡ get_or another 9 0 = time_byte frame another agree.time 5 (omega arith) in
    let b10 : get_or frame 10 0 ≡ get_or another 10 0 = time_byte frame another agree.time 6 (omega arith) in
    let b11 : get_or frame 11 0 ≡ get_or another 11 0 = time_byte frame another agree.time 7 (omega arith) in
    let b12 : get_or frame 12 0 ≡ get_or another 12 0 = time_byte frame another agree.time 8 (omega arith) in
    let b13 : get_or frame 13 0 ≡ get_or another 13 0 = time_byte frame another agree.time 9 (omega arith) in
    let source : two_at frame 4 ≡ two_at another 4 = omega arith in
    let soc : four_at frame 6 ≡ four_at another 6 = omega arith in
    let frac : three_at frame 11 ≡ three_at another 11 = omega arith in
    let block : block_of m i ≡ block_of n j =
    own-read config frame p.0 m p.1 i agree.here ∙ agree.block ∙ sym (own-read other another q.0 n q.1 j agree.there) in
    let here : share_of m i ≡ share_with (two_at frame 4) (four_at frame 6) (get_or frame 10 0) (three_at frame 11) (block_of m i) (slice_get config.parts i) =
    ap (λ v. share_with v.source v.soc v.quality v.frac (block_of m i) (slice_get v.config.parts i)) (sym p.1.value) in
    let there : share_of n j ≡ share_with (two_at another 4) (four_at another 6) (get_or another 10 0) (three_at another 11) (block_of n j) (slice_get other.parts j) =
    ap (λ v. share_with v.source v.soc v.quality v.frac (block_of n j) (slice_get v.config.parts j)) (sym q.1.value) in
    here
    ∙ ap (λ x. share_with x (four_at frame 6) (get_or frame 10 0) (three_at frame 11) (block_of m i) (slice_get config.parts i)) source
    ∙ ap (λ x. share_with (two_at another 4) x (get_or frame 10 0) (three_at frame 11) (block_of m i) (slice_get config.parts i)) soc
    ∙ ap (λ x. share_with (two_at another 4) (four_at another 6) x (three_at frame 11) (block_of m i) (slice_get config.parts i)) b10
    ∙ ap (λ x. share_with (two_at another 4) (four_at another 6) (get_or another 10 0) x (block_of m i) (slice_get config.parts i)) frac
    ∙ ap₂ (λ x y. share_with (two_at another 4) (four_at another 6) (get_or another 10 0) (three_at another 11) x y) block agree.part
    ∙ sym there
