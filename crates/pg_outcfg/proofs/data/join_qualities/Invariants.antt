use Rattle.std.proofs.Common.{◌≡◌, ◌≤◌, take}
use Rattle.std.specs.Int.Bits.{bit_or}
use Rattle.pg_outcfg.specs.Quality.{leap_flags, quality_code, joined_flags, greatest_code}
use Rattle.pg_outcfg.specs.Frames.{qualities_of}
use Rattle.pg_outcfg.proofs.data.join_qualities.Given as goal

-- the quality of the last block is joined already; 0 adds nothing before the first
abbrev pub invariant-loop-part : goal.invariant-loop-part
invariant-loop-part l = record {
  flags : l.flags ≡ joined_flags (qualities_of (take l.part-index l.parts));
  code : l.code ≡ greatest_code (qualities_of (take l.part-index l.parts));
  has_flags : bit_or l.flags (leap_flags l.last) ≡ l.flags;
  has_code : quality_code l.last ≤ l.code;
}
