-- What stands for a missing data block.
use Rattle.std.specs.Prelude.{ℕ, zero, suc, ◌*◌, List, [], ◌++◌}
use Rattle.std.specs.Int.{w16, to_be_bytes}
use Rattle.pg_config.specs.Parts.{Part}

-- that many words of one value
abbrev pub words : ℕ → ℕ → List ℕ
words zero value = []
words (suc n) value = to_be_bytes w16 value ++ words n value

-- STAT, the phasors of two words each, FREQ, DFREQ, the analog values and the digital words
abbrev pub filler_of : Part → List ℕ
filler_of p =
    words 1 0x8000 ++ words (2 * p.phasors) 0x8000 ++ words 1 0x8000 ++ words 1 0x8000 ++ words p.analogs 0x8000
    ++ words p.digitals 0
