-- FREQ and DFREQ of data blocks (C37.118.2, 6.3): millihertz from the nominal frequency, and hundredths of a hertz per second.
use Rattle.std.specs.Prelude.{ℕ, ◌%◌, ℤ, pos, negsuc, int_lt, ◌==◌, List, replicate, slice_set, slice_index_or, Option, Some, None, if◌then◌else◌}
use Rattle.std.specs.Int.{int_max, int_min}
use Rattle.std.specs.Ordering.{int_eq}
use Rattle.pg_quality.specs.declared.frequency.Band.{Band}
use Rattle.pg_quality.specs.declared.frequency.FrequencyRow.{FrequencyRow}
use Rattle.pg_quality.specs.declared.frequency.Frequency.{Frequency}

-- no value, and one more value
abbrev pub no_band : Band
no_band = record { least = pos 32767; greatest = negsuc 32767 }

abbrev pub band_with : Band → ℤ → Band
band_with b freq = record { least = int_min b.least freq; greatest = int_max b.greatest freq }

-- FREQ -32,768 says that there is none
abbrev pub band_if_any : Band → ℤ → Band
band_if_any b freq = if int_eq freq (negsuc 32767) then b else band_with b freq

-- a band, where it has a value
abbrev pub band_of : Band → Option Band
band_of b = if int_lt b.greatest b.least then None else Some b

abbrev pub no_row : FrequencyRow
no_row = record { second = 0; band = no_band }

abbrev pub no_frequency : Frequency
no_frequency = record { freq = negsuc 32767; dfreq = negsuc 32767; second = 0; current = no_band; rows = replicate 300 no_row }

-- another second begins: the band of the one before is filed at its number mod 300
abbrev pub rolled : Frequency → ℕ → Frequency
rolled f second = record f {
  second = second;
  current = no_band;
  rows = slice_set f.rows (f.second % 300) (record { second = f.second; band = f.current });
}

abbrev pub at_second : Frequency → ℕ → Frequency
at_second f second = if second == f.second then f else rolled f second

-- a block came with these values
abbrev pub noted : Frequency → ℤ → ℤ → Frequency
noted f freq dfreq = record f { freq = freq; dfreq = dfreq; current = band_if_any f.current freq }

abbrev pub row_at : List FrequencyRow → ℕ → FrequencyRow
row_at rows second = slice_index_or rows (second % 300) no_row

-- the band of a second that is over, where it is kept and has a value
abbrev pub filed_at : Frequency → ℕ → Option Band
filed_at f second = if (row_at f.rows second).second == second then band_of (row_at f.rows second).band else None
