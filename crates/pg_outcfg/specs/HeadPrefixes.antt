-- The prefix of a data frame's head: what stands before its stamp.
use Rattle.std.specs.Prelude.{ℕ, List, ◌∷◌, ◌++◌, replicate}
use Rattle.std.specs.Int.{w16, to_be_bytes}

-- the IDCODE and FRAMESIZE that it tells
pub record HeadPrefixValue : Type 0 where
  pub id : ℕ
  pub size : ℕ

-- its bytes: SYNC of a data frame by the edition of 2011, FRAMESIZE, IDCODE
abbrev pub prefix_bytes : HeadPrefixValue → List ℕ
prefix_bytes f = 0xAA ∷ 0x02 ∷ to_be_bytes w16 f.size ++ to_be_bytes w16 f.id

-- what stands in the place of a stamp that is not known yet
abbrev pub no_stamp : List ℕ
no_stamp = replicate 8 0
