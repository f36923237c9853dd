-- The one spelling of a source's own configuration: each block as it is, with its CFGCNT, and DATA_RATE as its two bytes say it.
use Rattle.std.specs.Prelude.{◌≡◌, ℕ, ◌^◌, ◌<◌, List, map, All}
use Rattle.std.specs.Int.{w16, cast_signed}
use Rattle.pg_wire.specs.declared.kind.Kind.TheVariants.{CfgTwo}
use Rattle.pg_wire.specs.Head.{frame_of}
use Rattle.pg_config.specs.Parts.{Source}
use Rattle.pg_config.specs.Spelling.{body_with}
use Rattle.pg_config.specs.Writing.{reply_heading}

-- by resolution and DATA_RATE's bytes, which all its PMUs have
abbrev pub source_body : ℕ → ℕ → Source → List ℕ
source_body base rate s = body_with base (map (λ p. p.block) s.parts) rate

abbrev pub source_frame : ℕ → ℕ → Source → List ℕ
source_frame base rate s = frame_of (reply_heading CfgTwo s.source 0) (source_body base rate s)

-- These are the source's resolution and rate.
pub record IsOfRate (base rate : ℕ) (s : Source) : Type 0 where
  pub base_fits : base < 2 ^ 24
  pub rate_fits : rate < 2 ^ 16
  pub each : All (λ p. (p.base ≡ base) × (p.rate ≡ cast_signed w16 rate)) s.parts
