-- Keys of a setup that need a new start.
use Rattle.std.specs.Prelude.{ℕ, ◌==◌, ◌&&◌, ◌++◌, Bool, List, [], ◌∷◌, Option, option_map, if◌then◌else◌, string_bytes}
use Rattle.std.specs.Option.{option_eq}
use Rattle.std.specs.Str.{bytes_eq}
use Rattle.pg_operator.specs.declared.setup.Setup.{Setup}
use Rattle.pg_lines.specs.Addresses.{Endpoint, endpoint}
use Rattle.pg_lines.specs.Words.{Text}
use Rattle.pg_setup.specs.declared.restarts.Restart.{Restart}
use Rattle.pg_setup.specs.declared.restarts.Restart.TheVariants.{TickMs, Ingest, Serve, Control, Status, Name, Record, RecordMb, RecordHours}

-- the values of these keys
pub record Keys : Type 0 where
  pub tick_ms : ℕ
  pub ingest : ℕ
  pub serve : ℕ
  pub control : Option Text
  pub status : Option Endpoint
  pub name : Option Text
  pub record_folder : Option Text
  pub record_mb : ℕ
  pub record_hours : ℕ

abbrev pub keys_of : Setup → Keys
keys_of s = record {
  tick_ms = s.tick_ms;
  ingest = s.ingest;
  serve = s.serve;
  control = option_map (λ path. string_bytes path) s.control;
  status = option_map endpoint s.status;
  name = option_map (λ name. string_bytes name) s.name;
  record_folder = option_map (λ path. string_bytes path) s.record_folder;
  record_mb = s.record_mb;
  record_hours = s.record_hours;
}

-- the host and the port are the same
abbrev pub endpoint_eq : Endpoint → Endpoint → Bool
endpoint_eq a b = a.0 == b.0 && a.1 == b.1

-- a key is reported where its two values differ
abbrev pub told_unless : Bool → Restart → List Restart
told_unless is_same key = if is_same then [] else key ∷ []

abbrev pub restarts_between : Keys → Keys → List Restart
restarts_between old new =
    (((((((told_unless (old.tick_ms == new.tick_ms) TickMs ++ told_unless (old.ingest == new.ingest) Ingest) ++ told_unless (old.serve == new.serve) Serve)
    ++ told_unless (option_eq bytes_eq old.control new.control) Control) ++ told_unless (option_eq endpoint_eq old.status new.status) Status)
    ++ told_unless (option_eq bytes_eq old.name new.name) Name) ++ told_unless (option_eq bytes_eq old.record_folder new.record_folder) Record)
    ++ told_unless (old.record_mb == new.record_mb) RecordMb) ++ told_unless (old.record_hours == new.record_hours) RecordHours
