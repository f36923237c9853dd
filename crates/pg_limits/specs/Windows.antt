-- By which layouts the reader of a connection reads a stream, and what is done where they change. A data frame does not say which blocks it
-- carries: its reader knows that by the last CFG-2.
--
-- Of one stream of a connection the WINDOW is its layouts from number `floor` to number `newest`. Its reader reads by one of them, and each of
-- its frames that waits is of one of them. It is safe where no two of them have data frames of one length.
use Rattle.std.specs.Prelude.{ℕ, ◌==◌, nat_le, max, Bool, true, false, ◌&&◌, ◌||◌, not, Option, Some, None, is_some, if◌then◌else◌}
use Rattle.std.specs.Option.{option_map_or}
use Rattle.pg_limits.specs.Layouts.{are_unlike}
use Rattle.pg_limits.specs.Switched.{find}
use Rattle.pg_limits.specs.declared.layouts.OnChange.{OnChange}
use Rattle.pg_limits.specs.declared.layouts.OnChange.TheVariants.{Safe, HangUp, Keep}
use Rattle.pg_limits.specs.declared.known_layout.FoundStream.{FoundStream}
use Rattle.pg_limits.specs.declared.known_layout.KnownLayout.{KnownLayout}
use Rattle.pg_limits.specs.declared.known_layout.ServedOnce.{ServedOnce}
use Rattle.pg_limits.specs.declared.known_layout.Verdict.{Verdict}
use Rattle.pg_limits.specs.declared.known_layout.Verdict.TheVariants.{Nothing, AskAgain, SendConfig, Disconnect}

-- a stream that was not asked about
abbrev pub unknown : ℕ → KnownLayout
unknown stream = record {
  stream = stream;
  definition = 0;
  floor = 0;
  newest = 0;
  is_read = false;
  is_started = false;
  is_idle = true;
  owes_config = false;
  resumes = false;
  next_floor = None;
}

-- ---- the window

-- it begins anew with the layout that was found
abbrev pub begun_at : FoundStream → KnownLayout → KnownLayout
begun_at f k = record k { definition = f.definition; floor = f.layout; newest = f.layout; owes_config = false; next_floor = None }

-- it grows up to the layout that was found, whose CFG-2 is to be put among the replies
abbrev pub grown_to : FoundStream → KnownLayout → KnownLayout
grown_to f k = record k { newest = f.layout; owes_config = true }

-- A drain ended. Where it handed out all that waited, what comes behind it is of the newest layout or a later one, unless a CFG-2 is owed: so
-- far the floor may rise once what was drained is found to be safe.
abbrev pub drained : Bool → KnownLayout → KnownLayout
drained is_emptied k = record k { next_floor = if is_emptied && not k.owes_config then Some k.newest else None }

-- what was drained is safe: the floor rises
abbrev pub settled : KnownLayout → KnownLayout
settled k = record k { floor = option_map_or (max k.floor) k.next_floor k.floor; next_floor = None }

-- ---- what its reader commanded

-- the stream was started or stopped
abbrev pub switched_by : Option Bool → KnownLayout → KnownLayout
switched_by None k = k
switched_by (Some is_on) k = record k { is_read = true; is_started = is_on; is_idle = false; resumes = false }

-- its CFG-2 was handed out
abbrev pub configured_by : Bool → KnownLayout → KnownLayout
configured_by false k = k
configured_by true k = record k { is_read = true; owes_config = false }

-- of a stream that is stopped nothing waits once all was handed out
abbrev pub idle_by : Bool → KnownLayout → KnownLayout
idle_by is_emptied k = record k { is_idle = k.is_idle || (is_emptied && not k.is_started) }

abbrev pub is_configured : ServedOnce → KnownLayout → Bool
is_configured s k = is_some (find k.stream s.configured)

abbrev pub noted : ServedOnce → KnownLayout → KnownLayout
noted s k = idle_by s.is_emptied (configured_by (is_configured s k) (switched_by (find k.stream s.switched) k))

-- ---- what is to be done

-- nothing changed since the last answer
abbrev pub is_at : FoundStream → KnownLayout → Bool
is_at f k = k.definition == f.definition && k.newest == f.layout

-- the window is safe, were it to grow up to the layout that was found
abbrev pub is_unlike : FoundStream → KnownLayout → Bool
is_unlike f k = k.definition == f.definition && (nat_le k.floor f.layout && are_unlike f.lengths k.floor f.layout)

abbrev pub is_safe : OnChange → Bool
is_safe Safe = true
is_safe HangUp = false
is_safe Keep = false

abbrev pub is_keep : OnChange → Bool
is_keep Keep = true
is_keep Safe = false
is_keep HangUp = false

-- All that its reader reads from now on is of the layout that was found. Where nothing changed meanwhile, that is so where it was not read
-- before; and where its CFG-2 was handed out, unless a frame of another layout came behind that which is as long.
abbrev pub reads_anew : FoundStream → ServedOnce → OnChange → KnownLayout → Bool
reads_anew f s rule k =
    s.is_quiet && (not k.is_read || (is_configured s k && (k.is_idle || (s.is_emptied && (is_at f k || (is_safe rule && is_unlike f k))))))

-- its layout changed, and its reader reads it: the window grows where it stays safe
abbrev pub judged_read : FoundStream → OnChange → KnownLayout → KnownLayout × Verdict
judged_read f rule k = if is_safe rule && is_unlike f k then (grown_to f k, SendConfig) else (k, Disconnect)

-- none of its frames waited before it was served, and it was not started or stopped meanwhile: so no frame of it was handed out
abbrev pub was_idle : ServedOnce → KnownLayout → Bool
was_idle s k = k.is_idle && not (is_some (find k.stream s.switched))

-- Its layout changed, and it is off. Where frames of it were handed out or may wait, it is as if it was on. One that was removed before it was found
-- off makes no frame: where nothing changed meanwhile, none waits.
abbrev pub judged_off : FoundStream → ServedOnce → Bool → KnownLayout → KnownLayout × Verdict
judged_off f s idle k =
    if k.definition == f.definition then (k, (if idle || is_unlike f k then AskAgain else Disconnect))
    else (record k { is_idle = k.is_idle || (s.is_emptied && s.is_quiet) }, AskAgain)

-- what is known behind what was served, and what is to be done
abbrev pub judged_noted : FoundStream → ServedOnce → OnChange → Bool → Bool → KnownLayout → KnownLayout × Verdict
judged_noted f s rule begins idle k =
    if begins || not k.is_read then (begun_at f k, Nothing)
    else if is_at f k then (k, Nothing)
    else if f.is_on || is_configured s k then judged_read f rule k
    else judged_off f s idle k

abbrev pub judged : FoundStream → ServedOnce → OnChange → KnownLayout → KnownLayout × Verdict
judged f s rule k = judged_noted f s rule (is_keep rule || reads_anew f s rule k) (was_idle s k) (noted s k)

-- ---- a stream that was defined anew

-- it is to be started again where its reader had started it
abbrev pub resuming : KnownLayout → KnownLayout
resuming k = record k { resumes = k.is_started }

-- it is started again behind its CFG-2, while nothing waits
abbrev pub resumed : FoundStream → KnownLayout → KnownLayout
resumed f k = record (begun_at f k) { is_read = true; is_started = true; is_idle = false; resumes = false }
