-- What is answered to the head of a request.
use Rattle.std.specs.Prelude.{ℕ, ◌+◌, ◌-◌, ◌*◌, ◌&&◌, List, [], ◌∷◌, Bool, true, false, Option, Some, None, option_map, option_and_then, Result, Ok, Err, nat_eq, nat_le, min, take, drop, codes, if◌then◌else◌}
use Rattle.std.specs.Char.{is_ascii_digit}
use Rattle.std.specs.List.{position}
use Rattle.std.specs.Str.{bytes_eq}
use Rattle.pg_status.specs.declared.request.Shown.{Shown}
use Rattle.pg_status.specs.declared.request.Shown.TheVariants.{Page, State, Metrics, Health}
use Rattle.pg_status.specs.declared.request.HttpError.{HttpError}
use Rattle.pg_status.specs.declared.request.HttpError.TheVariants.{NotFound, Method, Within}
use Rattle.pg_status.specs.declared.request.Request.{Request}
use Rattle.pg_status.specs.declared.request.Request.TheVariants.{Show, Deny}

-- where the first question mark is, 63
abbrev pub question_mark_in : List ℕ → Option ℕ
question_mark_in target = position (λ byte. nat_eq byte 63) target

-- the bytes before a place, or all of them
abbrev pub before : Option ℕ → List ℕ → List ℕ
before None bytes = bytes
before (Some place) bytes = take place bytes

-- the path of a target: what stands before its first question mark
abbrev pub path_in : List ℕ → List ℕ
path_in target = before (question_mark_in target) target

-- what stands behind its first question mark
abbrev pub query_in : List ℕ → Option (List ℕ)
query_in target = option_map (λ place. drop (place + 1) target) (question_mark_in target)

-- ---- `/health?within=SECONDS`

-- decimal digits behind a number; one above 99,999 counts as that
abbrev pub number_from : ℕ → List ℕ → Option ℕ
number_from n [] = Some n
number_from n (byte ∷ bytes) = if is_ascii_digit byte then number_from (min (n * 10 + (byte - 48)) 99999) bytes else None

-- one digit at least
abbrev pub number_in : List ℕ → Option ℕ
number_in [] = None
number_in (byte ∷ bytes) = number_from 0 (byte ∷ bytes)

-- a second to a day
abbrev pub is_within : ℕ → Bool
is_within seconds = nat_le 1 seconds && nat_le seconds 86400

abbrev pub health_within : Option ℕ → Result Shown HttpError
health_within None = Err Within
health_within (Some seconds) = if is_within seconds then Ok (Health seconds) else Err Within

-- what stands behind `within=`
abbrev pub digits_in : List ℕ → Option (List ℕ)
digits_in query = if bytes_eq (take 7 query) (codes "within=") then Some (drop 7 query) else None

-- 10 seconds where nothing is said
abbrev pub health_by : Option (List ℕ) → Result Shown HttpError
health_by None = Ok (Health 10)
health_by (Some query) = health_within (option_and_then number_in (digits_in query))

-- ---- what is shown

-- at a path, with what stands behind the question mark
abbrev pub shown_by : List ℕ → Option (List ℕ) → Result Shown HttpError
shown_by path query =
    (if bytes_eq path (codes "/") then Ok Page
    else (if bytes_eq path (codes "/state") then Ok State
    else (if bytes_eq path (codes "/metrics") then Ok Metrics
    else (if bytes_eq path (codes "/health") then health_by query else Err NotFound))))

abbrev pub found : Bool → Result Shown HttpError → Request
found is_head (Err denial) = Deny denial is_head
found is_head (Ok shown) = Show shown is_head

abbrev pub asked : Bool → List ℕ → Request
asked is_head target = found is_head (shown_by (path_in target) (query_in target))

-- what is answered to a method and a target: GET asks for all, HEAD for the head of the answer alone
abbrev pub answered : List ℕ → List ℕ → Request
answered method target =
    (if bytes_eq method (codes "GET") then asked false target
    else (if bytes_eq method (codes "HEAD") then asked true target else Deny Method false))
