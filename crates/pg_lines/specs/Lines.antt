-- What an operator's line asks for.
use Rattle.std.specs.Prelude.{ℕ, ◌==◌, ◌&&◌, Bool, true, not, List, [], ◌∷◌, length, Option, Some, None, option_map, option_and_then, if◌then◌else◌, nat_le, codes, filter}
use Rattle.std.specs.List.{list_all, slice_split}
use Rattle.std.specs.Str.{bytes_eq}
use Rattle.pg_wire.specs.declared.ids.PmuKey.{PmuKey}
use Rattle.pg_stream.specs.declared.definition.Definition.{Definition}
use Rattle.pg_gateway.specs.declared.edit.Edit.{Edit}
use Rattle.pg_gateway.specs.declared.edit.Edit.TheVariants.{AddPmu, DropPmu, AddSub, DropSub, Grant, Revoke, Define, Remove, Stats, PmuStats, Audit}
use Rattle.pg_lines.specs.declared.verb.Verb.{Verb}
use Rattle.pg_lines.specs.declared.verb.Verb.TheVariants as verb
use Rattle.pg_lines.specs.Words.{Text, number_in, stream_id_in, subscriber_in, ring_size_in, ring_bytes_in, key_in, hex_in}
use Rattle.pg_lines.specs.Verbs.{verb_of}

-- the words of a line: what stands between spaces (32)
abbrev pub words_of : Text → List Text
words_of line = filter (λ w. not (length w == 0)) (slice_split (λ b. b == 32) line)

-- no word may begin with a hyphen (45)
abbrev pub is_plain : Text → Bool
is_plain [] = true
is_plain (b ∷ bs) = not (b == 45)

abbrev pub all_plain : List Text → Bool
all_plain = list_all is_plain

-- one word alone, and two
abbrev pub one : {X : Type 0} → (Text → Option X) → List Text → Option X
one read (w ∷ []) = read w
one read _ = None

abbrev pub two : {X Y : Type 0} → (Text → Option X) → (Text → Option Y) → List Text → Option (X × Y)
two read next (w ∷ x ∷ []) = option_and_then (λ a. option_map (λ b. (a, b)) (next x)) (read w)
two read next _ = None

-- BYTES, or without it 16,777,216
abbrev pub limit_in : List Text → Option ℕ
limit_in [] = Some 16777216
limit_in (w ∷ []) = ring_bytes_in w
limit_in _ = None

-- `U RING` and `U RING BYTES`
abbrev pub add_sub : List Text → Option Edit
add_sub (u ∷ ring ∷ rest) = option_and_then (λ id. option_and_then (λ size. option_map (AddSub id size) (limit_in rest)) (ring_size_in ring)) (subscriber_in u)
add_sub _ = None

-- `none` for the empty text, else the text in hexadecimal
abbrev pub header_in : Text → Option (List ℕ)
header_in w = if bytes_eq (codes "none") w then Some [] else hex_in w

-- each word is a key
abbrev pub keys_in : List Text → Option (List PmuKey)
keys_in [] = Some []
keys_in (w ∷ ws) = option_and_then (λ key. option_map (λ keys. key ∷ keys) (keys_in ws)) (key_in w)

-- one to 32 keys
abbrev pub members_in : List Text → Option (List PmuKey)
members_in ws = if nat_le 1 (length ws) && nat_le (length ws) 32 then keys_in ws else None

-- BASE, WAIT and WINDOW
abbrev pub wide_in : Text → Option ℕ
wide_in = number_in 0 4294967295

-- STREAM RATE BASE WAIT WINDOW, of a definition with this header and these members
abbrev pub numbers_in : Text → Text → Text → Text → Text → Option (List ℕ → List PmuKey → Definition)
numbers_in stream rate base wait window =
    option_and_then (λ s. option_and_then (λ r. option_and_then (λ b. option_and_then (λ t. option_map
    (λ w header members. record { stream = s; rate = r; base = b; wait = t; window = w; header = header; members = members })
    (wide_in window)) (wide_in wait)) (wide_in base)) (number_in 0 255 rate)) (stream_id_in stream)

-- `U STREAM RATE BASE WAIT WINDOW HEADER MEMBER..`
abbrev pub define : List Text → Option Edit
define (u ∷ stream ∷ rate ∷ base ∷ wait ∷ window ∷ header ∷ members) =
    option_and_then (λ id. option_and_then (λ made. option_and_then (λ text. option_map (λ keys. Define id (made text keys))
    (members_in members)) (header_in header)) (numbers_in stream rate base wait window)) (subscriber_in u)
define _ = None

-- the edit that a verb makes of the words after it
abbrev pub edit_by : Verb → List Text → Option Edit
edit_by verb.AddPmu ws = option_map AddPmu (one key_in ws)
edit_by verb.DropPmu ws = option_map DropPmu (one key_in ws)
edit_by verb.AddSub ws = add_sub ws
edit_by verb.DropSub ws = option_map DropSub (one subscriber_in ws)
edit_by verb.Grant ws = option_map (λ p. Grant p.0 p.1) (two subscriber_in key_in ws)
edit_by verb.Revoke ws = option_map (λ p. Revoke p.0 p.1) (two subscriber_in key_in ws)
edit_by verb.Define ws = define ws
edit_by verb.Remove ws = option_map (λ p. Remove p.0 p.1) (two subscriber_in stream_id_in ws)
edit_by verb.Stats ws = option_map Stats (one subscriber_in ws)
edit_by verb.PmuStats ws = option_map PmuStats (one key_in ws)
edit_by verb.Audit ws = option_map (λ p. Audit p.0 p.1) (two subscriber_in (number_in 0 63) ws)

-- the edit of a verb, as it is written, and the words after it
abbrev pub edit_asked : Text → List Text → Option Edit
edit_asked word ws = option_and_then (λ v. edit_by v ws) (verb_of word)

-- the edit that words ask for: a verb, and what it takes
abbrev pub edit_of_words : List Text → Option Edit
edit_of_words [] = None
edit_of_words (word ∷ ws) = edit_asked word ws

-- the edit that a line asks for, or none
abbrev pub edit_of : Text → Option Edit
edit_of line = if all_plain (words_of line) then edit_of_words (words_of line) else None
