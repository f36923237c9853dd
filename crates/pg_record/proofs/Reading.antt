-- Numbers and records that were written are read, whatever stands behind them.
use Rattle.std.proofs.Common.{◌≡◌, ℕ, suc, ◌^◌, ◌<◌, ◌≤◌, ◌+◌, List, [], ◌∷◌, ◌++◌, length, take, drop, refl, ap, ap₂, ◌∙◌, sym, subst, Bool, true, false, if◌then◌else◌, Option, Some, None, append_assoc, arith, rules}
use Rattle.std.specs.Prelude.{nat_lt, option_and_then, option_map}
use Rattle.std.specs.Int.{w16, w32, w64, to_be_bytes, from_be_bytes}
use Rattle.std.proofs.lemmas.Bool.Decides.{nat_tests}
use Rattle.std.proofs.lemmas.Nat.{from_be_bytes-to_be_bytes_2, from_be_bytes-to_be_bytes_4, from_be_bytes-to_be_bytes_8}
use Rattle.pg_record.specs.Numbers.{one_in, two_in, four_in, eight_in}
use Rattle.pg_record.specs.Records.{kind_number, kind_of, start_bytes, end_bytes, record_bytes, Fits, many_in, record_in, with_sum, with_handed, with_answer, with_at, with_place, with_body, with_size, with_number, with_kind, with_first}
use Rattle.pg_record.specs.Blocks.{magic, HeadFits, head_bytes, head_in, with_name, with_worker, with_start}
use Rattle.pg_record.specs.Blocks as block
use Rattle.pg_record.specs.declared.record.Record.{Record}
use Rattle.pg_record.specs.declared.record.RecordKind.{RecordKind}
use Rattle.pg_record.specs.declared.record.RecordKind.TheVariants.{Measurement, Configuration, Command, Edit, Tick, Connect, Hangup, Drain, Question, Unspelled}
use Rattle.pg_record.specs.declared.block.BlockHead.{BlockHead}

not_less : (m n : ℕ) → n ≤ m → nat_lt m n ≡ false
not_less m n le = grind (arith, nat_tests)

two_more : (n : ℕ) → 2 ≤ suc (suc n)
two_more n = omega arith

four_more : (n : ℕ) → 4 ≤ suc (suc (suc (suc n)))
four_more n = omega arith

eight_more : (n : ℕ) → 8 ≤ suc (suc (suc (suc (suc (suc (suc (suc n)))))))
eight_more n = omega arith

pub two_reads : (n : ℕ) (rest : List ℕ) → n < 2 ^ 16 → two_in (to_be_bytes w16 n ++ rest) ≡ Some (n, rest)
two_reads n rest small =
    ap (λ (less : Bool). if less then None else Some (from_be_bytes w16 (take 2 (to_be_bytes w16 n ++ rest)), drop 2 (to_be_bytes w16 n ++ rest)))
    (not_less (length (to_be_bytes w16 n ++ rest)) 2 (two_more (length rest)))
    ∙ ap (λ (k : ℕ). Some (k, rest)) (from_be_bytes-to_be_bytes_2 n small)

pub four_reads : (n : ℕ) (rest : List ℕ) → n < 2 ^ 32 → four_in (to_be_bytes w32 n ++ rest) ≡ Some (n, rest)
four_reads n rest small =
    ap (λ (less : Bool). if less then None else Some (from_be_bytes w32 (take 4 (to_be_bytes w32 n ++ rest)), drop 4 (to_be_bytes w32 n ++ rest)))
    (not_less (length (to_be_bytes w32 n ++ rest)) 4 (four_more (length rest)))
    ∙ ap (λ (k : ℕ). Some (k, rest)) (from_be_bytes-to_be_bytes_4 n small)

pub eight_reads : (n : ℕ) (rest : List ℕ) → n < 2 ^ 64 → eight_in (to_be_bytes w64 n ++ rest) ≡ Some (n, rest)
eight_reads n rest small =
    ap (λ (less : Bool). if less then None else Some (from_be_bytes w64 (take 8 (to_be_bytes w64 n ++ rest)), drop 8 (to_be_bytes w64 n ++ rest)))
    (not_less (length (to_be_bytes w64 n ++ rest)) 8 (eight_more (length rest)))
    ∙ ap (λ (k : ℕ). Some (k, rest)) (from_be_bytes-to_be_bytes_8 n small)

as_long : (body rest : List ℕ) → length body ≤ length (body ++ rest)
as_long [] rest = omega arith
as_long (b ∷ body) rest = let more = as_long body rest in omega arith

no_less : (body rest : List ℕ) → nat_lt (length (body ++ rest)) (length body) ≡ false
no_less body rest = not_less _ _ (as_long body rest)

taken : (body rest : List ℕ) → take (length body) (body ++ rest) ≡ body
taken [] rest = refl
taken (b ∷ body) rest = ap (λ l. b ∷ l) (taken body rest)

dropped : (body rest : List ℕ) → drop (length body) (body ++ rest) ≡ rest
dropped [] rest = refl
dropped (b ∷ body) rest = dropped body rest

many_reads : (body rest : List ℕ) → many_in (length body) (body ++ rest) ≡ Some (body, rest)
many_reads body rest =
    ap (λ (less : Bool). if less then None else Some (take (length body) (body ++ rest), drop (length body) (body ++ rest))) (no_less body rest)
    ∙ ap₂ (λ a b. Some (a, b)) (taken body rest) (dropped body rest)

kind_reads : (kind : RecordKind) → kind_of (kind_number kind) ≡ Some kind
kind_reads Measurement = refl
kind_reads Configuration = refl
kind_reads Command = refl
kind_reads Edit = refl
kind_reads Tick = refl
kind_reads Connect = refl
kind_reads Hangup = refl
kind_reads Drain = refl
kind_reads Question = refl
kind_reads Unspelled = refl

pub record_reads : (r : Record) (body rest : List ℕ) → Fits r body → record_in (record_bytes r body ++ rest) ≡ Some (r, body, rest)
record_reads r body rest fits =
    let four = to_be_bytes w32 r.sum ++ rest in
    let handed = to_be_bytes w16 r.handed ++ four in
    let at = to_be_bytes w16 r.at ++ r.answer ∷ handed in
    let end = to_be_bytes w64 r.place ++ at in
    ap (λ l. record_in (start_bytes r.kind r.number (length body) ++ l)) (append_assoc body (end_bytes r) rest)
    ∙ ap (option_and_then (with_kind (to_be_bytes w16 r.number ++ to_be_bytes w16 (length body) ++ body ++ end))) (kind_reads r.kind)
    ∙ ap (option_and_then (with_number r.kind)) (two_reads r.number (to_be_bytes w16 (length body) ++ body ++ end) fits.number)
    ∙ ap (option_and_then (with_size r.kind r.number)) (two_reads (length body) (body ++ end) fits.size)
    ∙ ap (option_and_then (with_body r.kind r.number)) (many_reads body end)
    ∙ ap (option_and_then (with_place r.kind r.number body)) (eight_reads r.place at fits.place)
    ∙ ap (option_and_then (with_at r.kind r.number body r.place)) (two_reads r.at (r.answer ∷ handed) fits.at)
    ∙ ap (option_and_then (with_handed r.kind r.number body r.place r.at r.answer)) (two_reads r.handed four fits.handed)
    ∙ ap (option_map (with_sum r.kind r.number body r.place r.at r.answer r.handed)) (four_reads r.sum rest fits.sum)

pub head_reads : (h : BlockHead) (rest : List ℕ) → HeadFits h → head_in (head_bytes h ++ rest) ≡ Some (h, rest)
head_reads h rest fits =
    let sum = to_be_bytes w64 h.sum ++ rest in
    let start = to_be_bytes w64 h.start ++ sum in
    let size = to_be_bytes w32 h.size ++ start in
    let worker = to_be_bytes w16 h.worker ++ size in
    ap (option_and_then with_name) (eight_reads magic worker (search rules))
    ∙ ap (option_and_then with_worker) (two_reads h.worker size fits.worker)
    ∙ ap (option_and_then (block.with_size h.worker)) (four_reads h.size start fits.size)
    ∙ ap (option_and_then (with_start h.worker h.size)) (eight_reads h.start sum fits.start)
    ∙ ap (option_map (block.with_sum h.worker h.size h.start)) (eight_reads h.sum rest fits.sum)
