use Rattle.std.proofs.Common.{◌≡◌, ◌≢◌, ℕ, List, ◌++◌, All, length, drop, refl, sym, ap, subst, ◌∙◌, rules, true, Ok, le_refl, drop_of_length-le}
use lib.Seq.{drop-append-le}
use Rattle.std.proofs.lemmas.List.Elements.{All-append}
use Rattle.std.specs.Io.{StartsWith}
use Rattle.std.proofs.KnownBytes.{starts_with_rest, Consumes-nil, Consumes-more}
use Rattle.std.proofs.BufReadLemmas.{Consumes_through}
use Rattle.std.specs.Io.BufRead.{take_through}
use Rattle.std.specs.Prelude.{Option, Some, None, IfSome}
use Rattle.std.specs.Io.KnownBytes.{Consumes}
use Rattle.std.proofs.Transfers.{starts_with_of_eq, starts_with_trans, starts_with_length, All-of_none_appended}
use Rattle.pg_replay.proofs.reading.read_line_bytes.Goals as goal

if_some_weaken : {A : Type 0} (o : Option A) (P Q : A → Type 0) → ((x : A) → P x → Q x) → IfSome o P → IfSome o Q
if_some_weaken (Some x) P Q f p = f x p
if_some_weaken None P Q f p = p

-- what two calls appended, one after the other
past_both : (old mid new : List ℕ) → StartsWith mid old → StartsWith new mid → drop (length old) new ≡ drop (length old) mid ++ drop (length mid) new
past_both old mid new p q = ap (drop (length old)) (starts_with_rest new mid q) ∙ drop-append-le (length old) mid _ (starts_with_length mid old p)

pub turns-init : goal.turns-init
turns-init g c = (search rules, search rules, starts_with_of_eq _ _ refl, All-of_none_appended c.args.buf.now.items _ _ refl, subst (Consumes _ _) (sym (drop_of_length-le c.args.buf.now.items (le_refl _))) (Consumes-nil _))

pub turns-preserved : goal.turns-preserved
turns-preserved g c =
    let step = c.append_piece.ensures in (
      search rules,
      search rules,
      starts_with_trans _ _ _ step.appends c.turns.invariant.2,
      subst (All (λ x. x ≢ 10)) (sym (past_both _ _ _ c.turns.invariant.2 step.appends)) (All-append (λ x. x ≢ 10) _ _ c.turns.invariant.3 (step.no_byte_unless_done (search rules))),
      Consumes-more _ _ _ _ _ _ c.turns.invariant.2 step.appends c.turns.invariant.4 step.bytes,
    )

pub returns-in_err-append_piece : goal.returns-in_err-append_piece
returns-in_err-append_piece g c =
    let step = c.append_piece.ensures in
    record {
      ok = search rules;
      bytes = search rules;
      rest = search rules;
    }

pub returns-then-branch : goal.returns-then-branch
returns-then-branch g c =
    let step = c.append_piece.ensures in
    let done : c.append_piece.result ≡ Ok true = search rules in
    let read = Consumes_through 10 _ _ _ _ _ c.turns.invariant.4 c.turns.invariant.3 step.bytes step.stops (step.done_at_byte_or_end done) (step.end done) in
    let old = c.args.buf.now.items in
    let whole = starts_with_rest _ _ (starts_with_trans _ _ _ step.appends c.turns.invariant.2) ∙ ap (λ l. old ++ l) (past_both _ _ _ c.turns.invariant.2 step.appends) in
    let known = g.B.Read.remaining c.args.reader.now in
    let new = c.append_piece.new.buf.items in
    let parts = drop (length old) c.turns.buf.items ++ drop (length c.turns.buf.items) new in
    let bytes = if_some_weaken known (λ xs. parts ≡ take_through 10 xs) (λ xs. new ≡ old ++ take_through 10 xs) (λ xs e. whole ∙ ap (λ l. old ++ l) e) read.0 in
    record {
      ok = search rules;
      bytes = bytes;
      rest = read.1;
    }
