use Rattle.std.proofs.Common.{◌<◌, ◌≤◌, length, get_or, arith}
use Rattle.std.proofs.lemmas.List.{get_or_read}
use Rattle.pg_frame_tests.proofs.Slow.{put_inserts, put_finds, put_last}
use Rattle.pg_frame_tests.proofs.plain.put_number.Goals as goal

pub returns-then-number-index : goal.returns-then-number-index
returns-then-number-index c =
    let same = c.loop-at.invariant.same in
    let numbers = c.args.numbers.now.items in
    let within : c.loop-at.at < length numbers = omega (arith, c.len-at-end.ensures, c.args.numbers.now.ok.0) in
    let here = get_or_read numbers c.loop-at.at c.index.result.now within (rw same at c.index.ensures) 0 in
    let less : c.args.number < get_or numbers c.loop-at.at 0 = omega (arith, here, c.if-number-index.true) in
    rw (c.in_ok-insert.ensures.items, same) (put_inserts c.args.number numbers c.loop-at.at within less (rw same at c.loop-at.invariant.past))

pub returns-then-number-index-2 : goal.returns-then-number-index-2
returns-then-number-index-2 c =
    let same = c.loop-at.invariant.same in
    let numbers = c.args.numbers.now.items in
    let within : c.loop-at.at < length numbers = omega (arith, c.len-at-end.ensures, c.args.numbers.now.ok.0) in
    let here = get_or_read numbers c.loop-at.at c.index-in-loop-at.result.now within (rw same at c.index-in-loop-at.ensures) 0 in
    let found = rw here at c.if-number-index-2.true in
    rw same (put_finds c.args.number numbers c.loop-at.at within found (rw same at c.loop-at.invariant.past))

pub returns : goal.returns
returns c =
    let same = c.loop-at.invariant.same in
    let numbers = c.args.numbers.now.items in
    let past : length numbers ≤ c.loop-at.at = omega (arith, c.len-at-end.ensures, c.args.numbers.now.ok.0) in
    rw (c.in_ok-push.ensures.items, same) (put_last c.args.number numbers c.loop-at.at past (rw same at c.loop-at.invariant.past))
