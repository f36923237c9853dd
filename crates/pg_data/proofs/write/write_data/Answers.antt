use Rattle.std.proofs.Common.{rules, ◌≡◌, ◌+◌, ◌++◌, length}
use Rattle.pg_wire.specs.Heads.{start_of}
use Rattle.pg_data.specs.Measurements.{data_head}
use Rattle.pg_data.proofs.Framing.{framed}
use Rattle.pg_data.proofs.Spellings.{reads-back}
use Rattle.pg_data.proofs.write.write_data.Goals as goal

pub returns-in_err-bytes-clause-read : goal.returns-in_err-bytes-clause-read
returns-in_err-bytes-clause-read c = reads-back c.args.frame.now c.count-count.ensures.keeps

pub returns-clause-bytes : goal.returns-clause-bytes
returns-clause-bytes c =
    let m = c.args.frame.now in
    let start : c.in_ok-bytes.bytes.items ≡ start_of (data_head 2 m) (16 + length m.body) = search rules in
    let filled : c.extend_from_slice.new.self.items ≡ c.in_ok-bytes.bytes.items ++ m.body = search rules in
    framed (data_head 2 m) m.body c.in_ok-bytes.bytes.items c.extend_from_slice.new.self.items c.end_frame.new.frame.items start filled c.end_frame.ensures.bytes

pub returns-clause-read : goal.returns-clause-read
returns-clause-read c = reads-back c.args.frame.now c.count-count.ensures.keeps
