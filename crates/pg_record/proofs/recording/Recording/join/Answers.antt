use Rattle.std.proofs.Common.{rules, ◌≡◌, ◌++◌, subst, List}
use Rattle.std.specs.List.Sorted.{IsPermutation}
use Rattle.pg_record.specs.declared.recording.Placed.{Placed}
use Rattle.pg_record.proofs.Rows.{stand_joined}
use Rattle.pg_record.proofs.recording.Recording.join.Goals as goal

pub invariant_of-result : goal.invariant_of-result
invariant_of-result g c =
    let one = c.args.self.notes.items in
    let two = c.args.other.notes.items in
    let both = c.sort_by_key.new.self.items in
    let all : c.append.new.self.items ≡ one ++ two = search rules in record {
      stands = stand_joined g.J.Records.says c.args.self.seat.seen c.args.other.seat.seen c.join-seat.result.seen one two both c.join-seat.ensures.seen c.args.self.stands c.args.other.stands
          (subst (λ (l : List (Placed g.row.J-Note.Denot)). IsPermutation l both) all c.sort_by_key.ensures.permutation);
    }
