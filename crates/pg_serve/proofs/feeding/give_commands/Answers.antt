use Rattle.pg_serve.proofs.Owed.{command_given, all_given}
use Rattle.pg_serve.proofs.feeding.give_commands.Goals as goal

pub loop-frame-preserved : goal.loop-frame-preserved
loop-frame-preserved c = command_given _ c.loop-frame.link c.next_out.new.self c.loop-frame.frames.items c.extend_from_slice.new.self.items c.in-Some.frame
    c.loop-frame.invariant c.in-Some.ensures.gives c.in_ok-extend_from_slice.ensures.items

pub returns : goal.returns
returns c = record { given = all_given _ c.loop-frame.link c.next_out.new.self c.loop-frame.frames.items c.loop-frame.invariant c.in_default.ensures.gives }
