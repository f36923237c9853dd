use Rattle.pg_serve.specs.Inputs.{input_value, outcome}
use Rattle.pg_replay.proofs.ReplayLaws.{does-input}
use Rattle.pg_replay.proofs.script.Script.run.Goals as goal

pub returns : goal.returns
returns g c = record {
  does = does-input c.args.self.now.world c.take.new.self (input_value c.args.input.now) (outcome c.take.new.output)
      (g.W.Write.contents c.args.out.now) (g.W.Write.contents c.print_output.new.out) c.in-Ok.ensures.answers c.in_ok-print_output-in-Ok.ensures.prints;
}
