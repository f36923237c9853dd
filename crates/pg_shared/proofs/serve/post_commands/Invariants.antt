use Rattle.std.proofs.Common.{◌≡◌, ℕ, Bool, false, List, length, Option, None}
use Rattle.pg_shared.specs.Turned.{Turned}
use Rattle.pg_shared.proofs.serve.post_commands.Given as goal

abbrev pub invariant-commands : goal.invariant-commands
invariant-commands g l = record {
  ran : (r w : Option (List ℕ)) (due : Bool) → Turned None due due false l.fn.session l.session r r w w (g.G.Gate.posts l.initial.gate) (g.G.Gate.posts l.gate);
  onward : g.G.Gate.goes_on l.initial.gate l.gate;
  left : l.session.left ≡ l.fn.session.left;
}

abbrev pub decreases-commands : goal.decreases-commands
decreases-commands g l = length l.session.bytes.held
