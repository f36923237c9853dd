use Rattle.std.proofs.Common.{◌≡◌, true, take}
use Rattle.pg_session.specs.Shape.{same_shape}
use Rattle.pg_session.specs.Changing.{list_after}
use Rattle.pg_session.proofs.stream.Stream.is_reshaped.Given as goal

abbrev pub invariant-loop-key : goal.invariant-loop-key
invariant-loop-key l = same_shape (take l.key-index l.self.definition.members) l.listed (list_after l.listed l.change) ≡ true
