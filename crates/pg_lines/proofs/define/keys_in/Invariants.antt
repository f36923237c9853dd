use Rattle.std.proofs.Common.{◌≡◌, ◌++◌, map, drop, option_map}
use Rattle.pg_lines.specs.Lines.{keys_in}
use Rattle.pg_lines.proofs.define.keys_in.Given as goal

abbrev pub invariant-words : goal.invariant-words
invariant-words l =
    keys_in (map (λ w. w.now) l.args) ≡ option_map (λ rest. l.keys.items ++ rest) (keys_in (map (λ w. w.now) (drop l.word-index l.args)))
