use Rattle.std.proofs.Common.{[], ◌∷◌}
use Rattle.pg_turn.proofs.turnstile.Turnstile.call_placed.Given as goal

abbrev pub ghosts-give_back : goal.ghosts-give_back
ghosts-give_back g a = record { calls = (a.event.value, a.reply.now) ∷ [] }
