-- Which seat a worker of `run` gives back at its end.
use Rattle.std.specs.Prelude.{◌≡◌, Option, Some, None}
use Rattle.pg_console.specs.Joining.{Place}
use Rattle.pg_run.specs.declared.workers.Worker.{Worker}
use Rattle.pg_run.specs.declared.workers.Worker.TheVariants as worker

-- Its own. The workers that write the log, that watch delays and that write recordings have none.
abbrev pub Gives : {R N : Type 0} → Worker R N → Option Place → Type 0
Gives (worker.Lines it) seat = seat ≡ Some it
Gives (worker.Reloads it) seat = seat ≡ Some it
Gives (worker.Log it) seat = seat ≡ None
Gives (worker.Delays it) seat = seat ≡ None
Gives (worker.Records it) seat = seat ≡ None
