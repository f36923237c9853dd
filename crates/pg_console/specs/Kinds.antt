-- Which seat a worker of a service gives back at its end.
use Rattle.std.specs.Prelude.{◌≡◌, Option, Some, None, is_some, true}
use Rattle.pg_console.specs.Joining.{Place}
use Rattle.pg_console.specs.declared.service_worker.ServiceWorker.{ServiceWorker}
use Rattle.pg_console.specs.declared.service_worker.ServiceWorker.TheVariants as worker

-- Its own. A worker that reports addresses and one that reads the table of connections have none; of one that serves the control socket and
-- the page it is known that it gives one; one that only this program has gives what it says itself.
abbrev pub Gives : {R N T S W Listener Stream : Type 0} → (W → Option Place → Type 0) → ServiceWorker R N T S W Listener Stream → Option Place → Type 0
Gives own (worker.Sources it) seat = seat ≡ Some it
Gives own (worker.Subscribers it) seat = seat ≡ Some it
Gives own (worker.Names it) seat = seat ≡ None
Gives own (worker.Connections it) seat = seat ≡ None
Gives own (worker.Ticks it) seat = seat ≡ Some it
Gives own (worker.Admin it) seat = is_some seat ≡ true
Gives own (worker.Own it) seat = own it seat
