use Rattle.std.proofs.Common.{◌≡◌, ◌≤◌, drop}
use Rattle.pg_status.specs.Requests.{number_from}
use Rattle.pg_status.proofs.request.number_of.Given as goal

abbrev pub invariant-digits : goal.invariant-digits
invariant-digits l = (l.number ≤ 99999) × (number_from l.number (drop l.digit-index l.digits) ≡ number_from 0 l.digits)
