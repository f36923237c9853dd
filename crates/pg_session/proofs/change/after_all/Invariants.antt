use Rattle.std.proofs.Common.{◌≡◌, drop}
use Rattle.pg_outcfg.specs.Listing.{config_at}
use Rattle.pg_session.specs.Events.{announced_at}
use Rattle.pg_session.specs.Private.{put_all}
use Rattle.pg_session.proofs.change.after_all.Given as goal

abbrev pub invariant-loop-place : goal.invariant-loop-place
invariant-loop-place l =
    config_at (put_all l.listed (announced_at l.config l.places)) l.key
    ≡ config_at (put_all l.listed (announced_at l.config (drop l.place-index l.places))) l.key
