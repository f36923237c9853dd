use Rattle.std.proofs.Common.{rules, ◌≡◌, sym, ◌∙◌, subst}
use Rattle.std.proofs.lemmas.Option.{same_Some}
use mathlib.Core.List.{IsPrefix}
use Rattle.pg_turn.specs.Known.{Known}
use Rattle.pg_turn.specs.declared.counted.Counted.{Counted}
use Rattle.pg_turn.specs.Counting.{CountedShows}
use Rattle.pg_turn.proofs.Turning.{ends}
use Rattle.pg_turn.proofs.turnstile.Turnstile.close.Goals as goal

pub returns : goal.returns
returns g c =
    let t = ends (CountedShows g.M.Machine.shows) g.M.Machine.may _ _ _ _ _ _ c.close_with-closed.ensures.values.2 c.word-word.ensures (search rules) c.take-slot.ensures.value in
    let same : t.0 ≡ c.unwrap-machine.result = same_Some _ _ (sym t.1 ∙ c.unwrap-machine.ensures) in
    let h = t.2.0 in
    record { shows = (h, subst (λ (k : Known g.row.M-Event.Denot g.row.M-Reply.Denot). IsPrefix k.seen h) c.seat.view_is t.2.1, t.2.2, subst (λ (x : Counted g.row.M.Denot). g.M.Machine.shows x.machine h) same t.2.3.machine) }
