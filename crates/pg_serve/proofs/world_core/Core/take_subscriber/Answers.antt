use Rattle.std.proofs.Common.{sym, ap, nat_eq}
use Rattle.pg_session.specs.Commands.{items_of}
use Rattle.pg_gateway.proofs.RelatedLaws.{lookup-none, lookup-some}
use Rattle.pg_serve.specs.Inputs.{all_noted}
use Rattle.pg_serve.specs.Shown.{SessionShows}
use Rattle.pg_serve.proofs.Taking.{heard_none, heard_whole, heard_break}
use Rattle.pg_serve.proofs.world_core.Core.take_subscriber.Goals as goal

pub returns-in-None : goal.returns-in-None
returns-in-None c = record {
  takes = λ m h.
      rw c.get_mut.follows.holds-at-none (heard_none m c.args.sub c.args.bytes.now _ _ _ _ c.absence-refusal.result
      (lookup-none SessionShows (nat_eq c.args.sub) _ _ h.sessions (sym c.in-None.ensures.value))
      (c.absence-refusal.ensures.value m.shared h.gateway) c.in_ok-refused-in-None.ensures.outcome h);
}

pub returns-in-Some-broken : goal.returns-in-Some-broken
returns-in-Some-broken c = record {
  takes = λ m h.
      let found = lookup-some SessionShows (nat_eq c.args.sub) _ _ _ h.sessions (sym c.in-Some.ensures.value) in
      let wrote = c.get_mut.follows.holds c.feed_session.new.session in
      let heard = c.in_ok-broken-in-Some.ensures.heard m.shared found.0 (items_of found.0) h.gateway found.2.shows in
      rw (c.shift_remove.ensures.entries, wrote.0) (heard_break m c.args.sub c.args.bytes.now found.0 c.in-Some-broken.refusal _ c.args.self.now.gateway c.feed_session.new.gateway _ _ _ c.feed_session.new.session
      (all_noted c.feed_session.new.notes.items) (all_noted c.note.new.notes.items) found.1 found.2.whole
      (rw c.in-Some-broken.is at (rw (ap all_noted c.in_ok-notes.ensures.items) at heard)) c.in_ok-note.ensures.noted c.in_ok-post.ensures.did c.new.ensures.items h);
}

pub returns : goal.returns
returns c = record {
  takes = λ m h.
      let found = lookup-some SessionShows (nat_eq c.args.sub) _ _ _ h.sessions (sym c.in-Some.ensures.value) in
      let wrote = c.get_mut.follows.holds c.feed_session.new.session in
      let heard = c.in_ok-broken-in-Some.ensures.heard m.shared found.0 (items_of found.0) h.gateway found.2.shows in
      rw wrote.0 (heard_whole m c.args.sub c.args.bytes.now found.0 _ c.args.self.now.gateway _ _ _ c.feed_session.new.session found.1 found.2.whole
      (rw c.in_default.is at (rw (ap all_noted c.in_ok-notes.ensures.items) at heard)) c.new-2.ensures.items h);
}
