use Rattle.std.proofs.Common.{ap, sym, ◌∙◌, length, is_some, arith}
use Rattle.std.proofs.lemmas.List.{length-map}
use Rattle.pg_align.proofs.Leaving.{all_flushed-none_open}
use Rattle.pg_outcfg.specs.Listing.{config_at}
use Rattle.pg_session.specs.Changing.{list_after}
use Rattle.pg_session.proofs.Simulating.{flushed-effective}
use Rattle.pg_session.proofs.Members.{window-flushed}
use Rattle.pg_session.proofs.stream.Stream.reshape.Goals as goal

pub reshape-requires-clause-members : goal.reshape-requires-clause-members
reshape-requires-clause-members c =
    let members = c.self.inside.definition.members in
    rw (c.mark_changed.ensures, c.as_slice-members.ensures.value, c.flush_all.ensures.slots)
    (length-map members (λ key. is_some (config_at (list_after c.args.listed.now c.args.change.now) key))
    ∙ sym c.self.invariant.places ∙ sym (ap length (flushed-effective c.self.inside.align c.self.inside.align.slots)))

pub reshape-requires-clause-none_open : goal.reshape-requires-clause-none_open
reshape-requires-clause-none_open c = rw c.flush_all.ensures.slots (all_flushed-none_open c.self.inside.align)

pub invariant_of-self-then-is_reshaped : goal.invariant_of-self-then-is_reshaped
invariant_of-self-then-is_reshaped c =
    let i = c.self.invariant in
    let none = all_flushed-none_open c.self.inside.align in
    let members = c.self.inside.definition.members in
    rw (c.reshape.ensures.shown, c.flush_all.ensures.slots) record {
      limits = i.limits;
      places = rw (c.mark_changed.ensures, c.as_slice-members.ensures.value)
          (length-map members (λ key. is_some (config_at (list_after c.args.listed.now c.args.change.now) key)));
      window = window-flushed c.self.inside.align ∙ i.window;
      few = rw none (omega arith);
      timed = rw none tt;
    }
