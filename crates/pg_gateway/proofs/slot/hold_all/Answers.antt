use Rattle.std.proofs.Common.{rules, arith, length, ap, ◌∙◌, ◌++◌, w64}
use Rattle.std.specs.Int.{trailing_zeros}
use Rattle.pg_gateway.specs.Routes.{places_at}
use Rattle.pg_gateway.proofs.RouteLaws.{note_granted, without}
use Rattle.pg_gateway.proofs.MaskLaws.{first_at, bits_left, room_at, next_at, end_at}
use Rattle.pg_gateway.proofs.slot.hold_all.Goals as goal

pub bounds-places-place : goal.bounds-places-place
bounds-places-place c = (first_at c.held.left c.args.places.now (omega arith) (search rules) c.held.invariant.bits).0

pub push_reserved-requires : goal.push_reserved-requires
push_reserved-requires c =
    let inv = c.held.invariant in
    let room = room_at c.args.number c.held.left c.held.held.items c.args.places.now (omega arith) (search rules) inv.bits inv.held in
    omega (arith, room, inv.room, c.requires.few, c.held.held.ok)

pub held-smaller : goal.held-smaller
held-smaller c = (note_granted c.held.left (omega arith) (search rules)).3

pub held-preserved : goal.held-preserved
held-preserved c =
    let inv = c.held.invariant in
    record {
      bits = bits_left (length c.args.places.now) c.held.left (omega arith) (search rules) inv.bits;
      held = ap (λ l. l ++ places_at (without c.held.left (trailing_zeros w64 c.held.left)) 0 c.args.places.now) c.push_reserved.ensures.items ∙ (next_at c.args.number c.held.left c.held.held.items c.args.places.now (omega arith) (search rules) inv.bits inv.held);
      room = omega (arith, inv.room, c.push_reserved.ensures.capacity);
    }

pub returns-clause-held : goal.returns-clause-held
returns-clause-held c = end_at c.args.number c.held.left c.held.held.items c.args.places.now (omega arith) c.held.invariant.held
