use Rattle.std.proofs.Common.{◌≡◌, ◌≤◌, ℕ, List, true, length, arith, rules}
use Rattle.std.specs.Prelude.{nat_le}
use Rattle.std.proofs.lemmas.Grind.{common_steps}
use Rattle.pg_align.specs.Slots.{OpenSlot, others_than}
use Rattle.pg_align.proofs.Arriving.{others_at_most}
use Rattle.pg_align.proofs.align.Align.has_room.Goals as goal

few_others : {X : Type 0} (slots : List (OpenSlot X)) (window slot : ℕ) → nat_le (length slots) window ≡ true → others_than slot slots ≤ window
few_others slots window slot t =
    let few = others_at_most slots slot in
    let fits : length slots ≤ window = grind (arith, common_steps) in
    omega (arith, few, fits)

pub returns-clause-shown : goal.returns-clause-shown
returns-clause-shown c = first_of (search rules, grind (arith, common_steps))

pub returns-clause-room : goal.returns-clause-room
returns-clause-room c t slot = few_others c.args.self.now.slots c.args.self.now.window slot (rw (returns-clause-shown c) at t)
