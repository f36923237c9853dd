use Rattle.std.proofs.Common.{rules, ◌≡◌, ◌∙◌, refl, ap, Some, map, length, true, false, nat_eq, nat_lt, List, [], ◌∷◌}
use Rattle.pg_operator.specs.Addresses.{address_value}
use Rattle.pg_run.specs.OpenedPorts.{target_value}
use Rattle.pg_run.proofs.running.dial_of.Goals as goal

some_mapped : {X Y : Type 0} (f : X → Y) (xs : List X) → nat_eq (length xs) 0 ≡ false → nat_lt 0 (length (map f xs)) ≡ true
some_mapped f [] h = absurd (search (rules, h))
some_mapped f (x ∷ xs) h = search rules

pub returns : goal.returns
returns c =
    let items = c.args.source.connect.items in
    let has : nat_eq (length items) 0 ≡ false = search rules in
    let many : nat_lt 0 (length (map address_value items)) ≡ true = some_mapped address_value items has in
    let kept : map target_value c.in_ok-addresses.addresses.items ≡ map (λ a. Some a) (map address_value items) = search rules in
    let own : map target_value c.dial_to.result.addresses.items ≡ map (λ a. Some a) (map address_value items) =
    ap (λ v. map target_value v.items) c.dial_to.ensures.addresses ∙ kept in
    rw many
    (λ i. Some (record {
      source = c.dial_to.ensures.source i;
      addresses = own i;
      prefer_first = c.dial_to.ensures.first i;
      silence = c.dial_to.ensures.silence i;
      guards = c.dial_to.ensures.guards i;
    }))
