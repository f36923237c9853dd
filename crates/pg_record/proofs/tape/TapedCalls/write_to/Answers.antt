use Rattle.std.proofs.Common.{rules, ◌≡◌, ◌∙◌, ◌++◌, ◌∷◌, sym, ap, append_assoc}
use Rattle.pg_record.specs.Taping.{spelled, spelled_call}
use Rattle.pg_record.proofs.tape.TapedCalls.write_to.Goals as goal

pub calls-preserved : goal.calls-preserved
calls-preserved c =
    let bodies = c.args.self.now.bodies.items in
    let call = c.in-Some.call.now in
    let rest = c.in-Some.rest.now in
    let left : c.calls.left.now ≡ call ∷ rest = search rules in
    let wrote : c.write_call.new.out.items ≡ c.calls.out.items ++ spelled_call bodies call = c.in_ok-write_call.ensures.written in
    ap (λ l. l ++ spelled bodies rest) wrote
    ∙ append_assoc c.calls.out.items (spelled_call bodies call) (spelled bodies rest)
    ∙ ap (λ l. c.calls.out.items ++ spelled bodies l) (sym left)
    ∙ c.calls.invariant
