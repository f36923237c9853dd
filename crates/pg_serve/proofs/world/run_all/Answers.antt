use Rattle.std.proofs.Common.{get_or, ◌≡◌, ◌++◌, ◌∷◌, [], suc, ◌+◌, take, sym, ap, arith, ◌∙◌}
use Rattle.std.proofs.lemmas.List.{map-append}
use Rattle.std.proofs.Math.Seq.{take-suc}
use Rattle.pg_serve.specs.Inputs.{input_value, input_values, outcome, outcomes}
use Rattle.pg_serve.proofs.Running.{many_more}
use Rattle.pg_serve.proofs.world.run_all.Goals as goal

pub loop-input-preserved : goal.loop-input-preserved
loop-input-preserved c =
    let on : c.loop-input.input-index + 1 ≡ suc c.loop-input.input-index = omega arith in
    let items : input_values (take (c.loop-input.input-index + 1) c.args.inputs.now) ≡ input_values (take c.loop-input.input-index c.args.inputs.now) ++ input_value c.input-item.result ∷ [] =
    ap (λ k. input_values (take k c.args.inputs.now)) on ∙ ap input_values (take-suc c.args.inputs.now c.loop-input.input-index c.input-item.result c.loop-input-test.true)
    ∙ map-append input_value (take c.loop-input.input-index c.args.inputs.now) (get_or c.args.inputs.now c.loop-input.input-index c.input-item.result ∷ [])
    ∙ ap (λ x. input_values (take c.loop-input.input-index c.args.inputs.now) ++ input_value x ∷ []) (sym c.input-item.is) in
    let out : outcomes c.push.new.self.items ≡ outcomes c.loop-input.outputs.items ++ outcome c.take.new.output ∷ [] =
    ap outcomes c.in_ok-push.ensures.items ∙ map-append outcome c.loop-input.outputs.items (c.take.new.output ∷ []) in
    rw (items, out) (many_more _ _ _ (input_values (take c.loop-input.input-index c.args.inputs.now)) (outcomes c.loop-input.outputs.items) (input_value c.input-item.result) (outcome c.take.new.output)
    c.loop-input.invariant c.in_ok-take.ensures.takes)
