use Rattle.std.proofs.Common.{inl, subst, ap, ◌∙◌}
use Rattle.pg_record.specs.declared.record.RecordKind.TheVariants as kind
use Rattle.pg_record.specs.declared.tape.Front.TheVariants.{Nothing}
use Rattle.pg_recorder.specs.Beginning.{Begun}
use Rattle.pg_recorder.proofs.worker_tape.WorkerTape.begin_configuration.Goals as goal

pub returns-in-Ok-clause-begun : goal.returns-in-Ok-clause-begun
returns-in-Ok-clause-begun c =
    let written = c.in-Ok.ensures.frame in
    let t = c.args.self.now.tape in
    let u = c.begin_with.new.self.tape in
    let source = c.args.config.now.source in
    let of_source = subst (λ n. Begun t kind.Configuration n Nothing c.deref.result.now u) (c.get-source.ensures.value ∙ ap (λ s. s.source) c.config.view_is) c.begin_with.ensures.begun in
    inl (record {
      base = written.0;
      rate = written.1;
      is_of = written.2;
      begins = subst (λ bytes. Begun t kind.Configuration source Nothing bytes u) (c.deref.ensures.value ∙ written.3) of_source;
    })
