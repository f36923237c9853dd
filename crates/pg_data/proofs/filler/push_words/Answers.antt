use Rattle.std.proofs.Common.{◌∙◌, arith}
use Rattle.pg_data.proofs.Fillers.{words-more, word-pushed}
use Rattle.pg_data.proofs.filler.push_words.Goals as goal

pub loop-preserved : goal.loop-preserved
loop-preserved c = record {
  items = words-more c.args.out.now.items c.loop.out.items c.push_reserved-in-loop.new.self.items c.loop.counter c.args.word c.loop.invariant.items
      (word-pushed c.loop.out.items c.push_reserved.new.self.items c.push_reserved-in-loop.new.self.items c.to_be_bytes.result c.args.word
      c.to_be_bytes.ensures c.push_reserved.ensures.items c.push_reserved-in-loop.ensures.items);
  len = omega arith;
  capacity = c.push_reserved-in-loop.ensures.capacity ∙ c.push_reserved.ensures.capacity ∙ c.loop.invariant.capacity;
}
