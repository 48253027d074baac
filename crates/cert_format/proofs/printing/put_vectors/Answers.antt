use Rattle.cert_format.specs.Spelling.{vector_lines, PriceFits}
use Rattle.cert_format.proofs.WriteLemmas.{more}
use Rattle.cert_format.proofs.RangeLemmas.{all_more}
use Rattle.std.specs.List.{AllByRecursion}
use Rattle.cert_format.proofs.printing.put_vectors.Goals as goal

pub loop-vector-preserved : goal.loop-vector-preserved
loop-vector-preserved c =
    record {
      text = more vector_lines 0 c.args.vectors.now c.loop-vector.vector-index c.vector-item.result c.vector-item.result c.args.out.now.items c.loop-vector.out.items c.put_vector.new.out.items c.loop-vector-test.true c.vector-item.is c.loop-vector.invariant.text (c.in_ok-put_vector.ensures.text 0);
      range = all_more (AllByRecursion PriceFits) c.args.vectors.now c.loop-vector.vector-index c.vector-item.result c.vector-item.result c.loop-vector-test.true c.vector-item.is c.loop-vector.invariant.range c.in_ok-put_vector.ensures.range;
    }
