use Rattle.vx_rows.specs.Sizes.{type_takes_memory}
use Rattle.vx_column.specs.Columns.{type_of, len_of}
use Rattle.vx_lookup.proofs.SingleReads.{memory_alone}
use Rattle.vx_lookup.proofs.searcher.read.Goals as goal

pub returns-clause-err : goal.returns-clause-err
returns-clause-err g c =
    let x = c.args.probe.now in
    memory_alone c.execute_scalar.result (type_takes_memory (type_of x)) (len_of x) c.args.index c.requires.inside c.execute_scalar.ensures.err c.execute_scalar.ensures.free
