use Rattle.vx_column.specs.Columns.{rows_of, type_of}
use Rattle.vx_column.specs.declared.column.Column.TheVariants as column
use Rattle.vx_ops.proofs.Gains.{all_sound, all_typed, gained_from}
use Rattle.vx_ops.proofs.chunks.all_chunks.Goals as goal

pub returns-clause-sound : goal.returns-clause-sound
returns-clause-sound c =
    let t = type_of (column.Chunked c.args.array.now) in
    let rows = rows_of (column.Chunked c.args.array.now) in
    all_sound t rows c.append_chunks.new.out.items (gained_from t rows c.new-chunks.result.items c.append_chunks.new.out.items c.new-chunks.ensures.items c.in_ok-append_chunks.ensures.ok)

pub returns-clause-types : goal.returns-clause-types
returns-clause-types c =
    let t = type_of (column.Chunked c.args.array.now) in
    let rows = rows_of (column.Chunked c.args.array.now) in
    all_typed t rows c.append_chunks.new.out.items (gained_from t rows c.new-chunks.result.items c.append_chunks.new.out.items c.new-chunks.ensures.items c.in_ok-append_chunks.ensures.ok)

pub returns-clause-rows : goal.returns-clause-rows
returns-clause-rows c =
    let t = type_of (column.Chunked c.args.array.now) in
    let rows = rows_of (column.Chunked c.args.array.now) in
    let gained = gained_from t rows c.new-chunks.result.items c.append_chunks.new.out.items c.new-chunks.ensures.items c.in_ok-append_chunks.ensures.ok in
    gained.gained
