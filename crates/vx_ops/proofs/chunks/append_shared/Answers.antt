use Rattle.std.proofs.Common.{refl, sym, subst}
use Rattle.vx_column.specs.Columns.{rows_of, type_of, IsSound}
use Rattle.vx_ops.proofs.Gains.{gained_alike}
use Rattle.vx_ops.proofs.chunks.append_shared.Goals as goal

pub returns-clause-ok : goal.returns-clause-ok
returns-clause-ok c =
    let self = c.args.column.now in
    let same = c.in_ok-column.ensures.ok in
    gained_alike (type_of self) (rows_of self) c.args.out.now.items c.push.new.self.items self c.in_ok-column.column c.in_ok-push.ensures.items same (subst IsSound (sym same) c.requires) refl refl
