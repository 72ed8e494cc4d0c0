use Rattle.std.proofs.Common.{◌∙◌}
use Rattle.vx_buffers.proofs.Cells.{always_err}
use Rattle.vx_buffers.proofs.Spans.{grown_is, pushed_is}
use Rattle.vx_buffers.proofs.binaries.Binaries.push.Goals as goal

pub returns-in_err-push-clause-err : goal.returns-in_err-push-clause-err
returns-in_err-push-clause-err c =
    always_err c.from_residual-in_err-push.result
    (grown_is c.self.inside.bytes.items c.self.inside.spans c.args.self.now c.self.view_is c.self.invariant _ c.args.bytes.now _ c.in_ok-extend_from_slice.ensures.items c.in_err-push.ensures.err)

pub returns-clause-ok : goal.returns-clause-ok
returns-clause-ok c =
    pushed_is c.self.inside.bytes.items c.self.inside.spans c.args.self.now c.self.view_is c.self.invariant _ c.args.bytes.now (record { start = c.len-start.result; end = c.len-end.result }) _
    c.in_ok-extend_from_slice.ensures.items (c.len-start.ensures ∙ c.self.inside.bytes.ok.0) (c.len-end.ensures ∙ c.extend_from_slice.new.self.ok.0) c.in_ok-push.ensures.ok
