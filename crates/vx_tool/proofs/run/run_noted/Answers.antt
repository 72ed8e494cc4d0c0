use Rattle.std.proofs.Common.{Err, ap}
use Rattle.vx_tool.proofs.Complete.{complete, written_outcome, stopped_outcome, keeps_same, never_usage, never_read_fault, stops_no_usage, stops_no_write_fault}
use Rattle.vx_tool.proofs.run.run_noted.Goals as goal

pub returns-in-Ok-clause-complete : goal.returns-in-Ok-clause-complete
returns-in-Ok-clause-complete g c bytes wanted is owed words reads writes =
    let status = c.write_reply.result in
    let reply = c.in-Ok.reply in
    let left = g.S.Source.left c.args.source.now in
    let left' = g.S.Source.left c.read_reply.new.source in
    let held = g.K.Sink.held c.args.sink.now in
    let held' = g.K.Sink.held c.write_reply.new.sink in
    let written = c.write_reply.ensures.cases in
    complete status wanted left left' held held' c.args.steps.now c.read_reply.new.steps bytes
    (written_outcome status reply left left' held held' c.args.steps.now c.read_reply.new.steps c.in-Ok.ensures.ok written) is owed
    (never_usage status reply held held' written)
    (never_read_fault status reply held held' written)
    (λ fault. writes (c.write_reply.ensures.fault fault))

pub returns-in-Err-clause-complete : goal.returns-in-Err-clause-complete
returns-in-Err-clause-complete g c bytes wanted is owed words reads writes =
    let status = c.in-Err.status in
    let left = g.S.Source.left c.args.source.now in
    let left' = g.S.Source.left c.read_reply.new.source in
    let held = g.K.Sink.held c.args.sink.now in
    let stops = c.in-Err.ensures.err in
    complete status wanted left left' held held c.args.steps.now c.read_reply.new.steps bytes
    (stopped_outcome status left left' held held c.args.steps.now c.read_reply.new.steps stops (keeps_same held)) is owed
    (stops_no_usage status left left' stops)
    (λ fault. reads (c.in-Err.ensures.fault (ap Err fault)))
    (stops_no_write_fault status left left' stops)
