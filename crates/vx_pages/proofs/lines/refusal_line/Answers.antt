use Rattle.std.proofs.Common.{rules}
use Rattle.vx_pages.specs.RefusalJson.{refusal_json}
use Rattle.vx_pages.proofs.Printed.{printed_line}
use Rattle.vx_pages.proofs.lines.refusal_line.Goals as goal

pub returns-clause-ok : goal.returns-clause-ok
returns-clause-ok c =
    printed_line (refusal_json c.args.error.now) c.write_refusal.new.out.before _ c.write_refusal.new.out.tokens (search rules) (search rules) c.in_ok-ended.ensures
