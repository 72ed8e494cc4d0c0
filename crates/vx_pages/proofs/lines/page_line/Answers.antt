use Rattle.std.proofs.Common.{rules}
use Rattle.vx_pages.specs.PageJson.{page_json}
use Rattle.vx_pages.proofs.Printed.{printed_line}
use Rattle.vx_pages.proofs.lines.page_line.Goals as goal

pub returns-clause-ok : goal.returns-clause-ok
returns-clause-ok c =
    printed_line (page_json c.args.page.now) c.write_page.new.out.before _ c.write_page.new.out.tokens (search rules) (search rules) c.in_ok-ended.ensures
