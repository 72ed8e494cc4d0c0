use Rattle.vx_haystack.proofs.Membership.{text_member}
use Rattle.vx_haystack.proofs.members.Members.of_texts.Goals as goal

pub returns-clause-ok : goal.returns-clause-ok
returns-clause-ok c = text_member c.in_ok-new.field-0 c.args.rows.now c.requires c.in_ok-new.ensures.ok
