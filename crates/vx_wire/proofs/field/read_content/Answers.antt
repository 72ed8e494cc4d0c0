use Rattle.vx_wire.proofs.FieldLemmas.{number_content, eight_content, sized_content, four_content}
use Rattle.vx_wire.proofs.field.read_content.Goals as goal

pub returns-in_ok-number-in-Varint-clause-ok : goal.returns-in_ok-number-in-Varint-clause-ok
returns-in_ok-number-in-Varint-clause-ok c = rw c.in-Varint.is (number_content _ _ _ c.in_ok-number-in-Varint.ensures.ok)

pub returns-in_ok-skip-in-Eight-clause-ok : goal.returns-in_ok-skip-in-Eight-clause-ok
returns-in_ok-skip-in-Eight-clause-ok c = rw c.in-Eight.is (eight_content _ _ c.in_ok-skip-in-Eight.ensures.ok)

pub returns-in_ok-skip-in-Sized-clause-ok : goal.returns-in_ok-skip-in-Sized-clause-ok
returns-in_ok-skip-in-Sized-clause-ok c = rw c.in-Sized.is (sized_content _ _ _ _ c.in_ok-size-in-Sized.ensures.ok c.in_ok-skip-in-Sized.ensures.ok)

pub returns-in_ok-skip-in-Four-clause-ok : goal.returns-in_ok-skip-in-Four-clause-ok
returns-in_ok-skip-in-Four-clause-ok c = rw c.in-Four.is (four_content _ _ c.in_ok-skip-in-Four.ensures.ok)
