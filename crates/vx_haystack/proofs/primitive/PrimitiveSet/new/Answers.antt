use Rattle.std.proofs.Common.{◌∙◌, ap, ◌&&◌}
use Rattle.vx_buffers.specs.Numbers.{row_int}
use Rattle.vx_haystack.specs.Integers.{holds}
use Rattle.vx_haystack.specs.Keys.{of_key}
use Rattle.vx_haystack.proofs.Membership.{int_member}
use Rattle.vx_rows.specs.Fits.{is_in_range}
use Rattle.vx_haystack.proofs.primitive.PrimitiveSet.new.Goals as goal

pub returns-clause-ok : goal.returns-clause-ok
returns-clause-ok g c = λ row.
    ap (λ p. of_key (λ z. is_in_range g.T.Native.ptype z && p z) (row_int row)) ((λ i z. c.in_ok-numbers.ensures.values z i) ∙ ap holds c.in_ok-values.ensures.ok)
    ∙ int_member (is_in_range g.T.Native.ptype) c.args.rows.now c.requires row
