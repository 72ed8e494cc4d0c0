use Rattle.vx_select.proofs.Rising.{not_missing}
use Rattle.vx_select.proofs.touched.place_of.Goals as goal

pub unreachable-requires : goal.unreachable-requires
unreachable-requires c = not_missing c.args.numbers.now c.args.number c.in-Err.field-0 c.requires.rising c.in-Err.ensures.position c.requires.listed
