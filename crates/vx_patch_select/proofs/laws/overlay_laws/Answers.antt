use Rattle.vx_patch_select.proofs.Laying.{slice_commutes, filter_commutes, take_commutes}
use Rattle.vx_patch_select.proofs.laws.overlay_laws.Goals as goal

pub returns-clause-slice : goal.returns-clause-slice
returns-clause-slice c = slice_commutes

pub returns-clause-filter : goal.returns-clause-filter
returns-clause-filter c = filter_commutes

pub returns-clause-take : goal.returns-clause-take
returns-clause-take c = take_commutes
