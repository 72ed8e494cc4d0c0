use Rattle.std.proofs.Common.{◌≡◌, ◌∙◌}
use Rattle.vx_masks.specs.Masks.{bits_of}
use Rattle.vx_bulk.proofs.Constants.{kept_all, kept_none}
use Rattle.vx_bulk.proofs.bulk.FlatColumnBulk.filter.Goals as goal

pub returns-in-AllTrue-clause-ok : goal.returns-in-AllTrue-clause-ok
returns-in-AllTrue-clause-ok g c = rw (kept_all c.args.self.now.rows c.args.mask.now c.in-AllTrue.len c.in-AllTrue.is c.requires) c.share.ensures.ok

pub returns-in_ok-copy-in-AllFalse-clause-ok : goal.returns-in_ok-copy-in-AllFalse-clause-ok
returns-in_ok-copy-in-AllFalse-clause-ok g c =
    let same : c.in_ok-copy-in-AllFalse.field-0 ≡ c.args.self.now.dtype = c.in_ok-copy-in-AllFalse.ensures.ok ∙ c.dtype.ensures.dtype in
    rw (kept_none c.args.self.now.rows c.args.mask.now c.in-AllFalse.field-0 c.in-AllFalse.is, ← same) c.empty.ensures.ok
