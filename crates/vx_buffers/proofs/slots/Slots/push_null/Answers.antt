use Rattle.std.proofs.Common.{[], ◌∷◌, ◌∙◌, sym, refl, false}
use Rattle.vx_buffers.proofs.Cells.{always_err, longer_is, joined_is, padded_is}
use Rattle.vx_buffers.proofs.slots.Slots.push_null.Goals as goal

pub returns-in_err-push-clause-err : goal.returns-in_err-push-clause-err
returns-in_err-push-clause-err g c =
    always_err c.from_residual-in_err-push.result (padded_is _ _ _ c.len-n.result c.self.view_is c.len-n.ensures
    c.push.new.self.items _ (c.in_err-push.ensures.items ∙ c.in_ok-resize.ensures.items) (sym c.in_ok-resize.ensures.len ∙ sym c.in_err-push.ensures.len ∙ c.push.new.self.ok.0) _ refl)

pub returns-in_err-push-2-clause-err : goal.returns-in_err-push-2-clause-err
returns-in_err-push-2-clause-err g c =
    always_err c.from_residual-in_err-push-2.result (longer_is _ _ _ c.len-n.result c.self.view_is c.len-n.ensures
    c.resize.new.self.items _ c.in_ok-resize.ensures.items (sym c.in_ok-resize.ensures.len ∙ c.resize.new.self.ok.0) (false ∷ []) _ _ c.in_ok-push.ensures.items c.in_err-push-2.ensures.items)

pub returns-clause-ok : goal.returns-clause-ok
returns-clause-ok g c =
    joined_is _ _ _ c.len-n.result c.self.view_is c.len-n.ensures
    c.resize.new.self.items _ c.in_ok-resize.ensures.items (sym c.in_ok-resize.ensures.len ∙ c.resize.new.self.ok.0) (false ∷ []) _ (_ ∷ []) _ c.in_ok-push.ensures.items c.in_ok-push-2.ensures.items
