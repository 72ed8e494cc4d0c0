use Rattle.std.proofs.Common.{ap, sym, ◌∙◌, ◌++◌, ◌-◌, ℕ, List, get_or}
use Rattle.std.specs.List.{range_with_len}
use Rattle.vx_select.proofs.Filtered.{slices_next}
use Rattle.vx_select.proofs.places.places_of_slices.Goals as goal

pub loop-slice-preserved : goal.loop-slice-preserved
loop-slice-preserved c =
    let slices = c.args.slices.now in
    let i = c.loop-slice.slice-index in
    let zero_slice : ℕ × ℕ = (0, 0) in
    let slice = get_or slices i zero_slice in
    c.in_ok-push_range.ensures.ok ∙ ap (λ (ns : List ℕ). ns ++ range_with_len slice.0 (slice.1 - slice.0)) c.loop-slice.invariant ∙ sym (slices_next slices i zero_slice c.loop-slice-test.true)
