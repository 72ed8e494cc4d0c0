use Rattle.std.proofs.Common.{◌∙◌, ap, sym}
use Rattle.std.specs.List.{list_any}
use Rattle.std.specs.Ordering.{is_eq, nat_cmp}
use Rattle.std.specs.Cmp.Lexicographic.{slice_cmp}
use Rattle.vx_haystack.specs.Keys.{has_bytes}
use Rattle.vx_haystack.proofs.ByteSets.{any_map, same_bytes}
use Rattle.vx_haystack.proofs.bytes.BytesSet.contains.Goals as goal

pub returns : goal.returns
returns c =
    c.contains.ensures ∙ ap (λ p. list_any p c.self.inside.found.keys) (λ i k. same_bytes c.args.bytes.now k.items i)
    ∙ sym (any_map (λ k. k.items) (λ b. is_eq (slice_cmp nat_cmp b c.args.bytes.now)) c.self.inside.found.keys) ∙ ap (λ ks. has_bytes ks c.args.bytes.now) c.self.view_is
