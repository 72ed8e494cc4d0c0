use Rattle.std.proofs.Common.{◌∙◌, ap, ◌||◌}
use Rattle.std.specs.Ordering.{is_eq, nat_cmp}
use Rattle.std.specs.Cmp.Lexicographic.{slice_cmp}
use Rattle.vx_haystack.specs.Keys.{has_bytes}
use Rattle.vx_haystack.proofs.ByteSets.{put_any}
use Rattle.vx_haystack.proofs.bytes.BytesSet.insert.Goals as goal

pub returns-clause-ok : goal.returns-clause-ok
returns-clause-ok c = λ other.
    put_any (λ k. k.items) c.args.bytes c.self.inside.found.keys c.insert.new.self.keys c.in_ok-insert.field-0 c.in_ok-insert.ensures.added c.in_ok-insert.ensures.keys other
    ∙ ap (λ ks. is_eq (slice_cmp nat_cmp c.args.bytes.items other) || has_bytes ks other) c.self.view_is
