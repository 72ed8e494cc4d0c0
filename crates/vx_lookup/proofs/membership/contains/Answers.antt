use Rattle.std.proofs.Common.{◌≡◌, Bool, List, Option, length, map, subst, ◌∙◌, ap}
use Rattle.std.specs.Prelude.{IfOk}
use Rattle.std.proofs.lemmas.List.{length-map}
use Rattle.std.specs.Option.{is_some}
use Rattle.vx_base.specs.Column.{Flat}
use Rattle.vx_masks.specs.Validities.{valid_bits}
use Rattle.vx_scalars.specs.Membership.{is_member}
use Rattle.vx_column.specs.Columns.{rows_of}
use Rattle.vx_lookup.specs.Bits.{bits_where}
use Rattle.vx_lookup.proofs.Members.{members_where}
use Rattle.vx_lookup.proofs.membership.contains.Goals as goal

pub returns-clause-ok : goal.returns-clause-ok
returns-clause-ok g c =
    let set = rows_of c.args.set.now in
    let rows = rows_of c.args.column.now in
    let needles = c.in_ok-needles.needles in
    let found = c.in_ok-bits.ensures in
    let bits = c.as_slice.ensures ∙ found.bits
    ∙ ap (λ (h : Flat). map (is_member h.rows) needles.rows) (c.in_ok-haystack.ensures.ok ∙ c.in_ok-elements.ensures.ok)
    ∙ ap (λ (n : Flat). map (is_member set) n.rows) c.in_ok-needles.ensures.ok in
    let count = c.len.ensures ∙ ap (λ (xs : List Bool). length xs) found.bits ∙ length-map needles.rows (is_member c.in_ok-haystack.haystack.rows) in
    let present = c.as_slice-2.ensures ∙ c.in_ok-present.ensures.ok ∙ ap (valid_bits c.in_ok-bits.validity) count ∙ found.valid
    ∙ ap (λ (n : Flat). map is_some n.rows) c.in_ok-needles.ensures.ok in
    let all = ap (λ (xs : List Bool). bits_where xs c.as_slice-2.result.now) bits
    ∙ ap (λ (xs : List Bool). bits_where (map (is_member set) rows) xs) present ∙ members_where set rows in
    subst (λ (xs : List (Option Bool)). IfOk c.joined.result (λ answer. answer ≡ xs)) all c.joined.ensures.ok
