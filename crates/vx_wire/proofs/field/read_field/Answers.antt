use Rattle.std.proofs.Common.{arith, rules}
use Rattle.vx_wire.specs.Fields.{Suits}
use Rattle.vx_wire.proofs.FieldLemmas.{whole_field}
use Rattle.vx_wire.proofs.field.read_field.Goals as goal
use Rattle.vx_wire.proofs.field.read_field.Goals.{else-tag-known-via-then-tag-known+else-ne, else-tag-known-via-else-tag-known}

pub returns-clause-ok : goal.returns-clause-ok
returns-clause-ok c =
    let suits : Suits c.args.known c.in_ok-tag.tag c.in_ok-tag.wire = elim c.else-tag-known.branch [
      | else-tag-known-via-then-tag-known+else-ne w ↦ λ le. search rules
      | else-tag-known-via-else-tag-known w ↦ λ le. absurd (omega arith)
    ] in
    whole_field _ _ _ _ _ _ _ c.in_ok-tag.ensures.ok suits c.in_ok-number.ensures.ok
