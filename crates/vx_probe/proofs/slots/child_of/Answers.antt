use Rattle.std.proofs.Common.{◌∙◌, ap}
use Rattle.vx_probe.specs.Slots.{slots_of, chunk_slots, interleave_slots}
use Rattle.vx_probe.proofs.Children.{slots_chunked, slots_interleave, found_there, found_none}
use Rattle.vx_probe.proofs.slots.child_of.Goals as goal

pub returns-in-Chunked-clause-ok : goal.returns-in-Chunked-clause-ok
returns-in-Chunked-clause-ok c =
    let x = c.in-Chunked.chunked in
    found_there c.args.column.now (chunk_slots x) c.args.slot c.chunk_slot.result c.found.result (ap slots_of c.in-Chunked.is ∙ slots_chunked x) c.chunk_slot.ensures.value c.found.ensures.ok c.found.ensures.some

pub returns-in-Chunked-clause-err : goal.returns-in-Chunked-clause-err
returns-in-Chunked-clause-err c =
    let x = c.in-Chunked.chunked in
    found_none c.args.column.now (chunk_slots x) c.args.slot c.chunk_slot.result c.found.result (ap slots_of c.in-Chunked.is ∙ slots_chunked x) c.chunk_slot.ensures.value c.found.ensures.err

pub returns-in-Interleave-clause-ok : goal.returns-in-Interleave-clause-ok
returns-in-Interleave-clause-ok c =
    let x = c.in-Interleave.interleave in
    found_there c.args.column.now (interleave_slots x) c.args.slot c.value_slot.result c.found-in-Interleave.result (ap slots_of c.in-Interleave.is ∙ slots_interleave x) c.value_slot.ensures.value c.found-in-Interleave.ensures.ok c.found-in-Interleave.ensures.some

pub returns-in-Interleave-clause-err : goal.returns-in-Interleave-clause-err
returns-in-Interleave-clause-err c =
    let x = c.in-Interleave.interleave in
    found_none c.args.column.now (interleave_slots x) c.args.slot c.value_slot.result c.found-in-Interleave.result (ap slots_of c.in-Interleave.is ∙ slots_interleave x) c.value_slot.ensures.value c.found-in-Interleave.ensures.err
