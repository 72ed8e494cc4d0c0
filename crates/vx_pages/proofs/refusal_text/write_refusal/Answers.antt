use Rattle.vx_pages.proofs.refusal_text.write_refusal.Goals as goal

pub returns-in-OutOfMemory-clause-ok : goal.returns-in-OutOfMemory-clause-ok
returns-in-OutOfMemory-clause-ok c = rw c.in-OutOfMemory.is c.write_bare.ensures.ok

pub returns-in-Malformed-clause-ok : goal.returns-in-Malformed-clause-ok
returns-in-Malformed-clause-ok c = rw c.in-Malformed.is c.write_malformed.ensures.ok

pub returns-in-Unsupported-clause-ok : goal.returns-in-Unsupported-clause-ok
returns-in-Unsupported-clause-ok c = rw c.in-Unsupported.is c.write_unsupported.ensures.ok

pub returns-in-UnsupportedStep-clause-ok : goal.returns-in-UnsupportedStep-clause-ok
returns-in-UnsupportedStep-clause-ok c = rw c.in-UnsupportedStep.is c.write_counted.ensures.ok

pub returns-in-BadRange-clause-ok : goal.returns-in-BadRange-clause-ok
returns-in-BadRange-clause-ok c = rw c.in-BadRange.is c.write_bad_range.ensures.ok

pub returns-in-OutOfBounds-clause-ok : goal.returns-in-OutOfBounds-clause-ok
returns-in-OutOfBounds-clause-ok c = rw c.in-OutOfBounds.is c.write_out_of_bounds.ensures.ok

pub returns-in-LengthMismatch-clause-ok : goal.returns-in-LengthMismatch-clause-ok
returns-in-LengthMismatch-clause-ok c = rw c.in-LengthMismatch.is c.write_length_mismatch.ensures.ok

pub returns-in-MismatchedTypes-clause-ok : goal.returns-in-MismatchedTypes-clause-ok
returns-in-MismatchedTypes-clause-ok c = rw c.in-MismatchedTypes.is c.write_bare-in-MismatchedTypes.ensures.ok

pub returns-in-BadCast-clause-ok : goal.returns-in-BadCast-clause-ok
returns-in-BadCast-clause-ok c = rw c.in-BadCast.is c.write_counted-in-BadCast.ensures.ok

pub returns-in-Unsorted-clause-ok : goal.returns-in-Unsorted-clause-ok
returns-in-Unsorted-clause-ok c = rw c.in-Unsorted.is c.write_bare-in-Unsorted.ensures.ok

pub returns-in-UnknownColumn-clause-ok : goal.returns-in-UnknownColumn-clause-ok
returns-in-UnknownColumn-clause-ok c = rw c.in-UnknownColumn.is c.write_counted-in-UnknownColumn.ensures.ok

pub returns-in-NoChunkOffsets-clause-ok : goal.returns-in-NoChunkOffsets-clause-ok
returns-in-NoChunkOffsets-clause-ok c = rw c.in-NoChunkOffsets.is c.write_bare-in-NoChunkOffsets.ensures.ok

pub returns-in-SlotOutOfRange-clause-ok : goal.returns-in-SlotOutOfRange-clause-ok
returns-in-SlotOutOfRange-clause-ok c = rw c.in-SlotOutOfRange.is c.write_counted-in-SlotOutOfRange.ensures.ok

pub returns-in-MissingSlot-clause-ok : goal.returns-in-MissingSlot-clause-ok
returns-in-MissingSlot-clause-ok c = rw c.in-MissingSlot.is c.write_counted-in-MissingSlot.ensures.ok

pub returns-in-NotSerializable-clause-ok : goal.returns-in-NotSerializable-clause-ok
returns-in-NotSerializable-clause-ok c = rw c.in-NotSerializable.is c.write_bare-in-NotSerializable.ensures.ok

pub returns-in-BadMetadata-clause-ok : goal.returns-in-BadMetadata-clause-ok
returns-in-BadMetadata-clause-ok c = rw c.in-BadMetadata.is c.write_fault.ensures.ok

pub returns-in-NoChunks-clause-ok : goal.returns-in-NoChunks-clause-ok
returns-in-NoChunks-clause-ok c = rw c.in-NoChunks.is c.write_bare-in-NoChunks.ensures.ok
