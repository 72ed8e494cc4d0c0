-- What each status of a run means, by the bytes of the two ends and the count of reads before and after it.
use Rattle.std.specs.Prelude.{◌≡◌, ◌⊎◌, ℕ, ◌<◌, ◌≤◌, List, length, IsSome}
use Rattle.std.specs.declared.option.Option.{Option}
use Rattle.std.specs.Io.KnownBytes.{Keeps, Appends, IsAtEnd}
use Rattle.vx_rows.specs.declared.error.ColumnError.{ColumnError}
use Rattle.vx_base.specs.Column.{Flat}
use Rattle.vx_job.specs.Plans.{Reaches, IsPlanError}
use Rattle.vx_job.specs.declared.page.Answer.{Answer}
use Rattle.vx_ends.specs.Moved.{taken_len, Tells, AppendsFront}
use Rattle.vx_job.specs.JobView.{JobView}
use Rattle.vx_json.specs.Bytes.{IsJobOf, HasNoJob}
use Rattle.vx_tool.specs.Reply.{Answers}
use Rattle.vx_tool.specs.declared.reply.Reply.{Reply}
use Rattle.vx_tool.specs.declared.reply.Reply.TheVariants as reply
use Rattle.vx_tool.specs.declared.status.Status.{Status}
use Rattle.vx_tool.specs.declared.status.Status.TheVariants as status

-- how many bytes a job may have
abbrev pub limit : ℕ
limit = 67108864

-- The bytes are a job, and the reply answers it.
pub record AnswersBytes (bytes : List ℕ) (reply : Reply) (before after : ℕ) : Type 0 where
  pub job : JobView
  pub is_job : IsJobOf bytes job
  pub answers : Answers job reply before after

-- These are all the bytes that were left, they were read to the end, and they are within the limit.
pub record ReadsAll (old new : Option (List ℕ)) (bytes : List ℕ) : Type 0 where
  pub whole : Tells old bytes
  pub within : length bytes ≤ limit
  pub end : IsAtEnd new

-- All was read, and the reply is that to the bytes.
pub record HasReply (old new : Option (List ℕ)) (reply : Reply) (before after : ℕ) : Type 0 where
  pub bytes : List ℕ
  pub reads : ReadsAll old new bytes
  pub gives : AnswersBytes bytes reply before after

-- All was read, and it is no job.
pub record ReadsNoJob (old new : Option (List ℕ)) : Type 0 where
  pub bytes : List ℕ
  pub reads : ReadsAll old new bytes
  pub none : HasNoJob bytes

-- why there is no reply
abbrev pub Stops : Status → Option (List ℕ) → Option (List ℕ) → Type 0
Stops status.NotAJob old new = ReadsNoJob old new
Stops status.TooLong old new = IsSome old → limit < taken_len old new
Stops status.ReadFault old new = Unit {0}
Stops status.OutOfMemory old new = Unit {0}
Stops status.Ok old new = ⊥
Stops status.Refused old new = ⊥
Stops status.Usage old new = ⊥
Stops status.WriteFault old new = ⊥

-- the text of a reply, and the status that says that it was written
abbrev pub text_of : Reply → List ℕ
text_of (reply.Page text) = text
text_of (reply.Refusal text) = text

abbrev pub status_of : Reply → Status
status_of (reply.Page text) = status.Ok
status_of (reply.Refusal text) = status.Refused

-- what writing a reply answers
abbrev pub Writes : Status → Reply → Option (List ℕ) → Option (List ℕ) → Type 0
Writes status.Ok reply old new = (status.Ok ≡ status_of reply) × Appends old new (text_of reply)
Writes status.Refused reply old new = (status.Refused ≡ status_of reply) × Appends old new (text_of reply)
Writes status.WriteFault reply old new = AppendsFront old new (text_of reply)
Writes status.OutOfMemory reply old new = AppendsFront old new (text_of reply)
Writes status.NotAJob reply old new = ⊥
Writes status.TooLong reply old new = ⊥
Writes status.ReadFault reply old new = ⊥
Writes status.Usage reply old new = ⊥

-- The reply that goes with the status was written whole.
pub record Replies (wanted : Status) (left left' held held' : Option (List ℕ)) (before after : ℕ) : Type 0 where
  pub reply : Reply
  pub kind : wanted ≡ status_of reply
  pub has : HasReply left left' reply before after
  pub written : Appends held held' (text_of reply)

-- The front of a reply was written.
pub record RepliesInPart (left left' held held' : Option (List ℕ)) (before after : ℕ) : Type 0 where
  pub reply : Reply
  pub has : HasReply left left' reply before after
  pub written : AppendsFront held held' (text_of reply)

-- what a status says of the bytes and the count
abbrev pub Outcome : Status → Option (List ℕ) → Option (List ℕ) → Option (List ℕ) → Option (List ℕ) → ℕ → ℕ → Type 0
Outcome status.Ok left left' held held' before after = Replies status.Ok left left' held held' before after
Outcome status.Refused left left' held held' before after = Replies status.Refused left left' held held' before after
Outcome status.Usage left left' held held' before after = Keeps left left' × Keeps held held'
Outcome status.NotAJob left left' held held' before after = ReadsNoJob left left' × Keeps held held'
Outcome status.ReadFault left left' held held' before after = Keeps held held'
Outcome status.WriteFault left left' held held' before after = RepliesInPart left left' held held' before after
Outcome status.OutOfMemory left left' held held' before after = Keeps held held' ⊎ RepliesInPart left left' held held' before after
Outcome status.TooLong left left' held held' before after = (IsSome left → limit < taken_len left left') × Keeps held held'

-- a job that reaches its end, a job that has an error, bytes that are no job, and bytes above the limit: each has its status
abbrev pub IsOwed : List ℕ → Status → Type 0
IsOwed bytes status.Ok = (job : JobView) × (answers : List Answer) × (last : Flat) × (length bytes ≤ limit) × IsJobOf bytes job × Reaches job.parts job.plan answers last
IsOwed bytes status.Refused = (job : JobView) × (error : ColumnError) × (length bytes ≤ limit) × IsJobOf bytes job × IsPlanError job.parts job.plan error
IsOwed bytes status.NotAJob = (length bytes ≤ limit) × HasNoJob bytes
IsOwed bytes status.TooLong = limit < length bytes
IsOwed bytes status.Usage = ⊥
IsOwed bytes status.ReadFault = ⊥
IsOwed bytes status.WriteFault = ⊥
IsOwed bytes status.OutOfMemory = ⊥

-- the status is this one, unless memory ran out
abbrev pub IsUnlessMemory : Status → Status → Type 0
IsUnlessMemory s wanted = (s ≡ wanted) ⊎ (s ≡ status.OutOfMemory)
