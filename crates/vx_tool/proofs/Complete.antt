-- Where neither end fails, the bytes decide the status, unless memory runs out.
use Rattle.std.proofs.Common.{◌≡◌, ◌≤◌, ◌<◌, ℕ, List, length, Some, None, inl, inr, refl, sym, ◌∙◌, subst, arith}
use Rattle.std.specs.declared.option.Option.{Option}
use Rattle.std.specs.Io.KnownBytes.{Keeps}
use Rattle.vx_job.specs.Plans.{Reaches, IsPlanError}
use Rattle.vx_plan.proofs.Headline.{no_error}
use Rattle.vx_ends.specs.Moved.{taken_len, Tells}
use Rattle.vx_job.specs.JobView.{JobView}
use Rattle.vx_json.specs.Bytes.{HasNoJob}
use Rattle.vx_json.proofs.Jobs.{one_job}
use Rattle.vx_tool.specs.Outcome.{limit, AnswersBytes, HasReply, Stops, Writes, Outcome, Replies, status_of, IsOwed, IsUnlessMemory}
use Rattle.vx_tool.specs.declared.reply.Reply.{Reply}
use Rattle.vx_tool.specs.declared.reply.Reply.TheVariants as reply
use Rattle.vx_tool.specs.declared.status.Status.{Status}
use Rattle.vx_tool.specs.declared.status.Status.TheVariants as status

told : (left : Option (List ℕ)) (bytes others : List ℕ) → left ≡ Some bytes → Tells left others → others ≡ bytes
told left bytes others is h = sym (rw is at h)

taken_within : (left left' : Option (List ℕ)) (bytes : List ℕ) → left ≡ Some bytes → taken_len left left' ≤ length bytes
taken_within left None bytes is = rw is (omega arith)
taken_within left (Some rest) bytes is = rw is (omega arith)

-- a reply to the bytes goes with the status that they are owed
reply_settles : (wanted : Status) (bytes : List ℕ) (r : Reply) (before after : ℕ) → length bytes ≤ limit → AnswersBytes bytes r before after → IsOwed bytes wanted → status_of r ≡ wanted
reply_settles status.Ok bytes (reply.Page text) before after small a owed = refl
reply_settles status.Ok bytes (reply.Refusal text) before after small a (job, answers, last, fits, is_job, reaches) =
    let same = one_job a.is_job is_job in
    absurd (no_error job.parts job.plan answers last reaches a.answers.error (subst (λ (j : JobView). IsPlanError j.parts j.plan a.answers.error) same a.answers.admits))
reply_settles status.Refused bytes (reply.Page text) before after small a (job, error, fits, is_job, admits) =
    let same = one_job a.is_job is_job in
    absurd (no_error job.parts job.plan a.answers.answers a.answers.last (subst (λ (j : JobView). Reaches j.parts j.plan a.answers.answers a.answers.last) same a.answers.reaches) error admits)
reply_settles status.Refused bytes (reply.Refusal text) before after small a owed = refl
reply_settles status.NotAJob bytes r before after small a owed = absurd (owed.1 a.job a.is_job)
reply_settles status.TooLong bytes r before after small a owed = absurd (omega (arith, owed, small))
reply_settles status.Usage bytes r before after small a owed = absurd owed
reply_settles status.ReadFault bytes r before after small a owed = absurd owed
reply_settles status.WriteFault bytes r before after small a owed = absurd owed
reply_settles status.OutOfMemory bytes r before after small a owed = absurd owed

no_job_settles : (wanted : Status) (bytes : List ℕ) → length bytes ≤ limit → HasNoJob bytes → IsOwed bytes wanted → status.NotAJob ≡ wanted
no_job_settles status.Ok bytes small none (job, answers, last, fits, is_job, reaches) = absurd (none job is_job)
no_job_settles status.Refused bytes small none (job, error, fits, is_job, admits) = absurd (none job is_job)
no_job_settles status.NotAJob bytes small none owed = refl
no_job_settles status.TooLong bytes small none owed = absurd (omega (arith, owed, small))
no_job_settles status.Usage bytes small none owed = absurd owed
no_job_settles status.ReadFault bytes small none owed = absurd owed
no_job_settles status.WriteFault bytes small none owed = absurd owed
no_job_settles status.OutOfMemory bytes small none owed = absurd owed

long_settles : (wanted : Status) (bytes : List ℕ) → limit < length bytes → IsOwed bytes wanted → status.TooLong ≡ wanted
long_settles status.Ok bytes long (job, answers, last, fits, is_job, reaches) = absurd (omega (arith, long, fits))
long_settles status.Refused bytes long (job, error, fits, is_job, admits) = absurd (omega (arith, long, fits))
long_settles status.NotAJob bytes long owed = absurd (omega (arith, long, owed.0))
long_settles status.TooLong bytes long owed = refl
long_settles status.Usage bytes long owed = absurd owed
long_settles status.ReadFault bytes long owed = absurd owed
long_settles status.WriteFault bytes long owed = absurd owed
long_settles status.OutOfMemory bytes long owed = absurd owed

written_settles : (s wanted : Status) (left left' held held' : Option (List ℕ)) (before after : ℕ) (bytes : List ℕ) → Replies s left left' held held' before after
    → left ≡ Some bytes → IsOwed bytes wanted → s ≡ wanted
written_settles s wanted left left' held held' before after bytes h is owed =
    let same = told left bytes h.has.bytes is h.has.reads.whole in
    h.kind ∙ reply_settles wanted bytes h.reply before after (subst (λ (b : List ℕ). length b ≤ limit) same h.has.reads.within)
    (subst (λ (b : List ℕ). AnswersBytes b h.reply before after) same h.has.gives) owed

pub complete : (s wanted : Status) (left left' held held' : Option (List ℕ)) (before after : ℕ) (bytes : List ℕ)
    → Outcome s left left' held held' before after → left ≡ Some bytes → IsOwed bytes wanted
    → (s ≡ status.Usage → ⊥) → (s ≡ status.ReadFault → ⊥) → (s ≡ status.WriteFault → ⊥) → IsUnlessMemory s wanted
complete status.Ok wanted left left' held held' before after bytes h is owed usage read write =
    inl (written_settles status.Ok wanted left left' held held' before after bytes h is owed)
complete status.Refused wanted left left' held held' before after bytes h is owed usage read write =
    inl (written_settles status.Refused wanted left left' held held' before after bytes h is owed)
complete status.Usage wanted left left' held held' before after bytes h is owed usage read write = absurd (usage refl)
complete status.NotAJob wanted left left' held held' before after bytes h is owed usage read write =
    let same = told left bytes h.0.bytes is h.0.reads.whole in
    inl (no_job_settles wanted bytes (subst (λ (b : List ℕ). length b ≤ limit) same h.0.reads.within) (subst HasNoJob same h.0.none) owed)
complete status.ReadFault wanted left left' held held' before after bytes h is owed usage read write = absurd (read refl)
complete status.WriteFault wanted left left' held held' before after bytes h is owed usage read write = absurd (write refl)
complete status.OutOfMemory wanted left left' held held' before after bytes h is owed usage read write = inr refl
complete status.TooLong wanted left left' held held' before after bytes h is owed usage read write =
    let more : limit < taken_len left left' = h.0 (rw is refl) in
    inl (long_settles wanted bytes (omega (arith, taken_within left left' bytes is, more)) owed)

-- ---- the outcome of each way that a run ends

-- a reply that was made, and what writing it answers
pub written_outcome : (s : Status) (r : Reply) (left left' held held' : Option (List ℕ)) (before after : ℕ) → HasReply left left' r before after → Writes s r held held'
    → Outcome s left left' held held' before after
written_outcome status.Ok r left left' held held' before after has w = record { reply = r; kind = w.0; has = has; written = w.1 }
written_outcome status.Refused r left left' held held' before after has w = record { reply = r; kind = w.0; has = has; written = w.1 }
written_outcome status.Usage r left left' held held' before after has w = absurd w
written_outcome status.NotAJob r left left' held held' before after has w = absurd w
written_outcome status.ReadFault r left left' held held' before after has w = absurd w
written_outcome status.WriteFault r left left' held held' before after has w = record { reply = r; has = has; written = w }
written_outcome status.OutOfMemory r left left' held held' before after has w = inr (record { reply = r; has = has; written = w })
written_outcome status.TooLong r left left' held held' before after has w = absurd w

-- no reply was made, and nothing was written
pub stopped_outcome : (s : Status) (left left' held held' : Option (List ℕ)) (before after : ℕ) → Stops s left left' → Keeps held held' → Outcome s left left' held held' before after
stopped_outcome status.Ok left left' held held' before after stops same = absurd stops
stopped_outcome status.Refused left left' held held' before after stops same = absurd stops
stopped_outcome status.Usage left left' held held' before after stops same = absurd stops
stopped_outcome status.NotAJob left left' held held' before after stops same = (stops, same)
stopped_outcome status.ReadFault left left' held held' before after stops same = same
stopped_outcome status.WriteFault left left' held held' before after stops same = absurd stops
stopped_outcome status.OutOfMemory left left' held held' before after stops same = inl same
stopped_outcome status.TooLong left left' held held' before after stops same = (stops, same)

pub keeps_same : (held : Option (List ℕ)) → Keeps held held
keeps_same None = tt
keeps_same (Some bytes) = refl

pub never_usage : (s : Status) (r : Reply) (held held' : Option (List ℕ)) → Writes s r held held' → s ≡ status.Usage → ⊥
never_usage s r held held' w e = subst (λ (z : Status). Writes z r held held') e w

pub never_read_fault : (s : Status) (r : Reply) (held held' : Option (List ℕ)) → Writes s r held held' → s ≡ status.ReadFault → ⊥
never_read_fault s r held held' w e = subst (λ (z : Status). Writes z r held held') e w

pub stops_no_usage : (s : Status) (left left' : Option (List ℕ)) → Stops s left left' → s ≡ status.Usage → ⊥
stops_no_usage s left left' stops e = subst (λ (z : Status). Stops z left left') e stops

pub stops_no_write_fault : (s : Status) (left left' : Option (List ℕ)) → Stops s left left' → s ≡ status.WriteFault → ⊥
stops_no_write_fault s left left' stops e = subst (λ (z : Status). Stops z left left') e stops
