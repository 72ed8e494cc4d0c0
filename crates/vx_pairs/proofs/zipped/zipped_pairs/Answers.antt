use Rattle.std.proofs.Common.{arith, refl, sym, ◌∙◌, ap, subst, ℕ, List, length, map, take}
use Rattle.std.proofs.lemmas.List.{take_all}
use Rattle.std.proofs.lemmas.List.Elements.{All-push}
use Rattle.std.specs.List.{All, slice_range}
use Rattle.vx_scalars.specs.Elementwise.{chosen, chosen_type}
use Rattle.vx_scalars.proofs.Lists.{length_chosen}
use Rattle.vx_job.specs.Rows.{joined}
use Rattle.vx_column.specs.Columns.{IsSound, IsOf, rows_of, type_of, len_of}
use Rattle.vx_column.specs.declared.column.Column.{Column}
use Rattle.vx_column.specs.declared.column.Column.TheVariants as column
use Rattle.vx_column.proofs.Cuts.{total_is}
use Rattle.vx_pairs.specs.Chunks.{IsNext}
use Rattle.vx_pairs.specs.Pairs.{IsPair, Cover}
use Rattle.vx_pairs.proofs.Slices.{none_left}
use Rattle.vx_pairs.proofs.Zips.{begins, begins_at, joined_more}
use Rattle.vx_pairs.proofs.Parts.{part_of, next_of, each_next, part_long, part_paired, part_alike, part_type, part_rows}
use Rattle.vx_pairs.proofs.zipped.zipped_pairs.Goals as goal

pub loop-chunks-init : goal.loop-chunks-init
loop-chunks-init g c =
    let left = c.args.left.now in
    let right = c.args.right.now in
    let n = len_of (column.Chunked left) in
    let all = c.in_ok-pairs.ensures.ok in
    let ranges = c.in_ok-pairs.pairs.ranges in
    let rows = chosen (rows_of (column.Chunked left)) (rows_of (column.Chunked right)) c.args.choice.now in
    let from_0 = subst (λ (m : ℕ). Cover 0 m ranges) (total_is left) all.ranges.cover in
    let begin = begins_at 0 n ranges from_0 in
    let none = c.new-chunks.ensures.items in
    record {
      left_is = all.left_is;
      right_is = all.right_is;
      each = all.ranges.each;
      cover = subst (λ (k : ℕ). Cover k n ranges) (sym begin) from_0;
      rows = ap (λ (ys : List Column). joined (map rows_of ys)) none ∙ sym (ap (λ (k : ℕ). take k rows) begin);
      sound = λ k d h. absurd (omega (arith, ap length none));
      types = λ k d h. absurd (omega (arith, ap length none));
      monotone = omega arith;
    }

pub zip_pair-requires-clause-ordered : goal.zip_pair-requires-clause-ordered
zip_pair-requires-clause-ordered g c =
    let inv = c.loop-chunks.invariant in
    let before = c.loop-chunks.pairs in
    let after = c.next_pair.new.self in
    let next = subst (IsNext before after) c.in-Some.is c.in_ok-pair.ensures.ok in
    (part_of c.args.left.now c.args.right.now before after c.in-Some.pair inv.left_is inv.right_is inv.each next).ordered

pub zip_pair-requires-clause-within : goal.zip_pair-requires-clause-within
zip_pair-requires-clause-within g c =
    let inv = c.loop-chunks.invariant in
    let before = c.loop-chunks.pairs in
    let after = c.next_pair.new.self in
    let next = subst (IsNext before after) c.in-Some.is c.in_ok-pair.ensures.ok in
    let part = part_of c.args.left.now c.args.right.now before after c.in-Some.pair inv.left_is inv.right_is inv.each next in
    omega (arith, part.within, c.requires.long)

pub zip_pair-requires-clause-sound : goal.zip_pair-requires-clause-sound
zip_pair-requires-clause-sound g c =
    let inv = c.loop-chunks.invariant in
    let before = c.loop-chunks.pairs in
    let after = c.next_pair.new.self in
    let next = subst (IsNext before after) c.in-Some.is c.in_ok-pair.ensures.ok in
    (part_of c.args.left.now c.args.right.now before after c.in-Some.pair inv.left_is inv.right_is inv.each next).left_is.sound

pub zip_pair-requires-clause-other : goal.zip_pair-requires-clause-other
zip_pair-requires-clause-other g c =
    let inv = c.loop-chunks.invariant in
    let before = c.loop-chunks.pairs in
    let after = c.next_pair.new.self in
    let next = subst (IsNext before after) c.in-Some.is c.in_ok-pair.ensures.ok in
    (part_of c.args.left.now c.args.right.now before after c.in-Some.pair inv.left_is inv.right_is inv.each next).right_is.sound

pub zip_pair-requires-clause-long : goal.zip_pair-requires-clause-long
zip_pair-requires-clause-long g c =
    let inv = c.loop-chunks.invariant in
    let left = c.args.left.now in
    let right = c.args.right.now in
    let before = c.loop-chunks.pairs in
    let after = c.next_pair.new.self in
    let pair = c.in-Some.pair in
    let next = subst (IsNext before after) c.in-Some.is c.in_ok-pair.ensures.ok in
    let part = part_of left right before after pair inv.left_is inv.right_is inv.each next in
    part_long left right pair part c.args.choice.now (slice_range c.args.choice.now pair.pos.start pair.pos.end) c.requires.long refl

pub zip_pair-requires-clause-paired : goal.zip_pair-requires-clause-paired
zip_pair-requires-clause-paired g c =
    let inv = c.loop-chunks.invariant in
    let left = c.args.left.now in
    let right = c.args.right.now in
    let before = c.loop-chunks.pairs in
    let after = c.next_pair.new.self in
    let pair = c.in-Some.pair in
    let next = subst (IsNext before after) c.in-Some.is c.in_ok-pair.ensures.ok in
    part_paired left right pair (part_of left right before after pair inv.left_is inv.right_is inv.each next) c.requires.paired

pub zip_pair-requires-clause-alike : goal.zip_pair-requires-clause-alike
zip_pair-requires-clause-alike g c =
    let inv = c.loop-chunks.invariant in
    let left = c.args.left.now in
    let right = c.args.right.now in
    let before = c.loop-chunks.pairs in
    let after = c.next_pair.new.self in
    let pair = c.in-Some.pair in
    let next = subst (IsNext before after) c.in-Some.is c.in_ok-pair.ensures.ok in
    part_alike left right pair (part_of left right before after pair inv.left_is inv.right_is inv.each next) c.requires.alike

pub loop-chunks-smaller : goal.loop-chunks-smaller
loop-chunks-smaller g c =
    let before = c.loop-chunks.pairs in
    let after = c.next_pair.new.self in
    let next = subst (IsNext before after) c.in-Some.is c.in_ok-pair.ensures.ok in
    (next_of (len_of (column.Chunked c.args.left.now)) before after c.in-Some.pair c.loop-chunks.invariant.cover next).fewer

pub loop-chunks-preserved : goal.loop-chunks-preserved
loop-chunks-preserved g c =
    let inv = c.loop-chunks.invariant in
    let left = c.args.left.now in
    let right = c.args.right.now in
    let choice = c.args.choice.now in
    let before = c.loop-chunks.pairs in
    let after = c.next_pair.new.self in
    let pair = c.in-Some.pair in
    let n = len_of (column.Chunked left) in
    let t = chosen_type (type_of (column.Chunked left)) (type_of (column.Chunked right)) in
    let rows = chosen (rows_of (column.Chunked left)) (rows_of (column.Chunked right)) choice in
    let done = c.loop-chunks.chunks.items in
    let x = c.in_ok-zip_pair.field-0 in
    let bits = slice_range choice pair.pos.start pair.pos.end in
    let given = chosen (rows_of pair.left) (rows_of pair.right) bits in
    let step = subst (IsNext before after) c.in-Some.is c.in_ok-pair.ensures.ok in
    let part = part_of left right before after pair inv.left_is inv.right_is inv.each step in
    let next = next_of n before after pair inv.cover step in
    let more = c.in_ok-push.ensures.items in
    let zipped = c.in_ok-zip_pair.ensures.ok in
    record {
      left_is = next.left_same ∙ inv.left_is;
      right_is = next.right_same ∙ inv.right_is;
      each = each_next (IsPair (map len_of left.chunks) (map len_of right.chunks)) before after pair inv.each step;
      cover = next.cover;
      rows = ap (λ (ys : List Column). joined (map rows_of ys)) more
          ∙ joined_more done x rows pair.pos.start pair.pos.end part.ordered (inv.rows ∙ ap (λ (k : ℕ). take k rows) next.from)
          (part_rows left right pair part x (chosen_type (type_of pair.left) (type_of pair.right)) choice bits refl zipped)
          ∙ sym (ap (λ (k : ℕ). take k rows) next.to);
      sound = subst (All IsSound) (sym more) (All-push IsSound done x inv.sound c.in_ok-zip_pair.ensures.sound);
      types = subst (All (IsOf t)) (sym more) (All-push (IsOf t) done x inv.types (part_type left right pair part x given zipped));
      monotone = omega (arith, inv.monotone, c.next_pair.ensures.monotone, c.zip_pair.ensures.monotone);
    }

pub returns-clause-rows : goal.returns-clause-rows
returns-clause-rows g c =
    let inv = c.loop-chunks.invariant in
    let left = c.args.left.now in
    let right = c.args.right.now in
    let choice = c.args.choice.now in
    let before = c.loop-chunks.pairs in
    let n = len_of (column.Chunked left) in
    let rows = chosen (rows_of (column.Chunked left)) (rows_of (column.Chunked right)) choice in
    let none = none_left before c.next_pair.new.self (subst (IsNext before c.next_pair.new.self) c.in_default.is c.in_ok-pair.ensures.ok) in
    let long = length_chosen (rows_of (column.Chunked left)) (rows_of (column.Chunked right)) choice c.requires.paired c.requires.long in
    inv.rows ∙ ap (λ (k : ℕ). take k rows) (ap (begins n) none) ∙ take_all n rows (omega (arith, long))
