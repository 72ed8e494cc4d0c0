use Rattle.std.proofs.Common.{◌≡◌, ℕ, List, ◌+◌, ◌≤◌, ◌<◌, subst, arith, ap, ◌∙◌, length, take, get_or}
use Rattle.std.proofs.lemmas.List.{length-map}
use Rattle.vx_search.specs.Places.{search_bound}
use Rattle.vx_chunks.specs.Bounds.{total}
use Rattle.vx_column.specs.Columns.{len_of}
use Rattle.vx_column.proofs.Cuts.{total_is}
use Rattle.vx_column.proofs.chunked.Chunked+Column.find_chunk_idx.Goals as goal

pub find_chunk_idx-requires : goal.find_chunk_idx-requires
find_chunk_idx-requires g c = omega (arith, ap total c.boundaries.ensures, total_is c.args.self.now)

pub returns-clause-row : goal.returns-clause-row
returns-clause-row g c =
    let r = c.find_chunk_idx.result in
    subst (λ (lens : List ℕ). total (take r.0 lens) + r.1 ≡ c.args.index) c.boundaries.ensures c.find_chunk_idx.ensures.row

pub returns-clause-inside : goal.returns-clause-inside
returns-clause-inside g c h =
    let r = c.find_chunk_idx.result in
    let same = c.boundaries.ensures in
    let there = c.find_chunk_idx.ensures.inside (omega (arith, ap total same, total_is c.args.self.now)) in
    (omega (arith, there.0, ap length same, length-map c.args.self.now.chunks len_of), subst (λ (lens : List ℕ). r.1 < get_or lens r.0 0) same there.1)

pub returns-clause-last : goal.returns-clause-last
returns-clause-last g c h =
    let r = c.find_chunk_idx.result in
    let same = c.boundaries.ensures in
    let there = c.find_chunk_idx.ensures.last (omega (arith, ap total same, total_is c.args.self.now)) in
    (omega (arith, there.0, ap length same, length-map c.args.self.now.chunks len_of), subst (λ (lens : List ℕ). r.1 ≡ get_or lens r.0 0) same there.1)

pub returns-clause-rise : goal.returns-clause-rise
returns-clause-rise g c =
    let self = c.args.self.now in
    subst (λ n. c.find_chunk_idx.new.steps ≤ c.args.steps.now + search_bound (n + 1)) (ap length c.boundaries.ensures ∙ length-map self.chunks len_of) c.find_chunk_idx.ensures.rise
