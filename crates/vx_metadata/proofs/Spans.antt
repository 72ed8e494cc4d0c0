-- One chunk more, whose length may not be its span.
use Rattle.std.proofs.Common.{◌≡◌, ℕ, ◌+◌, ◌-◌, ◌<◌, List, map, length, get_or, sym, ◌∙◌, ap, Bool, false, ◌||◌, not, eqb}
use Rattle.std.proofs.lemmas.List.{get_or-map, length-map}
use Rattle.vx_base.specs.Column.{Flat}
use Rattle.vx_lanes.specs.Rules.{any_below}
use Rattle.vx_lanes.proofs.Firsts.{any_below_none, any_below_push}
use Rattle.vx_column.specs.declared.column.Column.{Column}
use Rattle.vx_column.specs.Columns.{len_of}
use Rattle.vx_metadata.specs.Boundaries.{bound_at, off_span, boundary_length}

pub none_off : (offsets : Flat) (chunks : List Column) → false ≡ any_below (off_span offsets (map len_of chunks)) 0
none_off offsets chunks = sym (any_below_none (off_span offsets (map len_of chunks)))

pub one_more_off : (offsets : Flat) (chunks : List Column) (k : ℕ) (chunk : Column) (before after : Bool) (len start end : ℕ) → after ≡ (before || not (eqb len (end - start))) → k < length chunks → chunk ≡ get_or chunks k chunk →
    before ≡ any_below (off_span offsets (map len_of chunks)) k → len ≡ len_of chunk → start ≡ bound_at offsets k → end ≡ bound_at offsets (k + 1) →
    after ≡ any_below (off_span offsets (map len_of chunks)) (k + 1)
one_more_off offsets chunks k chunk before after len start end f h at b l s e =
    let own : get_or (map len_of chunks) k 0 ≡ len = get_or-map len_of chunks k chunk 0 h ∙ ap len_of (sym at) ∙ sym l in
    let here : off_span offsets (map len_of chunks) k ≡ not (eqb len (end - start)) = λ i. not (eqb (own i) (sym e i - sym s i)) in
    f ∙ sym (any_below_push (off_span offsets (map len_of chunks)) k before (not (eqb len (end - start))) (sym b) here)

pub all_off : (offsets : Flat) (chunks : List Column) (k : ℕ) (off : Bool) → k ≡ length chunks → off ≡ any_below (off_span offsets (map len_of chunks)) k → off ≡ boundary_length offsets (map len_of chunks)
unfolding boundary_length
all_off offsets chunks k off e h = h ∙ ap (any_below (off_span offsets (map len_of chunks))) (e ∙ sym (length-map chunks len_of))
