use Rattle.std.proofs.Common.{refl, ◌≡◌, ◌+◌, ◌-◌, ◌*◌, ◌<◌, ◌≤◌, List, length, subst, ap, ◌∙◌, arith, sym}
use Rattle.std.proofs.lemmas.List.Elements.{All-take, All-drop}
use Rattle.std.proofs.lemmas.List.{length-map}
use Rattle.std.proofs.lemmas.Bool.{false≢true}
use Rattle.std.proofs.lemmas.Result.{IfOk-weaker}
use Rattle.std.specs.List.{slice_range}
use Rattle.vx_base.specs.Ranges.{ends_cut}
use Rattle.vx_column.specs.Columns.{len_of, IsSound, cut_cost, IsSliceOf, IsOf, IsWhole, IsPlain}
use Rattle.vx_column.specs.declared.column.Column.{Column}
use Rattle.vx_column.specs.declared.column.Column.TheVariants as column
use Rattle.vx_column.proofs.Cuts.{cut_one, cut_many, fits_many, same_at, held_at, all_round, rise_inside, rise_front, rise_across, rise_plan, flat_slice, whole_slice, total_is, plain_in}
use Rattle.std.proofs.Common.{sym}
use Rattle.vx_lanes.specs.Layouts.{layout_slice}
use Rattle.vx_lanes.specs.declared.layout.Layout.{Layout}
use Rattle.vx_column.specs.Excepts.{IsKeptOf, IsExceptedOf}
use Rattle.vx_column.specs.LanesOver.{IsPatchedOf}
use Rattle.vx_column.proofs.Layers.{lanes_here}
use Rattle.vx_column.proofs.Excepts.{cut_kinds, cut_some, cut_none, rise_base, rise_values}
use Rattle.vx_column.proofs.LaneRows.{IsLaneCut, lanes_slice, layout_long, cut_kinds as lane_kinds, cut_lanes, rise_inner}
use Rattle.vx_column.proofs.+cut.Goals as goal

pub chunked::Chunked+Column::cut-returns-in_ok-share-in-Whole-clause-ok : goal.chunked::Chunked+Column::cut-returns-in_ok-share-in-Whole-clause-ok
chunked::Chunked+Column::cut-returns-in_ok-share-in-Whole-clause-ok g t c =
    let self = c.args.self.now in
    whole_slice (column.Chunked self) _ c.args.start c.args.end (ap column.Chunked c.in_ok-share-in-Whole.ensures.ok) c.requires.sound c.in-Whole.ensures.plan.0 (c.in-Whole.ensures.plan.1 ∙ total_is self)

pub chunked::Chunked+Column::cut-returns-in_ok-share-in-Whole-clause-rise : goal.chunked::Chunked+Column::cut-returns-in_ok-share-in-Whole-clause-rise
chunked::Chunked+Column::cut-returns-in_ok-share-in-Whole-clause-rise g t c plain =
    rise_plan c.args.self.now c.args.start c.args.end c.args.steps.now c.pieces-plan.new.steps c.pieces-plan.ensures.rise

pub chunked::Chunked+Column::cut-returns-in-Empty-clause-rise : goal.chunked::Chunked+Column::cut-returns-in-Empty-clause-rise
chunked::Chunked+Column::cut-returns-in-Empty-clause-rise g t c plain =
    rise_plan c.args.self.now c.args.start c.args.end c.args.steps.now c.pieces-plan.new.steps c.pieces-plan.ensures.rise

pub chunked::Chunked+Column::cut-returns-in-One-clause-ok : goal.chunked::Chunked+Column::cut-returns-in-One-clause-ok
chunked::Chunked+Column::cut-returns-in-One-clause-ok g t c =
    let self = c.args.self.now in
    let at = c.in-One in
    let span = at.ensures.plan.1 in
    let same = c.children-chunks.ensures.value in
    let x = c.index-chunks-chunk.result in
    let at_x = same_at c.children-chunks.result.now self.chunks at.chunk x same c.index-chunks-chunk.is in
    IfOk-weaker c.cut.result (λ part. IsSliceOf x part at.start at.end) (λ part. IsSliceOf (column.Chunked self) part c.args.start c.args.end)
    (λ part slice. cut_one self c.args.start c.args.end at.chunk at.start at.chunk at.end span refl at.ensures.plan.0.0 x at_x
    (held_at (IsOf self.dtype) c.children-chunks.result.now at.chunk x c.children-chunks.ensures.types (omega (arith, span.within, length-map self.chunks len_of, ap length same)) c.index-chunks-chunk.is) part slice)
    c.cut.ensures.ok

pub chunked::Chunked+Column::cut-returns-in-One-clause-rise : goal.chunked::Chunked+Column::cut-returns-in-One-clause-rise
chunked::Chunked+Column::cut-returns-in-One-clause-rise g t c plain =
    let self = c.args.self.now in
    let at = c.in-One in
    let span = at.ensures.plan.1 in
    let same = c.children-chunks.ensures.value in
    let x = c.index-chunks-chunk.result in
    let at_x = same_at c.children-chunks.result.now self.chunks at.chunk x same c.index-chunks-chunk.is in
    rise_inside self c.args.start c.args.end at.chunk at.start at.chunk at.end span refl x at_x c.args.steps.now c.pieces-plan.new.steps c.cut.new.steps c.pieces-plan.ensures.rise (c.cut.ensures.rise (plain_in self at.chunk x plain span.within at_x))

pub chunked::Chunked+Column::cut-returns-in_err-front-in-Many-clause-rise : goal.chunked::Chunked+Column::cut-returns-in_err-front-in-Many-clause-rise
chunked::Chunked+Column::cut-returns-in_err-front-in-Many-clause-rise g t c plain =
    let self = c.args.self.now in
    let at = c.in-Many in
    let span = at.ensures.plan.2 in
    let same = c.children-chunks.ensures.value in
    let x = c.index-chunks-first.result in
    let at_x = same_at c.children-chunks.result.now self.chunks at.first x same c.index-chunks-first.is in
    let y = c.index-chunks-last.result in
    let at_y = same_at c.children-chunks.result.now self.chunks at.last y same c.index-chunks-last.is in
    let front : c.cut-in-Many.new.steps ≤ c.pieces-plan.new.steps + ends_cut at.first_start (len_of x) (len_of x) * cut_cost x =
    subst (λ n. c.cut-in-Many.new.steps ≤ c.pieces-plan.new.steps + ends_cut at.first_start n (len_of x) * cut_cost x) c.len.ensures (c.cut-in-Many.ensures.rise (plain_in self at.first x plain (omega (arith, span.ordered, span.within)) at_x)) in
    rise_front self c.args.start c.args.end at.first at.first_start at.last at.last_end span x y at_x at_y c.args.steps.now c.pieces-plan.new.steps c.cut-in-Many.new.steps c.pieces-plan.ensures.rise front

pub chunked::Chunked+Column::cut-returns-in_err-back-in-Many-clause-rise : goal.chunked::Chunked+Column::cut-returns-in_err-back-in-Many-clause-rise
chunked::Chunked+Column::cut-returns-in_err-back-in-Many-clause-rise g t c plain =
    let self = c.args.self.now in
    let at = c.in-Many in
    let span = at.ensures.plan.2 in
    let same = c.children-chunks.ensures.value in
    let x = c.index-chunks-first.result in
    let at_x = same_at c.children-chunks.result.now self.chunks at.first x same c.index-chunks-first.is in
    let y = c.index-chunks-last.result in
    let at_y = same_at c.children-chunks.result.now self.chunks at.last y same c.index-chunks-last.is in
    let front : c.cut-in-Many.new.steps ≤ c.pieces-plan.new.steps + ends_cut at.first_start (len_of x) (len_of x) * cut_cost x =
    subst (λ n. c.cut-in-Many.new.steps ≤ c.pieces-plan.new.steps + ends_cut at.first_start n (len_of x) * cut_cost x) c.len.ensures (c.cut-in-Many.ensures.rise (plain_in self at.first x plain (omega (arith, span.ordered, span.within)) at_x)) in
    rise_across self c.args.start c.args.end at.first at.first_start at.last at.last_end span x y at_x at_y c.args.steps.now c.pieces-plan.new.steps c.cut-in-Many.new.steps c.cut-in-Many-2.new.steps
    c.pieces-plan.ensures.rise front (c.cut-in-Many-2.ensures.rise (plain_in self at.last y plain span.within at_y))

pub chunked::Chunked+Column::cut-returns-in_err-array-in-Many-clause-rise : goal.chunked::Chunked+Column::cut-returns-in_err-array-in-Many-clause-rise
chunked::Chunked+Column::cut-returns-in_err-array-in-Many-clause-rise g t c plain =
    let self = c.args.self.now in
    let at = c.in-Many in
    let span = at.ensures.plan.2 in
    let same = c.children-chunks.ensures.value in
    let x = c.index-chunks-first.result in
    let at_x = same_at c.children-chunks.result.now self.chunks at.first x same c.index-chunks-first.is in
    let y = c.index-chunks-last.result in
    let at_y = same_at c.children-chunks.result.now self.chunks at.last y same c.index-chunks-last.is in
    let front : c.cut-in-Many.new.steps ≤ c.pieces-plan.new.steps + ends_cut at.first_start (len_of x) (len_of x) * cut_cost x =
    subst (λ n. c.cut-in-Many.new.steps ≤ c.pieces-plan.new.steps + ends_cut at.first_start n (len_of x) * cut_cost x) c.len.ensures (c.cut-in-Many.ensures.rise (plain_in self at.first x plain (omega (arith, span.ordered, span.within)) at_x)) in
    rise_across self c.args.start c.args.end at.first at.first_start at.last at.last_end span x y at_x at_y c.args.steps.now c.pieces-plan.new.steps c.cut-in-Many.new.steps c.cut-in-Many-2.new.steps
    c.pieces-plan.ensures.rise front (c.cut-in-Many-2.ensures.rise (plain_in self at.last y plain span.within at_y))

pub chunked::Chunked+Column::cut-returns-in_ok-array-in-Many-clause-rise : goal.chunked::Chunked+Column::cut-returns-in_ok-array-in-Many-clause-rise
chunked::Chunked+Column::cut-returns-in_ok-array-in-Many-clause-rise g t c plain =
    let self = c.args.self.now in
    let at = c.in-Many in
    let span = at.ensures.plan.2 in
    let same = c.children-chunks.ensures.value in
    let x = c.index-chunks-first.result in
    let at_x = same_at c.children-chunks.result.now self.chunks at.first x same c.index-chunks-first.is in
    let y = c.index-chunks-last.result in
    let at_y = same_at c.children-chunks.result.now self.chunks at.last y same c.index-chunks-last.is in
    let front : c.cut-in-Many.new.steps ≤ c.pieces-plan.new.steps + ends_cut at.first_start (len_of x) (len_of x) * cut_cost x =
    subst (λ n. c.cut-in-Many.new.steps ≤ c.pieces-plan.new.steps + ends_cut at.first_start n (len_of x) * cut_cost x) c.len.ensures (c.cut-in-Many.ensures.rise (plain_in self at.first x plain (omega (arith, span.ordered, span.within)) at_x)) in
    rise_across self c.args.start c.args.end at.first at.first_start at.last at.last_end span x y at_x at_y c.args.steps.now c.pieces-plan.new.steps c.cut-in-Many.new.steps c.cut-in-Many-2.new.steps
    c.pieces-plan.ensures.rise front (c.cut-in-Many-2.ensures.rise (plain_in self at.last y plain span.within at_y))

pub chunked::Chunked+Column::cut-join-requires-clause-sound : goal.chunked::Chunked+Column::cut-join-requires-clause-sound
chunked::Chunked+Column::cut-join-requires-clause-sound g t c =
    let at = c.in-Many in
    all_round IsSound c.in_ok-front-in-Many.front (slice_range c.children-chunks.result.now (at.first + 1) at.last) c.in_ok-back-in-Many.back c.in_ok-front-in-Many.ensures.ok.sound
    (All-take IsSound (at.last - (at.first + 1)) _ (All-drop IsSound (at.first + 1) _ c.children-chunks.ensures.sound)) c.in_ok-back-in-Many.ensures.ok.sound

pub chunked::Chunked+Column::cut-join-requires-clause-types : goal.chunked::Chunked+Column::cut-join-requires-clause-types
chunked::Chunked+Column::cut-join-requires-clause-types g t c =
    let self = c.args.self.now in
    let at = c.in-Many in
    let span = at.ensures.plan.2 in
    let same = c.children-chunks.ensures.value in
    let all = c.children-chunks.result.now in
    let P = IsOf self.dtype in
    let x = c.index-chunks-first.result in
    let y = c.index-chunks-last.result in
    let in_x : at.first < length all = omega (arith, span.ordered, span.within, length-map self.chunks len_of, ap length same) in
    let in_y : at.last < length all = omega (arith, span.within, length-map self.chunks len_of, ap length same) in
    all_round P c.in_ok-front-in-Many.front (slice_range all (at.first + 1) at.last) c.in_ok-back-in-Many.back
    (c.in_ok-front-in-Many.ensures.ok.dtype ∙ held_at P all at.first x c.children-chunks.ensures.types in_x c.index-chunks-first.is)
    (All-take P (at.last - (at.first + 1)) _ (All-drop P (at.first + 1) _ c.children-chunks.ensures.types))
    (c.in_ok-back-in-Many.ensures.ok.dtype ∙ held_at P all at.last y c.children-chunks.ensures.types in_y c.index-chunks-last.is)

pub chunked::Chunked+Column::cut-join-requires-clause-fits : goal.chunked::Chunked+Column::cut-join-requires-clause-fits
chunked::Chunked+Column::cut-join-requires-clause-fits g t c =
    let self = c.args.self.now in
    let at = c.in-Many in
    let span = at.ensures.plan.2 in
    let same = c.children-chunks.ensures.value in
    let x = c.index-chunks-first.result in
    let at_x = same_at c.children-chunks.result.now self.chunks at.first x same c.index-chunks-first.is in
    let y = c.index-chunks-last.result in
    let at_y = same_at c.children-chunks.result.now self.chunks at.last y same c.index-chunks-last.is in
    let mid = ap (λ (ys : List Column). slice_range ys (at.first + 1) at.last) same in
    let m = slice_range c.children-chunks.result.now (at.first + 1) at.last in
    let kept_front = c.in_ok-front-in-Many.front in
    let kept_back = c.in_ok-back-in-Many.back in
    let front : IsSliceOf x kept_front at.first_start (len_of x) = subst (IsSliceOf x kept_front at.first_start) c.len.ensures c.in_ok-front-in-Many.ensures.ok in
    omega (arith, fits_many self c.args.start c.args.end at.first at.first_start at.last at.last_end span at.ensures.plan.1 x y m at_x at_y mid kept_front kept_back front c.in_ok-back-in-Many.ensures.ok)

pub chunked::Chunked+Column::cut-returns-in_ok-array-in-Many-clause-ok : goal.chunked::Chunked+Column::cut-returns-in_ok-array-in-Many-clause-ok
chunked::Chunked+Column::cut-returns-in_ok-array-in-Many-clause-ok g t c =
    let self = c.args.self.now in
    let at = c.in-Many in
    let span = at.ensures.plan.2 in
    let same = c.children-chunks.ensures.value in
    let x = c.index-chunks-first.result in
    let at_x = same_at c.children-chunks.result.now self.chunks at.first x same c.index-chunks-first.is in
    let y = c.index-chunks-last.result in
    let at_y = same_at c.children-chunks.result.now self.chunks at.last y same c.index-chunks-last.is in
    let mid = ap (λ (ys : List Column). slice_range ys (at.first + 1) at.last) same in
    let m = slice_range c.children-chunks.result.now (at.first + 1) at.last in
    let kept_front = c.in_ok-front-in-Many.front in
    let kept_back = c.in_ok-back-in-Many.back in
    let front : IsSliceOf x kept_front at.first_start (len_of x) = subst (IsSliceOf x kept_front at.first_start) c.len.ensures c.in_ok-front-in-Many.ensures.ok in
    cut_many self c.in_ok-array-in-Many.array c.args.start c.args.end at.first at.first_start at.last at.last_end span at.ensures.plan.1 x y m at_x at_y mid kept_front kept_back front c.in_ok-back-in-Many.ensures.ok
    c.in_ok-array-in-Many.ensures.sound c.in_ok-array-in-Many.ensures.chunks.0 c.in_ok-array-in-Many.ensures.chunks.1

pub column::Column::cut-returns-in_ok-rows-in-Flat-clause-ok : goal.column::Column::cut-returns-in_ok-rows-in-Flat-clause-ok
column::Column::cut-returns-in_ok-rows-in-Flat-clause-ok g t c =
    flat_slice c.args.self.now c.in-Flat.rows c.in_ok-rows-in-Flat.rows c.args.start c.args.end c.in-Flat.is c.in_ok-rows-in-Flat.ensures.ok c.in_ok-rows-in-Flat.ensures.fits

pub excepted::Excepted+Column::cut-returns-in_err-base-clause-rise : goal.excepted::Excepted+Column::cut-returns-in_err-base-clause-rise
excepted::Excepted+Column::cut-returns-in_err-base-clause-rise g t c plain =
    let rise = subst (λ (x : Column). c.cut.new.steps ≤ c.kept.new.steps + ends_cut c.args.start c.args.end (len_of x) * cut_cost x) c.base.ensures.value (c.cut.ensures.rise (c.base.ensures.plain plain)) in
    rise_base c.args.self.now c.args.start c.args.end c.args.steps.now c.kept.new.steps c.cut.new.steps c.kept.ensures.rise rise

pub excepted::Excepted+Column::cut-returns-in_default-clause-ok : goal.excepted::Excepted+Column::cut-returns-in_default-clause-ok
excepted::Excepted+Column::cut-returns-in_default-clause-ok g t c =
    let self = c.args.self.now in
    let base = subst (λ (x : Column). IsSliceOf x c.in_ok-base.base c.args.start c.args.end) c.base.ensures.value c.in_ok-base.ensures.ok in
    cut_none self c.args.start c.args.end c.requires.sound (subst (IsKeptOf self c.args.start c.args.end) c.in_default.is c.in_ok-kept.ensures.ok) c.in_ok-base.base base

pub excepted::Excepted+Column::cut-returns-in_default-clause-rise : goal.excepted::Excepted+Column::cut-returns-in_default-clause-rise
excepted::Excepted+Column::cut-returns-in_default-clause-rise g t c plain =
    let rise = subst (λ (x : Column). c.cut.new.steps ≤ c.kept.new.steps + ends_cut c.args.start c.args.end (len_of x) * cut_cost x) c.base.ensures.value (c.cut.ensures.rise (c.base.ensures.plain plain)) in
    rise_base c.args.self.now c.args.start c.args.end c.args.steps.now c.kept.new.steps c.cut.new.steps c.kept.ensures.rise rise

pub excepted::Excepted+Column::cut-returns-in_err-values-clause-rise : goal.excepted::Excepted+Column::cut-returns-in_err-values-clause-rise
excepted::Excepted+Column::cut-returns-in_err-values-clause-rise g t c plain =
    let self = c.args.self.now in
    let places = c.in-Some.places in
    let kept = subst (IsKeptOf self c.args.start c.args.end) c.in-Some.is c.in_ok-kept.ensures.ok in
    let base = subst (λ (x : Column). c.cut.new.steps ≤ c.kept.new.steps + ends_cut c.args.start c.args.end (len_of x) * cut_cost x) c.base.ensures.value (c.cut.ensures.rise (c.base.ensures.plain plain)) in
    let values = subst (λ (x : Column). c.cut-2.new.steps ≤ c.cut.new.steps + ends_cut places.start places.end (len_of x) * cut_cost x) c.values-values.ensures.value (c.cut-2.ensures.rise (c.values-values.ensures.plain plain)) in
    rise_values self c.in-Some.index c.args.start c.args.end places.start places.end c.requires.sound kept.0 c.args.steps.now c.kept.new.steps c.cut.new.steps c.cut-2.new.steps c.kept.ensures.rise base values

pub excepted::Excepted+Column::cut-column_of-requires-clause-kinds : goal.excepted::Excepted+Column::cut-column_of-requires-clause-kinds
excepted::Excepted+Column::cut-column_of-requires-clause-kinds g t c =
    let self = c.args.self.now in
    let places = c.in-Some.places in
    let kept = subst (IsKeptOf self c.args.start c.args.end) c.in-Some.is c.in_ok-kept.ensures.ok in
    let base = subst (λ (x : Column). IsSliceOf x c.in_ok-base.base c.args.start c.args.end) c.base.ensures.value c.in_ok-base.ensures.ok in
    let values = subst (λ (x : Column). IsSliceOf x c.in_ok-values.values places.start places.end) c.values-values.ensures.value c.in_ok-values.ensures.ok in
    cut_kinds self c.in-Some.index c.args.start c.args.end places.start places.end c.requires.sound c.requires.ordered c.requires.inside kept.0 c.in_ok-base.base c.in_ok-values.values base values

pub excepted::Excepted+Column::cut-returns-clause-ok : goal.excepted::Excepted+Column::cut-returns-clause-ok
excepted::Excepted+Column::cut-returns-clause-ok g t c =
    let self = c.args.self.now in
    let places = c.in-Some.places in
    let kept = subst (IsKeptOf self c.args.start c.args.end) c.in-Some.is c.in_ok-kept.ensures.ok in
    let base = subst (λ (x : Column). IsSliceOf x c.in_ok-base.base c.args.start c.args.end) c.base.ensures.value c.in_ok-base.ensures.ok in
    let values = subst (λ (x : Column). IsSliceOf x c.in_ok-values.values places.start places.end) c.values-values.ensures.value c.in_ok-values.ensures.ok in
    IfOk-weaker c.column_of.result (IsExceptedOf c.in_ok-base.base c.in-Some.index c.in_ok-values.values) (λ part. IsSliceOf (column.Excepted self) part c.args.start c.args.end)
    (λ part made. subst (λ (p : Column). IsSliceOf (column.Excepted self) p c.args.start c.args.end) (sym made.is)
    (cut_some self made.array c.in-Some.index c.args.start c.args.end places.start places.end c.requires.sound c.requires.ordered c.requires.inside kept.0 c.in_ok-base.base c.in_ok-values.values base values
    made.base_is made.index_is made.values_is (subst IsSound made.is made.sound)))
    c.column_of.ensures.ok

pub excepted::Excepted+Column::cut-returns-clause-rise : goal.excepted::Excepted+Column::cut-returns-clause-rise
excepted::Excepted+Column::cut-returns-clause-rise g t c plain =
    let self = c.args.self.now in
    let places = c.in-Some.places in
    let kept = subst (IsKeptOf self c.args.start c.args.end) c.in-Some.is c.in_ok-kept.ensures.ok in
    let base = subst (λ (x : Column). c.cut.new.steps ≤ c.kept.new.steps + ends_cut c.args.start c.args.end (len_of x) * cut_cost x) c.base.ensures.value (c.cut.ensures.rise (c.base.ensures.plain plain)) in
    let values = subst (λ (x : Column). c.cut-2.new.steps ≤ c.cut.new.steps + ends_cut places.start places.end (len_of x) * cut_cost x) c.values-values.ensures.value (c.cut-2.ensures.rise (c.values-values.ensures.plain plain)) in
    rise_values self c.in-Some.index c.args.start c.args.end places.start places.end c.requires.sound kept.0 c.args.steps.now c.kept.new.steps c.cut.new.steps c.cut-2.new.steps c.kept.ensures.rise base values

pub patched::Patched+Column::cut-column_of-requires-clause-kinds : goal.patched::Patched+Column::cut-column_of-requires-clause-kinds
patched::Patched+Column::cut-column_of-requires-clause-kinds g t c =
    let self = c.args.self.now in
    let s = c.args.start in
    let e = c.args.end in
    let made = c.in_ok-lanes.ensures.ok ∙ ap (λ (l : Layout). layout_slice l s e) c.lanes.ensures.value in
    let lanes = subst (λ (l : Layout). IsLaneCut self.lanes l s e) (sym made) (lanes_slice self.lanes s e (lanes_here self c.requires.sound).sound c.requires.ordered (omega (arith, c.requires.inside, layout_long self c.requires.sound))) in
    let inner = subst (λ (x : Column). IsSliceOf x c.in_ok-inner.inner s e) c.inner.ensures.value c.in_ok-inner.ensures.ok in
    lane_kinds self c.in_ok-lanes.lanes s e c.requires.sound c.requires.ordered c.requires.inside lanes c.in_ok-inner.inner inner

pub patched::Patched+Column::cut-returns-clause-ok : goal.patched::Patched+Column::cut-returns-clause-ok
patched::Patched+Column::cut-returns-clause-ok g t c =
    let self = c.args.self.now in
    let s = c.args.start in
    let e = c.args.end in
    let made = c.in_ok-lanes.ensures.ok ∙ ap (λ (l : Layout). layout_slice l s e) c.lanes.ensures.value in
    let lanes = subst (λ (l : Layout). IsLaneCut self.lanes l s e) (sym made) (lanes_slice self.lanes s e (lanes_here self c.requires.sound).sound c.requires.ordered (omega (arith, c.requires.inside, layout_long self c.requires.sound))) in
    let inner = subst (λ (x : Column). IsSliceOf x c.in_ok-inner.inner s e) c.inner.ensures.value c.in_ok-inner.ensures.ok in
    IfOk-weaker c.column_of.result (IsPatchedOf c.in_ok-inner.inner c.in_ok-lanes.lanes) (λ part. IsSliceOf (column.Patched self) part s e)
    (λ part made. subst (λ (p : Column). IsSliceOf (column.Patched self) p s e) (sym made.is)
    (cut_lanes self made.array c.in_ok-lanes.lanes s e c.requires.sound lanes c.in_ok-inner.inner inner made.inner_is made.lanes_is (subst IsSound made.is made.sound)))
    c.column_of.ensures.ok

pub column::Column::cut-returns-then-is_whole-clause-ok : goal.column::Column::cut-returns-then-is_whole-clause-ok
column::Column::cut-returns-then-is_whole-clause-ok g t c =
    let whole = c.is_whole.ensures.0 c.if-is_whole.true in
    IfOk-weaker c.share.result (λ part. part ≡ c.args.self.now) (λ part. IsSliceOf c.args.self.now part c.args.start c.args.end)
    (λ part e. whole_slice c.args.self.now part c.args.start c.args.end e c.requires.sound whole.0 whole.1) c.share.ensures.ok

pub column::Column::cut-returns-then-is_whole-clause-same : goal.column::Column::cut-returns-then-is_whole-clause-same
column::Column::cut-returns-then-is_whole-clause-same g t c =
    IfOk-weaker c.share.result (λ part. part ≡ c.args.self.now) (λ part. IsWhole c.args.self.now c.args.start c.args.end → part ≡ c.args.self.now) (λ part e _. e) c.share.ensures.ok

pub column::Column::cut-returns-in_ok-rows-in-Flat-clause-same : goal.column::Column::cut-returns-in_ok-rows-in-Flat-clause-same
column::Column::cut-returns-in_ok-rows-in-Flat-clause-same g t c whole = absurd (false≢true (sym c.if-is_whole.false ∙ c.is_whole.ensures.1 whole))

pub column::Column::cut-returns-in-Chunked-clause-same : goal.column::Column::cut-returns-in-Chunked-clause-same
column::Column::cut-returns-in-Chunked-clause-same g t c =
    IfOk-weaker c.cut.result _ (λ part. IsWhole c.args.self.now c.args.start c.args.end → part ≡ c.args.self.now)
    (λ part _ whole. absurd (false≢true (sym c.if-is_whole.false ∙ c.is_whole.ensures.1 whole))) c.cut.ensures.ok

pub column::Column::cut-returns-in-Patched-clause-same : goal.column::Column::cut-returns-in-Patched-clause-same
column::Column::cut-returns-in-Patched-clause-same g t c =
    IfOk-weaker c.cut-in-Patched.result _ (λ part. IsWhole c.args.self.now c.args.start c.args.end → part ≡ c.args.self.now)
    (λ part _ whole. absurd (false≢true (sym c.if-is_whole.false ∙ c.is_whole.ensures.1 whole))) c.cut-in-Patched.ensures.ok

pub column::Column::cut-returns-in-Excepted-clause-same : goal.column::Column::cut-returns-in-Excepted-clause-same
column::Column::cut-returns-in-Excepted-clause-same g t c =
    IfOk-weaker c.cut-in-Excepted.result _ (λ part. IsWhole c.args.self.now c.args.start c.args.end → part ≡ c.args.self.now)
    (λ part _ whole. absurd (false≢true (sym c.if-is_whole.false ∙ c.is_whole.ensures.1 whole))) c.cut-in-Excepted.ensures.ok

pub column::Column::cut-returns-in-Interleave-clause-same : goal.column::Column::cut-returns-in-Interleave-clause-same
column::Column::cut-returns-in-Interleave-clause-same g t c =
    IfOk-weaker c.cut-in-Interleave.result _ (λ part. IsWhole c.args.self.now c.args.start c.args.end → part ≡ c.args.self.now)
    (λ part _ whole. absurd (false≢true (sym c.if-is_whole.false ∙ c.is_whole.ensures.1 whole))) c.cut-in-Interleave.ensures.ok

pub patched::Patched+Column::cut-returns-in_err-inner-clause-rise : goal.patched::Patched+Column::cut-returns-in_err-inner-clause-rise
patched::Patched+Column::cut-returns-in_err-inner-clause-rise g t c plain =
    rise_inner c.args.self.now c.inner.result.now c.args.start c.args.end c.args.steps.now c.cut.new.steps c.inner.ensures.value (c.cut.ensures.rise (c.inner.ensures.plain plain))

pub patched::Patched+Column::cut-returns-clause-rise : goal.patched::Patched+Column::cut-returns-clause-rise
patched::Patched+Column::cut-returns-clause-rise g t c plain =
    rise_inner c.args.self.now c.inner.result.now c.args.start c.args.end c.args.steps.now c.cut.new.steps c.inner.ensures.value (c.cut.ensures.rise (c.inner.ensures.plain plain))

pub column::Column::cut-returns-in-Chunked-clause-rise : goal.column::Column::cut-returns-in-Chunked-clause-rise
column::Column::cut-returns-in-Chunked-clause-rise g t c =
    subst (λ (x : Column). IsPlain x → c.cut.new.steps ≤ c.args.steps.now + ends_cut c.args.start c.args.end (len_of x) * cut_cost x) (sym c.in-Chunked.is) c.cut.ensures.rise

pub column::Column::cut-returns-in-Patched-clause-rise : goal.column::Column::cut-returns-in-Patched-clause-rise
column::Column::cut-returns-in-Patched-clause-rise g t c =
    subst (λ (x : Column). IsPlain x → c.cut-in-Patched.new.steps ≤ c.args.steps.now + ends_cut c.args.start c.args.end (len_of x) * cut_cost x) (sym c.in-Patched.is) c.cut-in-Patched.ensures.rise

pub column::Column::cut-returns-in-Excepted-clause-rise : goal.column::Column::cut-returns-in-Excepted-clause-rise
column::Column::cut-returns-in-Excepted-clause-rise g t c =
    subst (λ (x : Column). IsPlain x → c.cut-in-Excepted.new.steps ≤ c.args.steps.now + ends_cut c.args.start c.args.end (len_of x) * cut_cost x) (sym c.in-Excepted.is) c.cut-in-Excepted.ensures.rise
