use Rattle.std.proofs.Common.{arith, rules, sym, ap, subst, refl, ◌∙◌, lit<, ◌≡◌, ◌+◌, ◌*◌, ◌≤◌, ◌<◌, ◌∷◌, [], ℕ, List, length, map, get_or, IsTrue, IfOk}
use Rattle.std.specs.List.{All}
use denote.Param.Weighed.{at_most}
use Rattle.vx_column.proofs.column.Column.TheLaws.{the_size}
use Rattle.std.proofs.lemmas.Result.{IfOk-weaker}
use Rattle.std.proofs.lemmas.List.Elements.{All-push}
use Rattle.vx_rows.specs.Fits.{rows_fit}
use Rattle.vx_rows.specs.declared.dtype.DType.{DType}
use Rattle.vx_job.specs.Rows.{Rows, interleaved, picked as rows_at}
use Rattle.vx_column.specs.Columns.{rows_of, type_of, IsSound, select_bound}
use Rattle.vx_column.specs.declared.column.Column.{Column}
use Rattle.vx_column.specs.declared.column.Column.TheVariants as column
use Rattle.vx_select.specs.Spots.{Lists, Spot, AreWanted, AreTouched, AreAnswers, AreAnswersOf, HaveAnswers, IsThere, FitsToo}
use Rattle.vx_select.proofs.Deals.{spots_long}
use Rattle.vx_select.proofs.Fits.{fits_too, two_fit}
use Rattle.vx_column.proofs.Layers.{type_chunked, type_flat}
use Rattle.vx_select.proofs.Typed.{values_too, base_too, exceptions_too}
use Rattle.vx_select.proofs.Rising.{lists_at, among_there, among_same, among_long}
use Rattle.vx_select.proofs.Parts.{wanted_is, below_here, answer_is, answers_two, answers_more, asked_part}
use Rattle.vx_select.proofs.Costs.{chunked_bound, interleaved_bound, excepted_bound, patched_bound, two_most, parts_next, parts_bound}
use Rattle.vx_select.proofs.gathering.+gather.Goals as goal

pub chunked_rows-returns-clause-rise : goal.chunked_rows-returns-clause-rise
chunked_rows-returns-clause-rise g t c =
    let self = c.args.array.now in
    let places = c.args.places.now in
    let spots = c.in_ok-spots.spots.items in
    let many = spots_long (map rows_of self.chunks) (rows_of (column.Chunked self)) places spots c.in_ok-spots.ensures.ok in
    chunked_bound self c.children.result.now (length places) (length spots) c.args.steps.now c.chunk_spots.new.steps c.rows_among.new.steps c.children.ensures.value many c.chunk_spots.ensures.rise c.rows_among.ensures.rise

pub interleaved_rows-returns-clause-rise : goal.interleaved_rows-returns-clause-rise
interleaved_rows-returns-clause-rise g t c =
    let self = c.args.array.now in
    let places = c.args.places.now in
    let spots = c.in_ok-spots.spots.items in
    let many = spots_long (map rows_of self.values) (rows_of (column.Interleave self)) places spots c.in_ok-spots.ensures.ok in
    interleaved_bound self c.children.result.now (length places) (length spots) c.args.steps.now c.value_spots.new.steps c.rows_among.new.steps c.children.ensures.value many c.value_spots.ensures.rise c.rows_among.ensures.rise

pub patched_rows-returns-clause-rise : goal.patched_rows-returns-clause-rise
patched_rows-returns-clause-rise g t c =
    let n = length c.args.places.now in
    let inner = subst (λ (x : Column). c.gather.new.steps ≤ c.args.steps.now + select_bound x n) c.inner.ensures.value c.gather.ensures.rise in
    patched_bound c.args.array.now n c.args.steps.now c.gather.new.steps c.lay_over.new.steps inner c.lay_over.ensures.rise

pub excepted_rows-gather-requires : goal.excepted_rows-gather-requires
excepted_rows-gather-requires g t c κs within =
    let self = c.args.array.now in
    let spots = c.as_slice.result.now in
    let values : Lists = rows_of self.base ∷ rows_of self.values ∷ [] in
    let there = subst (All (IsThere values)) (sym c.as_slice.ensures.value) c.in_ok-spots.ensures.ok.there in
    let asked0 = c.as_slice-2.ensures ∙ wanted_is spots 2 0 c.in_ok-wanted.wanted.items c.index.result.now c.in_ok-wanted.ensures.ok (lit< tt) c.index.ensures in (
      search rules,
      (search rules, (c.base.ensures.sound, below_here values spots 0 c.base.result.now c.as_slice-2.result.now (sym (ap rows_of c.base.ensures.value)) asked0 there)),
    )

pub excepted_rows-gather-requires-2 : goal.excepted_rows-gather-requires-2
excepted_rows-gather-requires-2 g t c κs within =
    let self = c.args.array.now in
    let spots = c.as_slice.result.now in
    let values : Lists = rows_of self.base ∷ rows_of self.values ∷ [] in
    let there = subst (All (IsThere values)) (sym c.as_slice.ensures.value) c.in_ok-spots.ensures.ok.there in
    let asked1 = c.as_slice-3.ensures ∙ wanted_is spots 2 1 c.in_ok-wanted.wanted.items c.index-2.result.now c.in_ok-wanted.ensures.ok (lit< tt) c.index-2.ensures in (
      search rules,
      (search rules, (c.values.ensures.sound, below_here values spots 1 c.values.result.now c.as_slice-3.result.now (sym (ap rows_of c.values.ensures.value)) asked1 there)),
    )

pub excepted_rows-returns-in_err-base-clause-rise : goal.excepted_rows-returns-in_err-base-clause-rise
excepted_rows-returns-in_err-base-clause-rise g t c =
    let self = c.args.array.now in
    let spots = c.as_slice.result.now in
    let asked0 = c.as_slice-2.ensures ∙ wanted_is spots 2 0 c.in_ok-wanted.wanted.items c.index.result.now c.in_ok-wanted.ensures.ok (lit< tt) c.index.ensures in
    let n = length c.args.places.now in
    let many = ap length c.as_slice.ensures.value ∙ spots_long (rows_of self.base ∷ rows_of self.values ∷ []) (rows_of (column.Excepted self)) c.args.places.now c.in_ok-spots.spots.items c.in_ok-spots.ensures.ok in
    let base = subst (λ (x : Column). c.gather.new.steps ≤ c.exception_spots.new.steps + select_bound x (length c.as_slice-2.result.now)) c.base.ensures.value c.gather.ensures.rise in
    excepted_bound self n (length c.as_slice-2.result.now) 0 c.args.steps.now c.exception_spots.new.steps c.gather.new.steps c.gather.new.steps
    (omega (arith, two_most spots, ap length asked0, many)) c.exception_spots.ensures.rise base (omega arith)

pub excepted_rows-returns-in_err-values-clause-rise : goal.excepted_rows-returns-in_err-values-clause-rise
excepted_rows-returns-in_err-values-clause-rise g t c =
    let self = c.args.array.now in
    let spots = c.as_slice.result.now in
    let asked0 = c.as_slice-2.ensures ∙ wanted_is spots 2 0 c.in_ok-wanted.wanted.items c.index.result.now c.in_ok-wanted.ensures.ok (lit< tt) c.index.ensures in
    let asked1 = c.as_slice-3.ensures ∙ wanted_is spots 2 1 c.in_ok-wanted.wanted.items c.index-2.result.now c.in_ok-wanted.ensures.ok (lit< tt) c.index-2.ensures in
    let n = length c.args.places.now in
    let many = ap length c.as_slice.ensures.value ∙ spots_long (rows_of self.base ∷ rows_of self.values ∷ []) (rows_of (column.Excepted self)) c.args.places.now c.in_ok-spots.spots.items c.in_ok-spots.ensures.ok in
    let base = subst (λ (x : Column). c.gather.new.steps ≤ c.exception_spots.new.steps + select_bound x (length c.as_slice-2.result.now)) c.base.ensures.value c.gather.ensures.rise in
    let values = subst (λ (x : Column). c.gather-2.new.steps ≤ c.gather.new.steps + select_bound x (length c.as_slice-3.result.now)) c.values.ensures.value c.gather-2.ensures.rise in
    excepted_bound self n (length c.as_slice-2.result.now) (length c.as_slice-3.result.now) c.args.steps.now c.exception_spots.new.steps c.gather.new.steps c.gather-2.new.steps
    (omega (arith, two_most spots, ap length asked0, ap length asked1, many)) c.exception_spots.ensures.rise base values

pub excepted_rows-returns-in_err-rows-clause-rise : goal.excepted_rows-returns-in_err-rows-clause-rise
excepted_rows-returns-in_err-rows-clause-rise g t c =
    let self = c.args.array.now in
    let spots = c.as_slice.result.now in
    let asked0 = c.as_slice-2.ensures ∙ wanted_is spots 2 0 c.in_ok-wanted.wanted.items c.index.result.now c.in_ok-wanted.ensures.ok (lit< tt) c.index.ensures in
    let asked1 = c.as_slice-3.ensures ∙ wanted_is spots 2 1 c.in_ok-wanted.wanted.items c.index-2.result.now c.in_ok-wanted.ensures.ok (lit< tt) c.index-2.ensures in
    let n = length c.args.places.now in
    let many = ap length c.as_slice.ensures.value ∙ spots_long (rows_of self.base ∷ rows_of self.values ∷ []) (rows_of (column.Excepted self)) c.args.places.now c.in_ok-spots.spots.items c.in_ok-spots.ensures.ok in
    let base = subst (λ (x : Column). c.gather.new.steps ≤ c.exception_spots.new.steps + select_bound x (length c.as_slice-2.result.now)) c.base.ensures.value c.gather.ensures.rise in
    let values = subst (λ (x : Column). c.gather-2.new.steps ≤ c.gather.new.steps + select_bound x (length c.as_slice-3.result.now)) c.values.ensures.value c.gather-2.ensures.rise in
    excepted_bound self n (length c.as_slice-2.result.now) (length c.as_slice-3.result.now) c.args.steps.now c.exception_spots.new.steps c.gather.new.steps c.gather-2.new.steps
    (omega (arith, two_most spots, ap length asked0, ap length asked1, many)) c.exception_spots.ensures.rise base values

pub excepted_rows-returns-clause-rise : goal.excepted_rows-returns-clause-rise
excepted_rows-returns-clause-rise g t c =
    let self = c.args.array.now in
    let spots = c.as_slice.result.now in
    let asked0 = c.as_slice-2.ensures ∙ wanted_is spots 2 0 c.in_ok-wanted.wanted.items c.index.result.now c.in_ok-wanted.ensures.ok (lit< tt) c.index.ensures in
    let asked1 = c.as_slice-3.ensures ∙ wanted_is spots 2 1 c.in_ok-wanted.wanted.items c.index-2.result.now c.in_ok-wanted.ensures.ok (lit< tt) c.index-2.ensures in
    let n = length c.args.places.now in
    let many = ap length c.as_slice.ensures.value ∙ spots_long (rows_of self.base ∷ rows_of self.values ∷ []) (rows_of (column.Excepted self)) c.args.places.now c.in_ok-spots.spots.items c.in_ok-spots.ensures.ok in
    let base = subst (λ (x : Column). c.gather.new.steps ≤ c.exception_spots.new.steps + select_bound x (length c.as_slice-2.result.now)) c.base.ensures.value c.gather.ensures.rise in
    let values = subst (λ (x : Column). c.gather-2.new.steps ≤ c.gather.new.steps + select_bound x (length c.as_slice-3.result.now)) c.values.ensures.value c.gather-2.ensures.rise in
    excepted_bound self n (length c.as_slice-2.result.now) (length c.as_slice-3.result.now) c.args.steps.now c.exception_spots.new.steps c.gather.new.steps c.gather-2.new.steps
    (omega (arith, two_most spots, ap length asked0, ap length asked1, many)) c.exception_spots.ensures.rise base values

pub excepted_rows-merge-requires-clause-answers : goal.excepted_rows-merge-requires-clause-answers
excepted_rows-merge-requires-clause-answers g t c =
    let self = c.args.array.now in
    let spots = c.as_slice.result.now in
    let values : Lists = rows_of self.base ∷ rows_of self.values ∷ [] in
    let asked0 = c.as_slice-2.ensures ∙ wanted_is spots 2 0 c.in_ok-wanted.wanted.items c.index.result.now c.in_ok-wanted.ensures.ok (lit< tt) c.index.ensures in
    let asked1 = c.as_slice-3.ensures ∙ wanted_is spots 2 1 c.in_ok-wanted.wanted.items c.index-2.result.now c.in_ok-wanted.ensures.ok (lit< tt) c.index-2.ensures in
    let base = answer_is values spots 0 c.base.result.now c.as_slice-2.result.now c.in_ok-base.base (sym (ap rows_of c.base.ensures.value)) asked0 c.in_ok-base.ensures.ok in
    let under = answer_is values spots 1 c.values.result.now c.as_slice-3.result.now c.in_ok-values.values (sym (ap rows_of c.values.ensures.value)) asked1 c.in_ok-values.ensures.ok in
    let known = subst (AreAnswers values spots) (sym c.in_ok-rows.ensures.ok) (answers_two values spots c.in_ok-base.base c.in_ok-values.values base under) in
    let same = c.as_slice-4.ensures.value ∙ sym c.as_slice.ensures.value in
    subst (λ (s : List Spot). HaveAnswers s c.in_ok-rows.rows.items) (sym same) (values, known)

pub excepted_rows-returns-clause-ok : goal.excepted_rows-returns-clause-ok
excepted_rows-returns-clause-ok g t c =
    let self = c.args.array.now in
    let spots = c.as_slice.result.now in
    let values : Lists = rows_of self.base ∷ rows_of self.values ∷ [] in
    let asked0 = c.as_slice-2.ensures ∙ wanted_is spots 2 0 c.in_ok-wanted.wanted.items c.index.result.now c.in_ok-wanted.ensures.ok (lit< tt) c.index.ensures in
    let asked1 = c.as_slice-3.ensures ∙ wanted_is spots 2 1 c.in_ok-wanted.wanted.items c.index-2.result.now c.in_ok-wanted.ensures.ok (lit< tt) c.index-2.ensures in
    let base = answer_is values spots 0 c.base.result.now c.as_slice-2.result.now c.in_ok-base.base (sym (ap rows_of c.base.ensures.value)) asked0 c.in_ok-base.ensures.ok in
    let under = answer_is values spots 1 c.values.result.now c.as_slice-3.result.now c.in_ok-values.values (sym (ap rows_of c.values.ensures.value)) asked1 c.in_ok-values.ensures.ok in
    let known = subst (AreAnswers values spots) (sym c.in_ok-rows.ensures.ok) (answers_two values spots c.in_ok-base.base c.in_ok-values.values base under) in
    let same = c.as_slice-4.ensures.value ∙ sym c.as_slice.ensures.value in
    let there = subst (λ (s : List Spot). AreAnswers values s c.in_ok-rows.rows.items) (sym same) known in
    IfOk-weaker c.merge.result (λ m. (values : Lists) → AreAnswers values c.as_slice-4.result.now c.in_ok-rows.rows.items → m ≡ interleaved values c.as_slice-4.result.now) (λ m. m ≡ rows_at (rows_of (column.Excepted self)) c.args.places.now)
    (λ m e. e values there ∙ ap (interleaved values) c.as_slice-4.ensures.value ∙ c.in_ok-spots.ensures.ok.rows) c.merge.ensures.ok

pub chunked_rows-returns-clause-fits : goal.chunked_rows-returns-clause-fits
chunked_rows-returns-clause-fits g t c =
    subst (λ (d : DType). IfOk c.rows_among.result (λ rows. IsTrue (rows_fit d rows))) (c.dtype.ensures ∙ sym (type_chunked c.args.array.now)) c.rows_among.ensures.fits

pub interleaved_rows-rows_among-requires : goal.interleaved_rows-rows_among-requires
interleaved_rows-rows_among-requires g t c κs within =
    let self = c.args.array.now in
    let spots = c.in_ok-spots.spots.items in
    let types = values_too self c.children.result.now c.dtype.result.now c.children.ensures.value c.dtype.ensures c.requires.sound in
    let there = subst (λ (xs : List Column). All (IsThere (map rows_of xs)) spots) (sym c.children.ensures.value) c.in_ok-spots.ensures.ok.there in
    (search rules, (search rules, (c.children.ensures.sound, (types, there))))

pub excepted_rows-merge-requires-clause-fit : goal.excepted_rows-merge-requires-clause-fit
excepted_rows-merge-requires-clause-fit g t c =
    let self = c.args.array.now in
    let d = c.dtype.result.now in
    let base = fits_too (type_of self.base) d c.in_ok-base.base (base_too self d c.dtype.ensures) (subst (λ (x : Column). IsTrue (rows_fit (type_of x) c.in_ok-base.base)) c.base.ensures.value c.in_ok-base.ensures.fits) in
    let values = fits_too (type_of self.values) d c.in_ok-values.values (exceptions_too self d c.dtype.ensures c.requires.sound)
    (subst (λ (x : Column). IsTrue (rows_fit (type_of x) c.in_ok-values.values)) c.values.ensures.value c.in_ok-values.ensures.fits) in
    subst (All (λ (list : Rows). IsTrue (rows_fit d list))) (sym c.in_ok-rows.ensures.ok) (two_fit d c.in_ok-base.base c.in_ok-values.values base values)

pub excepted_rows-returns-clause-fits : goal.excepted_rows-returns-clause-fits
excepted_rows-returns-clause-fits g t c =
    subst (λ (d : DType). IfOk c.merge.result (λ rows. IsTrue (rows_fit d rows))) c.dtype.ensures c.merge.ensures.fits

pub gather-returns-in-Flat-clause-fits : goal.gather-returns-in-Flat-clause-fits
gather-returns-in-Flat-clause-fits g t c =
    subst (λ (d : DType). IfOk c.flat_rows.result (λ rows. IsTrue (rows_fit d rows))) (sym (ap type_of c.in-Flat.is ∙ type_flat c.in-Flat.rows)) c.flat_rows.ensures.fits

pub rows_among-gather-requires : goal.rows_among-gather-requires
rows_among-gather-requires g t c κs within =
    let parts = c.args.parts.now in
    let spots = c.args.spots.items in
    let among = c.in_ok-numbers.among.items in
    let items = c.deref-number-items.result.now in
    let kept = subst (λ (ns : List ℕ). AreTouched (length parts) spots ns among) (sym c.deref-number-items.ensures.value) c.in_ok-numbers.ensures.ok in
    let lists = lists_at (map rows_of parts) items in
    let k = c.loop-k.k in
    let number = get_or items k 0 in
    let x = c.index-parts-number.result in
    let inside : k < length items = c.loop-k-test.true in
    let number_in : number < length parts = kept.below k 0 inside in
    let dealt = subst (λ (s : List Spot). AreWanted s c.len.result c.in_ok-wanted.wanted.items) c.as_slice.ensures.value c.in_ok-wanted.ensures.ok in
    let few : k < c.len.result = omega (arith, inside, ap length c.deref-number-items.ensures.value, c.len.ensures) in
    let asked = c.as_slice-in-loop-k.ensures ∙ wanted_is among c.len.result k c.in_ok-wanted.wanted.items c.index.result.now dealt few c.index.ensures in
    let there = among_there (map rows_of parts) (length parts) spots items among kept c.requires.there in
    let smaller : 3 * the_size x + 0 < t = omega (arith, c.decreases, at_most the_size parts number x number_in, ap the_size c.index-parts-number.is) in
    let sound = subst IsSound (sym c.index-parts-number.is) (c.requires.sound number x number_in) in
    let here = asked_part parts items k number x inside refl number_in c.index-parts-number.is in
    (smaller, (search rules, (sound, below_here lists among k x c.as_slice-in-loop-k.result.now here asked there)))

pub rows_among-returns-in_err-gather-clause-rise : goal.rows_among-returns-in_err-gather-clause-rise
rows_among-returns-in_err-gather-clause-rise g t c =
    let parts = c.args.parts.now in
    let spots = c.args.spots.items in
    let among = c.in_ok-numbers.among.items in
    let items = c.deref-number-items.result.now in
    let kept = subst (λ (ns : List ℕ). AreTouched (length parts) spots ns among) (sym c.deref-number-items.ensures.value) c.in_ok-numbers.ensures.ok in
    let lists = lists_at (map rows_of parts) items in
    let k = c.loop-k.k in
    let number = get_or items k 0 in
    let x = c.index-parts-number.result in
    let inside : k < length items = c.loop-k-test.true in
    let number_in : number < length parts = kept.below k 0 inside in
    let dealt = subst (λ (s : List Spot). AreWanted s c.len.result c.in_ok-wanted.wanted.items) c.as_slice.ensures.value c.in_ok-wanted.ensures.ok in
    let few : k < c.len.result = omega (arith, inside, ap length c.deref-number-items.ensures.value, c.len.ensures) in
    let asked = c.as_slice-in-loop-k.ensures ∙ wanted_is among c.len.result k c.in_ok-wanted.wanted.items c.index.result.now dealt few c.index.ensures in
    let next = parts_next parts items among k number x c.args.steps.now c.loop-k.steps c.gather.new.steps (length c.as_slice-in-loop-k.result.now) inside refl number_in c.index-parts-number.is (ap length asked) c.loop-k.invariant.rise c.gather.ensures.rise in
    parts_bound parts items among (k + 1) (length spots) c.args.steps.now c.gather.new.steps kept.rising (among_long (length parts) spots items among kept) next

pub rows_among-returns-in_err-push-clause-rise : goal.rows_among-returns-in_err-push-clause-rise
rows_among-returns-in_err-push-clause-rise g t c =
    let parts = c.args.parts.now in
    let spots = c.args.spots.items in
    let among = c.in_ok-numbers.among.items in
    let items = c.deref-number-items.result.now in
    let kept = subst (λ (ns : List ℕ). AreTouched (length parts) spots ns among) (sym c.deref-number-items.ensures.value) c.in_ok-numbers.ensures.ok in
    let lists = lists_at (map rows_of parts) items in
    let k = c.loop-k.k in
    let number = get_or items k 0 in
    let x = c.index-parts-number.result in
    let inside : k < length items = c.loop-k-test.true in
    let number_in : number < length parts = kept.below k 0 inside in
    let dealt = subst (λ (s : List Spot). AreWanted s c.len.result c.in_ok-wanted.wanted.items) c.as_slice.ensures.value c.in_ok-wanted.ensures.ok in
    let few : k < c.len.result = omega (arith, inside, ap length c.deref-number-items.ensures.value, c.len.ensures) in
    let asked = c.as_slice-in-loop-k.ensures ∙ wanted_is among c.len.result k c.in_ok-wanted.wanted.items c.index.result.now dealt few c.index.ensures in
    let next = parts_next parts items among k number x c.args.steps.now c.loop-k.steps c.gather.new.steps (length c.as_slice-in-loop-k.result.now) inside refl number_in c.index-parts-number.is (ap length asked) c.loop-k.invariant.rise c.gather.ensures.rise in
    parts_bound parts items among (k + 1) (length spots) c.args.steps.now c.gather.new.steps kept.rising (among_long (length parts) spots items among kept) next

pub rows_among-returns-in_err-gather-clause-monotone : goal.rows_among-returns-in_err-gather-clause-monotone
rows_among-returns-in_err-gather-clause-monotone g t c =
    omega (arith, c.loop-k.invariant.monotone, c.gather.ensures.monotone)

pub rows_among-returns-in_err-push-clause-monotone : goal.rows_among-returns-in_err-push-clause-monotone
rows_among-returns-in_err-push-clause-monotone g t c =
    omega (arith, c.loop-k.invariant.monotone, c.gather.ensures.monotone)

pub rows_among-loop-k-init : goal.rows_among-loop-k-init
rows_among-loop-k-init g t c =
    record {
      rows = (ap length c.new-rows.ensures.items, λ k h. absurd (omega (arith, h, ap length c.new-rows.ensures.items)));
      fit = λ k d h. absurd (omega (arith, h, ap length c.new-rows.ensures.items));
      rise = omega arith;
      monotone = omega arith;
    }

pub rows_among-loop-k-preserved : goal.rows_among-loop-k-preserved
rows_among-loop-k-preserved g t c =
    let parts = c.args.parts.now in
    let spots = c.args.spots.items in
    let among = c.in_ok-numbers.among.items in
    let items = c.deref-number-items.result.now in
    let kept = subst (λ (ns : List ℕ). AreTouched (length parts) spots ns among) (sym c.deref-number-items.ensures.value) c.in_ok-numbers.ensures.ok in
    let lists = lists_at (map rows_of parts) items in
    let k = c.loop-k.k in
    let number = get_or items k 0 in
    let x = c.index-parts-number.result in
    let inside : k < length items = c.loop-k-test.true in
    let number_in : number < length parts = kept.below k 0 inside in
    let dealt = subst (λ (s : List Spot). AreWanted s c.len.result c.in_ok-wanted.wanted.items) c.as_slice.ensures.value c.in_ok-wanted.ensures.ok in
    let few : k < c.len.result = omega (arith, inside, ap length c.deref-number-items.ensures.value, c.len.ensures) in
    let asked = c.as_slice-in-loop-k.ensures ∙ wanted_is among c.len.result k c.in_ok-wanted.wanted.items c.index.result.now dealt few c.index.ensures in
    let next = parts_next parts items among k number x c.args.steps.now c.loop-k.steps c.gather.new.steps (length c.as_slice-in-loop-k.result.now) inside refl number_in c.index-parts-number.is (ap length asked) c.loop-k.invariant.rise c.gather.ensures.rise in
    let d = c.args.dtype.now in
    let more = c.in_ok-gather.field-0 in
    let here = asked_part parts items k number x inside refl number_in c.index-parts-number.is in
    let answer = answer_is lists among k x c.as_slice-in-loop-k.result.now more here asked c.in_ok-gather.ensures.ok in
    let too = subst (λ (y : Column). FitsToo (type_of y) d) (sym c.index-parts-number.is) (c.requires.types number x number_in) in
    let fits = fits_too (type_of x) d more too c.in_ok-gather.ensures.fits in
    record {
      rows = subst (AreAnswersOf lists among (k + 1)) (sym c.in_ok-push.ensures.items) (answers_more lists among k c.loop-k.rows.items more c.loop-k.invariant.rows answer);
      fit = subst (All (λ (list : Rows). IsTrue (rows_fit d list))) (sym c.in_ok-push.ensures.items) (All-push (λ (list : Rows). IsTrue (rows_fit d list)) c.loop-k.rows.items more c.loop-k.invariant.fit fits);
      rise = next;
      monotone = omega (arith, c.loop-k.invariant.monotone, c.gather.ensures.monotone);
    }

pub rows_among-merge-requires-clause-lists : goal.rows_among-merge-requires-clause-lists
rows_among-merge-requires-clause-lists g t c =
    let parts = c.args.parts.now in
    let spots = c.args.spots.items in
    let among = c.in_ok-numbers.among.items in
    let items = c.deref-number-items.result.now in
    let kept = subst (λ (ns : List ℕ). AreTouched (length parts) spots ns among) (sym c.deref-number-items.ensures.value) c.in_ok-numbers.ensures.ok in
    let there = subst (All (λ (s : Spot). s.0 < length items)) (sym c.as_slice-2.ensures.value) kept.there in
    λ k d h. omega (arith, there k d h, c.loop-k.invariant.rows.0, c.loop-k-test.false)

pub rows_among-merge-requires-clause-answers : goal.rows_among-merge-requires-clause-answers
rows_among-merge-requires-clause-answers g t c =
    let lists = lists_at (map rows_of c.args.parts.now) c.deref-number-items.result.now in
    subst (λ (s : List Spot). HaveAnswers s c.loop-k.rows.items) (sym c.as_slice-2.ensures.value) (lists, c.loop-k.invariant.rows.1)

pub rows_among-merge-requires-clause-fit : goal.rows_among-merge-requires-clause-fit
rows_among-merge-requires-clause-fit g t c =
    c.loop-k.invariant.fit

pub rows_among-returns-clause-ok : goal.rows_among-returns-clause-ok
rows_among-returns-clause-ok g t c =
    let parts = c.args.parts.now in
    let spots = c.args.spots.items in
    let among = c.in_ok-numbers.among.items in
    let items = c.deref-number-items.result.now in
    let kept = subst (λ (ns : List ℕ). AreTouched (length parts) spots ns among) (sym c.deref-number-items.ensures.value) c.in_ok-numbers.ensures.ok in
    let lists = lists_at (map rows_of parts) items in
    let known = subst (λ (s : List Spot). AreAnswers lists s c.loop-k.rows.items) (sym c.as_slice-2.ensures.value) c.loop-k.invariant.rows.1 in
    IfOk-weaker c.merge.result (λ m. (values : Lists) → AreAnswers values c.as_slice-2.result.now c.loop-k.rows.items → m ≡ interleaved values c.as_slice-2.result.now) (λ m. m ≡ interleaved (map rows_of parts) spots)
    (λ m e. e lists known ∙ ap (interleaved lists) c.as_slice-2.ensures.value ∙ among_same (map rows_of parts) (length parts) spots items among kept) c.merge.ensures.ok

pub rows_among-returns-clause-rise : goal.rows_among-returns-clause-rise
rows_among-returns-clause-rise g t c =
    let parts = c.args.parts.now in
    let spots = c.args.spots.items in
    let among = c.in_ok-numbers.among.items in
    let items = c.deref-number-items.result.now in
    let kept = subst (λ (ns : List ℕ). AreTouched (length parts) spots ns among) (sym c.deref-number-items.ensures.value) c.in_ok-numbers.ensures.ok in
    parts_bound parts items among c.loop-k.k (length spots) c.args.steps.now c.loop-k.steps kept.rising (among_long (length parts) spots items among kept) c.loop-k.invariant.rise

pub rows_among-returns-clause-monotone : goal.rows_among-returns-clause-monotone
rows_among-returns-clause-monotone g t c =
    c.loop-k.invariant.monotone
