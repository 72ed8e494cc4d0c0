use Rattle.std.proofs.Common.{arith, ap, sym, subst, ◌∙◌, ◌<◌, ◌-◌, ◌+◌, ◌≡◌, length, take, drop, get_or, reverse, [], None, IsTrue}
use Rattle.std.proofs.lemmas.List.{get_or_default}
use Rattle.std.proofs.lemmas.List.Elements.{All-set}
use Rattle.std.specs.List.{All}
use Rattle.vx_rows.specs.Fits.{rows_fit}
use Rattle.vx_job.specs.Rows.{Rows, interleaved, picked as rows_at}
use Rattle.vx_select.specs.Spots.{Lists, AreAnswers, wanted, Spot}
use Rattle.vx_select.proofs.Deals.{back_row, back_step, some_left, interleaved_before}
use Rattle.vx_select.proofs.Fits.{fits_front, fits_more, fits_reverse}
use Rattle.vx_select.proofs.deal.merge.Goals as goal

pub move_from-requires-clause-some : goal.move_from-requires-clause-some
move_from-requires-clause-some c =
    let spots = c.args.spots.now in
    let left = c.loop-left.left in
    let i = left - 1 in
    let zero_spot : Spot = (0, 0) in
    let s = get_or spots i zero_spot in
    let rows = c.loop-left.rows.items in
    let known = c.loop-left.invariant.answers in
    let inside : i < length spots = omega arith in
    let more : left ≡ i + 1 = omega arith in
    let here = get_or_default spots i zero_spot s inside in
    let listed : s.0 < length rows = omega (arith, c.requires.lists i zero_spot inside) in
    some_left known.0 spots i s rows inside here listed (subst (λ n. AreAnswers known.0 (take n spots) rows) more known.1)

pub loop-left-preserved : goal.loop-left-preserved
loop-left-preserved c =
    let spots = c.args.spots.now in
    let left = c.loop-left.left in
    let i = left - 1 in
    let zero_spot : Spot = (0, 0) in
    let s = get_or spots i zero_spot in
    let rows = c.loop-left.rows.items in
    let known = c.loop-left.invariant.answers in
    let inside : i < length spots = omega arith in
    let more : left ≡ i + 1 = omega arith in
    let here = get_or_default spots i zero_spot s inside in
    let listed : s.0 < length rows = omega (arith, c.requires.lists i zero_spot inside) in
    let front : Lists → Rows = λ values. rows_at (get_or values s.0 []) (wanted s.0 (take i spots)) in
    let now = subst (λ n. AreAnswers known.0 (take n spots) rows) more known.1 in
    let row = back_row known.0 spots i s rows inside here listed now in
    let moved = c.in_ok-move_from.ensures.row (front known.0) (get_or (get_or known.0 s.0 []) s.1 None) row in
    let fit = fits_front c.args.dtype.now (front known.0) (get_or (get_or known.0 s.0 []) s.1 None)
    (subst (λ (r : Rows). IsTrue (rows_fit c.args.dtype.now r)) row (c.loop-left.invariant.fit s.0 [] listed)) in
    record {
      within = omega arith;
      len = omega (arith, c.in_ok-move_from.ensures.len);
      answers = (known.0, back_step known.0 spots i s rows c.move_from.new.rows.items inside here listed now moved.0);
      fit = subst (All (λ (list : Rows). IsTrue (rows_fit c.args.dtype.now list))) (sym moved.0) (All-set (λ (list : Rows). IsTrue (rows_fit c.args.dtype.now list)) rows s.0 (front known.0) fit.0 c.loop-left.invariant.fit);
      fits = subst (λ (r : Rows). IsTrue (rows_fit c.args.dtype.now r)) (sym moved.1) (fits_more c.args.dtype.now c.loop-left.merged (get_or (get_or known.0 s.0 []) s.1 None) c.loop-left.invariant.fits fit.1);
      back = λ values first.
          let before = c.loop-left.invariant.back values first in
          let then = subst (λ n. AreAnswers values (take n spots) rows) more before.1 in
          let last = back_row values spots i s rows inside here listed then in
          let popped = c.in_ok-move_from.ensures.row (front values) (get_or (get_or values s.0 []) s.1 None) last in
          let rest = before.0 ∙ ap (λ n. interleaved values (drop n spots)) more in (
            ap reverse popped.1 ∙ interleaved_before values spots i s c.loop-left.merged inside here rest,
            back_step values spots i s rows c.move_from.new.rows.items inside here listed then popped.0,
          );
    }

pub returns-clause-fits : goal.returns-clause-fits
returns-clause-fits c =
    subst (λ (r : Rows). IsTrue (rows_fit c.args.dtype.now r)) (sym c.in_ok-reverse.ensures.ok) (fits_reverse c.args.dtype.now c.loop-left.merged c.loop-left.invariant.fits)
