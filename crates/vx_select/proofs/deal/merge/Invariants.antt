use Rattle.std.proofs.Common.{◌≡◌, ◌≤◌, length, take, drop, reverse, vec_len, IsTrue}
use Rattle.std.specs.List.{All}
use Rattle.vx_rows.specs.Fits.{rows_fit}
use Rattle.vx_job.specs.Rows.{Rows, interleaved}
use Rattle.vx_select.specs.Spots.{Lists, AreAnswers, HaveAnswers}
use Rattle.vx_select.proofs.deal.merge.Given as goal

abbrev pub invariant-loop-left : goal.invariant-loop-left
invariant-loop-left l = record {
  within : l.left ≤ length l.spots;
  len : vec_len l.rows ≡ vec_len l.initial.rows;
  answers : HaveAnswers (take l.left l.spots) l.rows.items;
  fit : All (λ (list : Rows). IsTrue (rows_fit l.dtype list)) l.rows.items;
  fits : IsTrue (rows_fit l.dtype l.merged);
  back : (values : Lists) → AreAnswers values l.spots l.initial.rows.items →
      (reverse l.merged ≡ interleaved values (drop l.left l.spots)) × AreAnswers values (take l.left l.spots) l.rows.items;
}

abbrev pub decreases-loop-left : goal.decreases-loop-left
decreases-loop-left l = l.left
