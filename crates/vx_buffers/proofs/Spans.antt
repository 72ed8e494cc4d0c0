-- Byte strings that spans cut out of a run of bytes.
use Rattle.std.proofs.Common.{ℕ, ◌≡◌, ◌∙◌, ◌+◌, ◌-◌, ◌≤◌, ap, refl, arith, List, [], ◌∷◌, ◌++◌, length, take, drop, reverse, Option, Some, None}
use Rattle.std.specs.Option.{option_map}
use Rattle.std.proofs.lemmas.List.{length-map, map-append, length-append, take-append-le, drop-append-le, length-drop, take_all}
use Rattle.std.proofs.Math.Seq.{drop-append_seam}
use Rattle.std.proofs.lemmas.List.Elements.{All-head, All-tail}
use Rattle.vx_buffers.specs.declared.binaries.Span.{Span}
use Rattle.vx_buffers.specs.Spans.{piece, pieces, IsInside, IsSound}
use Rattle.vx_buffers.proofs.Rows.{take_rows, reverse_rows}

pub length_pieces : (bytes : List ℕ) (spans : List (Option Span)) → length (pieces bytes spans) ≡ length spans
length_pieces bytes spans = length-map spans (option_map (piece bytes))

-- bytes behind the run change no piece
piece_longer : (bs more : List ℕ) (s : Span) → (s.start ≤ s.end) × (s.end ≤ length bs) → piece (bs ++ more) s ≡ piece bs s
piece_longer bs more s h =
    let order = h.0 in
    let inside = h.1 in
    ap (take (s.end - s.start)) (drop-append-le s.start bs more (omega arith))
    ∙ take-append-le (s.end - s.start) (drop s.start bs) more (omega (arith, length-drop s.start bs))

pieces_longer : (bs more : List ℕ) (spans : List (Option Span)) → IsSound bs spans → pieces (bs ++ more) spans ≡ pieces bs spans
pieces_longer bs more [] k = refl
pieces_longer bs more (None ∷ spans) k = ap (λ r. None ∷ r) (pieces_longer bs more spans (All-tail (IsInside (length bs)) None spans k))
pieces_longer bs more (Some s ∷ spans) k =
    λ i. Some (piece_longer bs more s (All-head (IsInside (length bs)) (Some s) spans k) i) ∷ pieces_longer bs more spans (All-tail (IsInside (length bs)) (Some s) spans k) i

-- the last piece of a run
last_piece : (bs more : List ℕ) (s : Span) → s.start ≡ length bs → s.end ≡ length (bs ++ more) → piece (bs ++ more) s ≡ more
last_piece bs more s p q =
    let long : length (bs ++ more) ≡ length bs + length more = length-append bs more in
    ap (take (s.end - s.start)) (ap (λ n. drop n (bs ++ more)) p ∙ drop-append_seam bs more)
    ∙ take_all (s.end - s.start) more (omega arith)

-- the list `v` that spans cut out of a run
module _ (bs : List ℕ) (spans : List (Option Span)) (v : List (Option (List ℕ))) (e : pieces bs spans ≡ v) (k : IsSound bs spans) where
  pub grown_is : (bs' more : List ℕ) (spans' : List (Option Span)) → bs' ≡ bs ++ more → spans' ≡ spans → pieces bs' spans' ≡ v
  grown_is bs' more spans' p q = (λ i. pieces (p i) (q i)) ∙ pieces_longer bs more spans k ∙ e

  pub pushed_is : (bs' more : List ℕ) (s : Span) (spans' : List (Option Span)) → bs' ≡ bs ++ more → s.start ≡ length bs → s.end ≡ length bs' → spans' ≡ spans ++ Some s ∷ [] → pieces bs' spans' ≡ v ++ Some more ∷ []
  pushed_is bs' more s spans' p a b q =
      (λ i. pieces (p i) (q i)) ∙ map-append (option_map (piece (bs ++ more))) spans (Some s ∷ [])
      ∙ (λ i. (pieces_longer bs more spans k ∙ e) i ++ Some (last_piece bs more s a (b ∙ ap length p) i) ∷ [])

  pub cut_is : (n : ℕ) (spans' : List (Option Span)) → spans' ≡ take n spans → pieces bs spans' ≡ take n v
  cut_is n spans' q = ap (pieces bs) q ∙ take_rows (piece bs) n spans ∙ ap (take n) e

  pub turned_is : (spans' : List (Option Span)) → spans' ≡ reverse spans → pieces bs spans' ≡ reverse v
  turned_is spans' q = ap (pieces bs) q ∙ reverse_rows (piece bs) spans ∙ ap reverse e
