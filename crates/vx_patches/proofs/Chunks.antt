-- Chunk offsets of a part, from those of the whole.
use Rattle.std.proofs.Common.{◌≡◌, ℕ, ◌+◌, ◌-◌, ◌*◌, ◌/◌, ◌%◌, ◌^◌, ◌≤◌, ◌<◌, min, List, length, get_or, refl, sym, ◌∙◌, ap, arith}
use Rattle.std.specs.Prelude.{slice_range}
use Rattle.std.specs.List.Sorted.{IsStrictlyIncreasing, IsNonDecreasing}
use Rattle.vx_base.specs.Checks.{count_below}
use Rattle.vx_patches.specs.Places.{chunks_over, HaveChunkOffsets}
use Rattle.vx_patches.specs.Slices.{chunk_at, chunk_from, cut_away}
use Rattle.vx_patches.proofs.Counts.{Rising, Rising-from_increasing, count-le, count-slice, get_or-slice, length-slice}

pub never_fall : (xs : List ℕ) → IsNonDecreasing xs → (i j : ℕ) → i ≤ j → j < length xs → get_or xs i 0 ≤ get_or xs j 0
never_fall xs r i j h l = r i j 0 h l

pub non_decreasing_slice : (xs : List ℕ) (p q : ℕ) → q ≤ length xs → IsNonDecreasing xs → IsNonDecreasing (slice_range xs p q)
non_decreasing_slice xs p q h r i j d l k =
    let inside : j < q - p = omega (arith, length-slice xs p q h) in
    omega (arith, get_or-slice xs p q i d (omega arith), get_or-slice xs p q j d inside, r (p + i) (p + j) d (omega arith) (omega arith))

-- chunks of rows from an offset on
pub chunk_inside : (offset s e len : ℕ) → s < e → e ≤ len → (chunk_at offset s < chunk_from offset e) × (chunk_from offset e ≤ chunks_over (offset % 1024 + len))
chunk_inside offset s e len h k = (omega arith, omega arith)

number_after : (offset s e : ℕ) → s < e → chunk_from offset e - chunk_at offset s ≡ chunks_over ((offset + s) % 1024 + (e - s))
number_after offset s e h = omega arith

pub block_after : (offset s i : ℕ) → (offset + s) / 1024 + i ≡ offset / 1024 + (chunk_at offset s + i)
block_after offset s i = omega arith

pub block_before : (offset s : ℕ) → 1024 * (offset / 1024 + chunk_at offset s) ≤ offset + s
block_before offset s = omega arith

-- no more patches are cut away than come before the first kept one
pub not_cut : (x₀ x w m c p : ℕ) → min (x - x₀ - w) m ≡ c → c ≤ p → p < m → x - x₀ ≤ w + p
not_cut x₀ x w m c p e h l = omega arith

-- the clamped count of a part
clamped : (x₀ x y w p q m c : ℕ) → min (y - x₀ - w) m ≡ c → x₀ ≤ x → x ≤ y → x - x₀ ≤ w + p → p ≤ q → q ≤ m →
    min (y - x - (w + p - (x - x₀))) (q - p) ≡ min (c - p) (q - p)
clamped x₀ x y w p q m c e h k l i j = omega arith

-- one count of a part, at chunk i of the part
count_after : (offset : ℕ) (xs co : List ℕ) (w p q a b s i : ℕ) → IsStrictlyIncreasing xs → IsNonDecreasing co → p < q → q ≤ length xs → b ≤ length co → a + i < b →
    a ≡ chunk_at offset s → get_or co a 0 - get_or co 0 0 ≤ w + p →
    min (get_or co (a + i) 0 - get_or co 0 0 - w) (length xs) ≡ count_below (1024 * (offset / 1024 + (a + i))) xs →
    min (get_or (slice_range co a b) i 0 - get_or (slice_range co a b) 0 0 - cut_away co w p a) (length (slice_range xs p q)) ≡ count_below (1024 * ((offset + s) / 1024 + i)) (slice_range xs p q)
count_after offset xs co w p q a b s i r rise some l top at is uncut count =
    let bound : 1024 * ((offset + s) / 1024 + i) ≡ 1024 * (offset / 1024 + (a + i)) = omega (arith, block_after offset s i) in
    let here : get_or (slice_range co a b) i 0 ≡ get_or co (a + i) 0 = get_or-slice co a b i 0 (omega arith) in
    let zeroth : a + 0 ≡ a = omega arith in
    let first : get_or (slice_range co a b) 0 0 ≡ get_or co a 0 = get_or-slice co a b 0 0 (omega arith) ∙ ap (λ n. get_or co n 0) zeroth in
    let kept : length (slice_range xs p q) ≡ q - p = length-slice xs p q l in
    let whole = count_below (1024 * (offset / 1024 + (a + i))) xs in
    let clamp : min (get_or co (a + i) 0 - get_or co a 0 - cut_away co w p a) (q - p) ≡ min (whole - p) (q - p) =
    clamped (get_or co 0 0) (get_or co a 0) (get_or co (a + i) 0) w p q (length xs) whole count (never_fall co rise 0 a (omega arith) (omega arith)) (never_fall co rise a (a + i) (omega arith) (omega arith)) uncut (omega arith) l in
    let part : count_below (1024 * (offset / 1024 + (a + i))) (slice_range xs p q) ≡ min (whole - p) (q - p) = count-slice (1024 * (offset / 1024 + (a + i))) xs r p q (omega arith) l in
    rw (here, first, kept, bound) (clamp ∙ sym part)

-- a part with a patch left has chunk offsets again
pub sliced : (len offset : ℕ) (xs co : List ℕ) (w s e p q : ℕ) → HaveChunkOffsets len offset xs co w → IsStrictlyIncreasing xs → s < e → e ≤ len →
    count_below (offset + s) xs ≡ p → p < q → q ≤ length xs →
    HaveChunkOffsets (e - s) (offset + s) (slice_range xs p q) (slice_range co (chunk_at offset s) (chunk_from offset e)) (cut_away co w p (chunk_at offset s))
sliced len offset xs co w s e p q d r h k from some l =
    let a = chunk_at offset s in
    let b = chunk_from offset e in
    let inside = chunk_inside offset s e len h k in
    let rising : Rising xs = Rising-from_increasing xs r in
    let top : b ≤ length co = omega (arith, inside.1, d.number) in
    let at : a < length co = omega (arith, inside.0) in
    let base : get_or co 0 0 ≤ get_or co a 0 = never_fall co d.rise 0 a (omega arith) at in
    let before : count_below (1024 * (offset / 1024 + a)) xs ≤ p = omega (arith, count-le (1024 * (offset / 1024 + a)) (offset + s) xs rising (block_before offset s)) in
    let uncut : get_or co a 0 - get_or co 0 0 ≤ w + p = not_cut (get_or co 0 0) (get_or co a 0) w (length xs) _ p (d.counts a at) before (omega arith) in
    let long : length (slice_range co a b) ≡ b - a = length-slice co a b top in
    let kept : length (slice_range xs p q) ≡ q - p = length-slice xs p q l in
    record {
      number = long ∙ number_after offset s e h;
      rise = non_decreasing_slice co a b top d.rise;
      counts = λ i m. count_after offset xs co w p q a b s i r d.rise some l top (omega arith) refl uncut (d.counts (a + i) (omega arith));
      fits = omega (arith, d.fits, base, uncut, kept);
    }

-- what a cut through chunk offsets may rest on
pub record Cut (len offset : ℕ) (xs co : List ℕ) (w s e p q : ℕ) : Type 0 where
  pub ordered : chunk_at offset s ≤ chunk_from offset e
  pub top : chunk_from offset e ≤ length co
  pub at : chunk_at offset s < length co
  pub base : get_or co 0 0 ≤ get_or co (chunk_at offset s) 0
  pub uncut : get_or co (chunk_at offset s) 0 - get_or co 0 0 ≤ w + p
  pub fits : w + p < 2 ^ 64
  pub have : HaveChunkOffsets (e - s) (offset + s) (slice_range xs p q) (slice_range co (chunk_at offset s) (chunk_from offset e)) (cut_away co w p (chunk_at offset s))

pub cut_of : (len offset : ℕ) (xs co : List ℕ) (w s e p q : ℕ) → HaveChunkOffsets len offset xs co w → IsStrictlyIncreasing xs → s < e → e ≤ len →
    count_below (offset + s) xs ≡ p → p < q → q ≤ length xs → Cut len offset xs co w s e p q
cut_of len offset xs co w s e p q d r h k from some l =
    let a = chunk_at offset s in
    let inside = chunk_inside offset s e len h k in
    let rising : Rising xs = Rising-from_increasing xs r in
    let at : a < length co = omega (arith, inside.0, inside.1, d.number) in
    let base : get_or co 0 0 ≤ get_or co a 0 = never_fall co d.rise 0 a (omega arith) at in
    let before : count_below (1024 * (offset / 1024 + a)) xs ≤ p = omega (arith, count-le (1024 * (offset / 1024 + a)) (offset + s) xs rising (block_before offset s)) in
    record {
      ordered = omega (arith, inside.0);
      top = omega (arith, inside.1, d.number);
      at = at;
      base = base;
      uncut = not_cut (get_or co 0 0) (get_or co a 0) w (length xs) _ p (d.counts a at) before (omega arith);
      fits = omega (arith, d.fits);
      have = sliced len offset xs co w s e p q d r h k from some l;
    }
