-- Where the exceptions of a sound layout lie.
use Rattle.std.proofs.Common.{◌≡◌, ℕ, zero, suc, ◌+◌, ◌-◌, ◌*◌, ◌/◌, ◌%◌, ◌^◌, ◌<◌, ◌≤◌, inl, inr, sym, ◌∙◌, ap, subst, arith}
use Rattle.std.proofs.lemmas.Nat.{pow_pos, pow-add, pow_below, mul-le, mul-add-lt, le-div}
use Rattle.std.proofs.lemmas.Bool.{cases_lt}
use Rattle.vx_lanes.specs.declared.layout.Layout.{Layout}
use Rattle.vx_lanes.specs.Layouts.{IsLayout, chunks_of, entries, exceptions, lane_start, index_of}

pub lanes_some : (l : Layout) → IsLayout l → 0 < l.n_lanes
lanes_some l s = subst (λ n. 0 < n) (sym s.lanes.2) (pow_pos s.lanes.0)

pub lanes_few : (l : Layout) → IsLayout l → l.n_lanes < 256
lanes_few l s = subst (λ n. n < 256) (sym s.lanes.2) (pow_below s.lanes.0 8 s.lanes.1)

-- lanes divide a chunk
pub lanes_divide : (l : Layout) → IsLayout l → (q : ℕ) × (l.n_lanes * q ≡ 1024)
lanes_divide l s =
    let c : ℕ = s.lanes.0 in
    let small : c < 8 = s.lanes.1 in
    let whole : c + (10 - c) ≡ 10 = omega arith in
    (2 ^ (10 - c), ap (λ n. n * 2 ^ (10 - c)) s.lanes.2 ∙ sym (pow-add 2 c (10 - c)) ∙ ap (λ n. 2 ^ n) whole)

pub entry_within : (l : Layout) (chunk lane : ℕ) → IsLayout l → chunk < chunks_of (l.offset + l.len) → lane < l.n_lanes → chunk * l.n_lanes + lane < entries l
entry_within l chunk lane s h w = omega (arith, s.offsets, mul-add-lt chunk l.n_lanes lane (chunks_of (l.offset + l.len)) h w)

pub entries_fit : (l : Layout) → IsLayout l → entries l < 2 ^ 63
entries_fit l s =
    let chunks : chunks_of (l.offset + l.len) ≤ 2 ^ 54 = omega (arith, s.fits) in
    let few : l.n_lanes ≤ 256 = omega (arith, lanes_few l s) in
    omega (arith, s.offsets, mul-le l.n_lanes (chunks_of (l.offset + l.len)) 256 (2 ^ 54) few chunks)

-- a number from f from to below f (from + count) lies between two neighbours
pub crossing : (f : ℕ → ℕ) (from count k : ℕ) → f from ≤ k → k < f (from + count) → (j : ℕ) × (j < count) × (f (from + j) ≤ k) × (k < f (from + j + 1))
crossing f from zero k h w =
    let same : from + 0 ≡ from = omega arith in
    let p : k < f from = subst (λ n. k < f n) same w in
    absurd (omega arith)
crossing f from (suc n) k h w =
    let next : from + suc n ≡ from + n + 1 = omega arith in
    let there : k < f (from + n + 1) = subst (λ m. k < f m) next w in
    elim (cases_lt k (f (from + n))) [
      | inl below ↦ let r = crossing f from n k h below in (r.0, omega (arith, r.1), r.2, r.3)
      | inr above ↦ (n, omega arith, above, there)
    ]

pub risen : (f : ℕ → ℕ) (from count : ℕ) → ((g : ℕ) → g < from + count → f g ≤ f (g + 1)) → f from ≤ f (from + count)
risen f from zero h =
    let same : from + 0 ≡ from = omega arith in
    omega (arith, ap f same)
risen f from (suc n) h =
    let next : from + suc n ≡ from + n + 1 = omega arith in
    let below : (g : ℕ) → g < from + n → f g ≤ f (g + 1) = λ g w. h g (omega arith) in
    omega (arith, risen f from n below, h (from + n) (omega arith), ap f next)

-- starts of lanes rise
pub starts_rise : (l : Layout) (g h : ℕ) → IsLayout l → g ≤ h → h ≤ entries l → lane_start l g ≤ lane_start l h
starts_rise l g h s le w =
    let whole : g + (h - g) ≡ h = omega arith in
    subst (λ n. lane_start l g ≤ lane_start l n) whole (risen (lane_start l) g (h - g) (λ k u. s.rising k (omega arith)))

-- exceptions of an entry are exceptions
pub entry_inside : (l : Layout) (g k : ℕ) → IsLayout l → g < entries l → k < lane_start l (g + 1) → k < exceptions l
entry_inside l g k s h w = omega (arith, starts_rise l (g + 1) (entries l) s (omega arith) (omega arith), s.inside)

pub index_low : (l : Layout) (g k : ℕ) → IsLayout l → g < entries l → lane_start l g ≤ k → k < lane_start l (g + 1) → index_of l k < 1024
index_low l g k s h from to =
    s.in_chunk k (omega (arith, starts_rise l 0 g s (omega arith) (omega arith))) (omega (arith, starts_rise l (g + 1) (entries l) s (omega arith) (omega arith)))

-- equal remainders stand a whole divisor apart
pub apart : (n a b : ℕ) → 0 < n → a < b → a % n ≡ b % n → a + n ≤ b
apart n a b p h e =
    elim (cases_lt (a / n) (b / n)) as (λ _. a + n ≤ b) [
      | inl below ↦ omega (arith, mul-le n (a / n + 1) n (b / n) (omega arith) (omega arith))
      | inr above ↦ absurd (omega (arith, mul-le n (b / n) n (a / n) (omega arith) above))
    ]

-- in an entry indices rise by the lanes at least
pub spread : (l : Layout) (g d : ℕ) → IsLayout l → g < entries l → lane_start l g + d < lane_start l (g + 1) → l.n_lanes * d ≤ index_of l (lane_start l g + d)
spread l g zero s h w = omega arith
spread l g (suc d) s h w =
    let k : ℕ = lane_start l g + d in
    let next : lane_start l g + suc d ≡ k + 1 = omega arith in
    let back : k + 1 - 1 ≡ k = omega arith in
    let more : index_of l (k + 1 - 1) < index_of l (k + 1) = s.in_order g (k + 1) h (omega arith) (omega arith) in
    let rise : index_of l k < index_of l (k + 1) = subst (λ n. index_of l n < index_of l (k + 1)) back more in
    let same : index_of l k % l.n_lanes ≡ index_of l (k + 1) % l.n_lanes = s.in_lane g k h (omega arith) (omega arith) ∙ sym (s.in_lane g (k + 1) h (omega arith) (omega arith)) in
    let far : index_of l k + l.n_lanes ≤ index_of l (k + 1) = apart l.n_lanes (index_of l k) (index_of l (k + 1)) (lanes_some l s) rise same in
    let before : l.n_lanes * d ≤ index_of l k = spread l g d s h (omega arith) in
    subst (λ n. l.n_lanes * suc d ≤ index_of l n) (sym next) (omega arith)

-- so an entry has no more exceptions than a lane has places
pub entry_small : (l : Layout) (g : ℕ) → IsLayout l → g < entries l → lane_start l (g + 1) - lane_start l g ≤ 1024 / l.n_lanes
entry_small l g s h =
    elim (cases_lt (lane_start l g) (lane_start l (g + 1))) as (λ _. lane_start l (g + 1) - lane_start l g ≤ 1024 / l.n_lanes) [
      | inl some ↦ at_most (lane_start l (g + 1) - lane_start l g - 1) (omega arith)
      | inr none ↦ omega arith
    ]
  where
    at_most : (d : ℕ) → lane_start l g + d + 1 ≡ lane_start l (g + 1) → lane_start l (g + 1) - lane_start l g ≤ 1024 / l.n_lanes
    at_most d e =
        let q : ℕ = (lanes_divide l s).0 in
        let whole : l.n_lanes * q ≡ 1024 = (lanes_divide l s).1 in
        let far : l.n_lanes * d < 1024 = omega (arith, spread l g d s h (omega arith), index_low l g (lane_start l g + d) s h (omega arith) (omega arith)) in
        let below : d + 1 ≤ q = elim (cases_lt d q) as (λ _. d + 1 ≤ q) [ inl less ↦ omega arith | inr more ↦ absurd (omega (arith, mul-le l.n_lanes q l.n_lanes d (omega arith) more)) ] in
        let fits : (d + 1) * l.n_lanes ≤ 1024 = omega (arith, mul-le l.n_lanes (d + 1) l.n_lanes q (omega arith) below) in
        omega (arith, le-div (d + 1) 1024 l.n_lanes (lanes_some l s) fits)

-- indices of an entry rise strictly
pub order_within : (l : Layout) (g k d : ℕ) → IsLayout l → g < entries l → lane_start l g ≤ k → k + d + 1 < lane_start l (g + 1) → index_of l k < index_of l (k + d + 1)
order_within l g k zero s h from to =
    let back : k + 0 + 1 - 1 ≡ k = omega arith in
    subst (λ n. index_of l n < index_of l (k + 0 + 1)) back (s.in_order g (k + 0 + 1) h (omega arith) to)
order_within l g k (suc d) s h from to =
    let back : k + suc d + 1 - 1 ≡ k + d + 1 = omega arith in
    let more : index_of l (k + d + 1) < index_of l (k + suc d + 1) = subst (λ n. index_of l n < index_of l (k + suc d + 1)) back (s.in_order g (k + suc d + 1) h (omega arith) to) in
    omega (arith, order_within l g k d s h from (omega arith))
