-- Counts of true bits.
use Rattle.std.proofs.Common.{arith, refl, sym, ◌∙◌, ap, ◌≡◌, ◌<◌, ◌≤◌, ℕ, ◌+◌, ◌*◌, ◌/◌, Bool, true, false, cond, List, [], ◌∷◌, ◌++◌, length, get_or, take, drop, map}
use Rattle.std.specs.List.{range_with_len, slice_range}
use Rattle.std.specs.Prelude.{replicate}
use Rattle.std.proofs.lemmas.List.{take-take, take-replicate, length-take-le, get_or_read}
use Rattle.std.proofs.lemmas.List.FromFn.{get_or-map-range_with_len, map-range_with_len_more, length-map-range_with_len}
use Rattle.std.proofs.lemmas.List.Folds.{sum_by-replicate}
use Rattle.std.proofs.lemmas.List.Sums.{sum_by-take-drop, count_by-le-length}
use Rattle.std.proofs.lemmas.Slice.{between_is}
use Rattle.vx_masks.specs.Bits.{all_true, any_true, count_true, ranks_of}

-- how many bits are true before a block
abbrev pub block_rank : List Bool → ℕ → ℕ
block_rank bits block = count_true (take (block * 512) bits)

-- what is true before a place, and from there to another
pub count_split : (bits : List Bool) (i j : ℕ) → i ≤ j → count_true (take j bits) ≡ count_true (take i bits) + count_true (slice_range bits i j)
count_split bits i j h =
    sym (ap (λ (xs : List Bool). count_true (take i bits) + count_true xs) (between_is bits i j)
    ∙ (ap (λ (xs : List Bool). count_true xs + count_true (drop i (take j bits))) (sym (take-take i j bits h))
    ∙ sum_by-take-drop (λ (b : Bool). cond b 1 0) (take j bits) i))

-- no more are true than there are
pub count_within : (bits : List Bool) (i : ℕ) → i ≤ length bits → count_true (take i bits) ≤ i
count_within bits i h = omega (arith, count_by-le-length (λ (b : Bool). b) (take i bits), length-take-le i bits h)

-- the block of a place has a count
pub rank_inside : (bits : List Bool) (i : ℕ) → i ≤ length bits → i / 512 < length (ranks_of bits)
rank_inside bits i h = omega (arith, length-map-range_with_len (block_rank bits) 0 (length bits / 512 + 1))

-- the count of its block, and of the bits behind
pub rank_is : (bits : List Bool) (i : ℕ) → i ≤ length bits → get_or (ranks_of bits) (i / 512) 0 + count_true (slice_range bits (i / 512 * 512) i) ≡ count_true (take i bits)
rank_is bits i h =
    ap (λ n. n + count_true (slice_range bits (i / 512 * 512) i)) (get_or-map-range_with_len (block_rank bits) 0 (length bits / 512 + 1) (i / 512) (i / 512) 0 (omega arith) (omega arith))
    ∙ sym (count_split bits (i / 512 * 512) i (omega arith))

-- the same, of what is read
pub rank_read : (bits : List Bool) (ranks : List ℕ) (i rank rest : ℕ) → i ≤ length bits → ranks ≡ ranks_of bits → rank ≡ get_or ranks (i / 512) rank →
    rest ≡ count_true (slice_range bits (i / 512 * 512) i) → rank + rest ≡ count_true (take i bits)
rank_read bits ranks i rank rest h e read counted =
    let at : rank ≡ get_or (ranks_of bits) (i / 512) 0 =
    get_or_read (ranks_of bits) (i / 512) rank (rank_inside bits i h) (read ∙ ap (λ (xs : List ℕ). get_or xs (i / 512) rank) e) 0 in
    ap (λ n. n + rest) at ∙ ap (λ n. get_or (ranks_of bits) (i / 512) 0 + n) counted ∙ rank_is bits i h

-- one block more
pub rank_more : (bits : List Bool) (block count : ℕ) → count ≡ block_rank bits block → count + count_true (slice_range bits (block * 512) ((block + 1) * 512)) ≡ block_rank bits (block + 1)
rank_more bits block count e =
    ap (λ n. n + count_true (slice_range bits (block * 512) ((block + 1) * 512))) e ∙ sym (count_split bits (block * 512) ((block + 1) * 512) (omega arith))

pub rank_within : (bits : List Bool) (block count : ℕ) → count ≡ block_rank bits block → (block + 1) * 512 ≤ length bits → count + count_true (slice_range bits (block * 512) ((block + 1) * 512)) ≤ length bits
rank_within bits block count e h = omega (arith, rank_more bits block count e, count_within bits ((block + 1) * 512) h)

pub ranks_more : (bits : List Bool) (block : ℕ) → map (block_rank bits) (range_with_len 0 (block + 1 + 1)) ≡ map (block_rank bits) (range_with_len 0 (block + 1)) ++ block_rank bits (block + 1) ∷ []
ranks_more bits block = map-range_with_len_more (block_rank bits) 0 (block + 1) (block + 1) (omega arith)

-- all bits, where each is true or none is
pub all_true_is : (bits : List Bool) → all_true bits ≡ true → replicate (length bits) true ≡ bits
all_true_is [] h = refl
all_true_is (true ∷ bits) h = ap (λ bs. true ∷ bs) (all_true_is bits h)
all_true_is (false ∷ bits) h = cc

pub none_true_is : (bits : List Bool) → any_true bits ≡ false → replicate (length bits) false ≡ bits
none_true_is [] h = refl
none_true_is (false ∷ bits) h = ap (λ bs. false ∷ bs) (none_true_is bits h)
none_true_is (true ∷ bits) h = cc

pub count_all : (len : ℕ) → count_true (replicate len true) ≡ len
count_all len = omega (arith, sum_by-replicate (λ (b : Bool). cond b 1 0) len true)

pub count_none : (len : ℕ) → count_true (replicate len false) ≡ 0
count_none len = omega (arith, sum_by-replicate (λ (b : Bool). cond b 1 0) len false)

pub count_all_before : (len i : ℕ) → i ≤ len → count_true (take i (replicate len true)) ≡ i
count_all_before len i h = ap count_true (take-replicate i len true h) ∙ count_all i

pub count_none_before : (len i : ℕ) → i ≤ len → count_true (take i (replicate len false)) ≡ 0
count_none_before len i h = ap count_true (take-replicate i len false h) ∙ count_none i
