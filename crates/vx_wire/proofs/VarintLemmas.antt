-- What a loop over the bytes of a varint knows, and what writing one gives.
use Rattle.std.proofs.Common.{◌≡◌, ℕ, zero, suc, ◌+◌, ◌-◌, ◌*◌, ◌/◌, ◌%◌, ◌^◌, ◌<◌, ◌≤◌, ◌⊎◌, List, [], ◌∷◌, ◌++◌, length, take, drop, get_or, refl, sym, ap, subst, ◌∙◌, append_assoc, arith, inl, inr}
use Rattle.std.specs.List.{AllByRecursion}
use Rattle.std.proofs.lemmas.Bool.{cases_lt, le-ltb, lt-ltb}
use Rattle.std.proofs.lemmas.List.{length-take-le, length-drop, take-append-drop}
use Rattle.std.proofs.lemmas.Nat.{pow-add, shl_whole}
use Rattle.std.proofs.Math.Pow.{pow_mono}
use Rattle.std.proofs.Math.Seq.{take-suc, take-length, drop-cons}
use Rattle.vx_wire.specs.Varints.{number_of, GoesOn, IsWhole, IsVarint, VarintAt, EndsWithin, IsTooLong, varint, groups}

-- one more place
pub place_suc : (k : ℕ) → 2 ^ (7 * suc k) ≡ 128 * 2 ^ (7 * k)
place_suc k = let e : 7 * suc k ≡ 7 * k + 7 = omega arith in rw e (omega (arith, pow-add 2 (7 * k) 7))

pub number_of-push : (front : List ℕ) (b : ℕ) → number_of (front ++ b ∷ []) ≡ number_of front + b % 128 * 2 ^ (7 * length front)
number_of-push [] b = omega arith
number_of-push (x ∷ front) b = rw (place_suc (length front)) (omega (arith, number_of-push front b))

pub number_of-below : (bytes : List ℕ) → number_of bytes < 2 ^ (7 * length bytes)
number_of-below [] = omega arith
number_of-below (x ∷ bytes) = omega (arith, number_of-below bytes, place_suc (length bytes))

pub GoesOn-push : (front : List ℕ) (b : ℕ) → AllByRecursion GoesOn front → 128 ≤ b → AllByRecursion GoesOn (front ++ b ∷ [])
GoesOn-push [] b all more = (more, tt)
GoesOn-push (x ∷ front) b all more = (all.0, GoesOn-push front b all.1 more)

pub IsWhole-push : (front : List ℕ) (b : ℕ) → AllByRecursion GoesOn front → b < 128 → IsWhole (front ++ b ∷ [])
IsWhole-push [] b all last = last
IsWhole-push (x ∷ []) b all last = (all.0, last)
IsWhole-push (x ∷ y ∷ front) b all last = (all.0, IsWhole-push (y ∷ front) b all.1 last)

-- a number in so many groups before the last
abbrev pub FitsIn : ℕ → ℕ → Type 0
FitsIn zero n = n < 128
FitsIn (suc more) n = FitsIn more (n / 128)

pub fits_in_ten : (n : ℕ) → n < 2 ^ 64 → FitsIn 9 n
fits_in_ten n lt = omega arith

-- what the loop knows before the byte at i
pub record Reads (bytes : List ℕ) (i number : ℕ) : Type 0 where
  pub within : i ≤ 9
  pub value : number ≡ number_of (take i bytes)
  pub goes_on : AllByRecursion GoesOn (take i bytes)

-- a tenth byte of 2 or more was refused
abbrev pub IsAllowed : ℕ → ℕ → Type 0
IsAllowed i b = (i < 9) ⊎ (b < 2)

-- what the byte b adds to the number
abbrev pub added : ℕ → ℕ → ℕ
added i b = b % 128 * 2 ^ (7 * i) % 2 ^ 64

pub added_is : (i b : ℕ) → i ≤ 9 → IsAllowed i b → added i b ≡ b % 128 * 2 ^ (7 * i)
added_is i b le (inl lt) = shl_whole (b % 128) 7 (7 * i) 64 (omega arith) (omega arith)
added_is i b le (inr lt) = shl_whole (b % 128) 1 (7 * i) 64 (omega arith) (omega arith)

front_len : (bytes : List ℕ) (i : ℕ) → i < length bytes → length (take i bytes) ≡ i
front_len bytes i lt = length-take-le i bytes (omega arith)

one_more : (bytes : List ℕ) (i b : ℕ) → i < length bytes → b ≡ get_or bytes i 0 → take (i + 1) bytes ≡ take i bytes ++ b ∷ []
one_more bytes i b lt is = let k : i + 1 ≡ suc i = omega arith in rw (k, is) (take-suc bytes i 0 lt)

pub value_more : (bytes : List ℕ) (i b number : ℕ) → i < length bytes → b ≡ get_or bytes i 0 → IsAllowed i b → Reads bytes i number → number + added i b ≡ number_of (take (i + 1) bytes)
value_more bytes i b number lt is allowed was =
    let sum = number_of-push (take i bytes) b in
    let more : number_of (take i bytes ++ b ∷ []) ≡ number_of (take i bytes) + b % 128 * 2 ^ (7 * i) = ap (λ (n : ℕ). number_of (take i bytes ++ b ∷ [])) (front_len bytes i lt) ∙ subst (λ (n : ℕ). number_of (take i bytes ++ b ∷ []) ≡ number_of (take i bytes) + b % 128 * 2 ^ (7 * n)) (front_len bytes i lt) sum in
    rw (one_more bytes i b lt is, more, added_is i b was.within allowed, was.value) refl

below_top : (bytes : List ℕ) (i b number : ℕ) → i < length bytes → b ≡ get_or bytes i 0 → IsAllowed i b → i < 9 → Reads bytes i number → number + added i b < 2 ^ 64
below_top bytes i b number lt is allowed below was =
    let le : i + 1 ≤ length bytes = omega arith in
    let len : length (take (i + 1) bytes) ≡ i + 1 = length-take-le (i + 1) bytes le in
    let bound : number_of (take (i + 1) bytes) < 2 ^ (7 * (i + 1)) = subst (λ (n : ℕ). number_of (take (i + 1) bytes) < 2 ^ (7 * n)) len (number_of-below (take (i + 1) bytes)) in
    let top : 7 * (i + 1) ≤ 63 = omega arith in
    omega (arith, value_more bytes i b number lt is allowed was, bound, pow_mono top)

-- the number stays one of 64 bits
pub number_fits : (bytes : List ℕ) (i b number : ℕ) → i < length bytes → b ≡ get_or bytes i 0 → IsAllowed i b → Reads bytes i number → number + added i b < 2 ^ 64
number_fits bytes i b number lt is (inl below) was = below_top bytes i b number lt is (inl below) below was
number_fits bytes i b number lt is (inr small) was =
    elim (cases_lt i 9) [
      | inl below ↦ below_top bytes i b number lt is (inr small) below was
      | inr le ↦
          let nine : i ≡ 9 = omega (arith, was.within) in
          let bound : number_of (take i bytes) < 2 ^ (7 * i) = subst (λ (n : ℕ). number_of (take i bytes) < 2 ^ (7 * n)) (front_len bytes i lt) (number_of-below (take i bytes)) in
          let top : 2 ^ (7 * i) ≡ 2 ^ 63 = ap (λ (n : ℕ). 2 ^ (7 * n)) nine in
          let more : added i b ≡ b % 128 * 2 ^ 63 = added_is i b was.within (inr small) ∙ ap (λ (n : ℕ). b % 128 * n) top in
          omega (arith, was.value, bound, top, more)
    ]

pub reads_more : (bytes : List ℕ) (i b number : ℕ) → i < length bytes → b ≡ get_or bytes i 0 → IsAllowed i b → 128 ≤ b → Reads bytes i number → Reads bytes (i + 1) (number + added i b)
reads_more bytes i b number lt is allowed more was = record {
  within = elim allowed [ inl below ↦ omega arith | inr small ↦ omega arith ];
  value = value_more bytes i b number lt is allowed was;
  goes_on = rw (one_more bytes i b lt is) (GoesOn-push (take i bytes) b was.goes_on more);
}

pub reads_last : (bytes : List ℕ) (i b number : ℕ) → i < length bytes → b ≡ get_or bytes i 0 → IsAllowed i b → b < 128 → Reads bytes i number → VarintAt bytes (number + added i b) (drop (i + 1) bytes)
reads_last bytes i b number lt is allowed last was = record {
  spelled = take (i + 1) bytes;
  varint = record {
    whole = rw (one_more bytes i b lt is) (IsWhole-push (take i bytes) b was.goes_on last);
    short = let le : i + 1 ≤ length bytes = omega arith in omega (arith, length-take-le (i + 1) bytes le, was.within);
    fits = rw (← value_more bytes i b number lt is allowed was) (number_fits bytes i b number lt is allowed was);
  };
  value = value_more bytes i b number lt is allowed was;
  joined = sym (take-append-drop (i + 1) bytes);
}

pub too_long : (bytes : List ℕ) (i b number : ℕ) → i < length bytes → b ≡ get_or bytes i 0 → i ≡ 9 → 2 ≤ b → Reads bytes i number → IsTooLong bytes
too_long bytes i b number lt is nine above was = record {
  front = take i bytes;
  tenth = b;
  after = drop (suc i) bytes;
  goes_on = was.goes_on;
  nine = front_len bytes i lt ∙ nine;
  above = above;
  joined = rw is (sym (take-append-drop i bytes) ∙ ap (λ (r : List ℕ). take i bytes ++ r) (drop-cons bytes i 0 lt));
}

pub ends_within : (bytes : List ℕ) (number : ℕ) → Reads bytes (length bytes) number → EndsWithin bytes
ends_within bytes number was = (subst (AllByRecursion GoesOn) (take-length bytes) was.goes_on, omega (arith, was.within))

pub rest_at : (bytes : List ℕ) (i : ℕ) → i ≤ length bytes → take (length bytes - i) (drop i bytes) ≡ drop i bytes
rest_at bytes i le = let len : length bytes - i ≡ length (drop i bytes) = omega (arith, length-drop i bytes) in rw len (take-length (drop i bytes))

-- ---- writing

pub groups_are : (more n : ℕ) → FitsIn more n → number_of (groups more n) ≡ n
groups_are zero n fits = omega arith
groups_are (suc more) n fits =
    elim (cases_lt n 128) [
      | inl lt ↦ rw (lt-ltb n 128 lt) (omega arith)
      | inr le ↦ rw (le-ltb n 128 le) (omega (arith, groups_are more (n / 128) fits))
    ]

-- so many bytes at most come before the last
pub writes_more : (front total : List ℕ) (more n : ℕ) → 128 ≤ n → FitsIn more n → front ++ groups more n ≡ total
    → (less : ℕ) × FitsIn less (n / 128) × (((front ++ (n % 128 + 128) ∷ []) ++ groups less (n / 128)) ≡ total)
writes_more front total zero n le fits so_far = absurd (omega arith)
writes_more front total (suc more) n le fits so_far =
    let step : groups (suc more) n ≡ (n % 128 + 128) ∷ groups more (n / 128) = rw (le-ltb n 128 le) refl in
    (more, fits, append_assoc front ((n % 128 + 128) ∷ []) (groups more (n / 128)) ∙ ap (λ (x : List ℕ). front ++ x) (sym step) ∙ so_far)

pub writes_last : (front total : List ℕ) (more n : ℕ) → n < 128 → front ++ groups more n ≡ total → front ++ n ∷ [] ≡ total
writes_last front total zero n lt so_far = so_far
writes_last front total (suc more) n lt so_far =
    let step : groups (suc more) n ≡ n ∷ [] = rw (lt-ltb n 128 lt) refl in
    ap (λ (x : List ℕ). front ++ x) (sym step) ∙ so_far

pub varint_is : (n : ℕ) → varint n ≡ groups 9 n
unfolding varint
varint_is n = refl

whole_cons : (b : ℕ) (bytes : List ℕ) → 128 ≤ b → IsWhole bytes → IsWhole (b ∷ bytes)
whole_cons b [] more whole = absurd whole
whole_cons b (c ∷ bytes) more whole = (more, whole)

groups_whole : (more n : ℕ) → FitsIn more n → IsWhole (groups more n) × (length (groups more n) ≤ suc more)
groups_whole zero n fits = (fits, omega arith)
groups_whole (suc more) n fits =
    elim (cases_lt n 128) [
      | inl lt ↦ rw (lt-ltb n 128 lt) (lt, omega arith)
      | inr le ↦
          let rest = groups_whole more (n / 128) fits in
          rw (le-ltb n 128 le) (whole_cons (n % 128 + 128) (groups more (n / 128)) (omega arith) rest.0, omega (arith, rest.1))
    ]

-- the fewest bytes of a number are a varint of this number
pub varint_reads : (n : ℕ) → n < 2 ^ 64 → IsVarint (varint n) × (number_of (varint n) ≡ n)
varint_reads n lt =
    let fits = fits_in_ten n lt in
    let whole = groups_whole 9 n fits in
    let value = groups_are 9 n fits in
    rw (varint_is n) (record { whole = whole.0; short = whole.1; fits = omega (arith, value) }, value)
