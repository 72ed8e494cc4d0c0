-- Numbers as rows, and new indices as exceptions.
use Rattle.std.proofs.Common.{arith, nat_lt, suc, not, false, cond, nat_eq, nat_le, ◌-◌, ap, refl, sym, ◌∙◌, ◌≡◌, inl, inr, ◌<◌, ◌+◌, ◌^◌, ◌++◌, ◌∷◌, [], ℕ, ℤ, List, map, take, get_or, length, Bool, true, ◌&&◌, Option, Some, pos, to_z}
use Rattle.std.proofs.lemmas.Bool.{and_from, false≢true}
use Rattle.std.proofs.lemmas.Bool.Decides.{nat_tests}
use Rattle.std.proofs.lemmas.Int.{to_z_pos}
use Rattle.std.proofs.lemmas.List.{take_more, map-append}
use Rattle.std.proofs.lemmas.List.Folds.{list_all-append}
use Rattle.std.specs.Int.{w128}
use Rattle.vx_rows.specs.declared.dtype.DType.{DType, out-DType, out-roll-DType}
use Rattle.vx_rows.specs.declared.dtype.DType.TheOpen.{DType-F}
use Rattle.vx_rows.specs.declared.dtype.DType.TheVariants.{Primitive, rolls-Primitive}
use Rattle.vx_rows.specs.declared.kinds.Nullability.{Nullability}
use Rattle.vx_rows.specs.declared.kinds.Nullability.TheVariants.{NonNullable}
use Rattle.vx_rows.specs.declared.kinds.PType.{PType}
use Rattle.vx_rows.specs.declared.value.Value.{Value, fold-roll-Value, out-Value, out-roll-Value}
use Rattle.vx_rows.specs.declared.value.Value.TheOpen.{Value-F}
use Rattle.vx_rows.specs.declared.value.Value.TheVariants.{Int, rolls-Int}
use Rattle.vx_rows.specs.declared.error.ColumnError.{ColumnError}
use Rattle.vx_rows.specs.declared.error.ColumnError.TheVariants.{OutOfMemory}
use Rattle.vx_rows.specs.declared.kinds.PType.TheVariants.{U64}
use Rattle.vx_rows.specs.Fits.{row_fits, rows_fit, is_in_range, value_fits, fits_step, layer_fits}
use Rattle.vx_base.specs.Column.{RefusesMisfit}
use Rattle.std.specs.Prelude.{None}
use Rattle.std.specs.List.{zip}
use Rattle.std.specs.List.Sorted.{IsStrictlyIncreasing}
use Rattle.std.proofs.lemmas.List.{length-map}
use Rattle.vx_rows.specs.declared.error.Rule.{Rule}
use Rattle.vx_base.specs.Column.{Flat, flat}
use Rattle.vx_base.specs.Numbers.{numbers_of, row_int, layer_int, magnitude, is_unsigned, layer_is_unsigned}
use Rattle.vx_base.specs.Checks.{strictly_increasing, all_within}
use Rattle.vx_base.specs.Rules.{first_broken}
use Rattle.vx_base.proofs.CheckLemmas.{says-strictly_increasing}
use Rattle.vx_patches.proofs.Counts.{below_last}
use Rattle.vx_patches.specs.Making.{patches_fault}
use Rattle.vx_patches.specs.Pairs.{pairs_of, firsts}
use Rattle.vx_patch_select.specs.Patched.{number_type, number_row, numbers_flat, fresh, of_pairs, pairs_left}

pub numbers_more : (ns : List ℕ) (k : ℕ) (rows : List (Option Value)) → k < length ns → rows ≡ map number_row (take k ns) →
    rows ++ number_row (get_or ns k 0) ∷ [] ≡ map number_row (take (k + 1) ns)
numbers_more ns k rows h e =
    ap (λ rs. rs ++ number_row (get_or ns k 0) ∷ []) e ∙ sym (map-append number_row (take k ns) (get_or ns k 0 ∷ [])) ∙ ap (map number_row) (sym (take_more ns k 0 h))

-- a number of 64 bits as a row, by way of a signed one of 128
pub row_of_number : (n : ℕ) → n < 2 ^ 64 → Some (Int (to_z w128 n)) ≡ number_row n
row_of_number n h = ap (λ z. Some (Int z)) (to_z_pos w128 n (omega arith))

in_range : (n : ℕ) → n < 2 ^ 64 → is_in_range U64 (pos n) ≡ true
in_range n h = grind (arith, nat_tests)

-- an integer fits an integer type where it is in its range
fits_int : (z : ℤ) (p : PType) (n : Nullability) → value_fits (Int z) (Primitive p n) ≡ is_in_range p z
fits_int z p n =
    ap (λ v. value_fits v (Primitive p n)) (sym (rolls-Int z)) ∙ ap (λ f. f (Primitive p n)) (fold-roll-Value (DType → Bool) fits_step (Value-F.Int z))
    ∙ ap (layer_fits (λ (f : DType → Bool) s. f s) (Value-F.Int z)) (ap out-DType (sym (rolls-Primitive p n)) ∙ out-roll-DType (DType-F.Primitive p n))

fits_one : (n : ℕ) → n < 2 ^ 64 → row_fits number_type (number_row n) ≡ true
fits_one n h = fits_int (pos n) U64 NonNullable ∙ in_range n h

pub fit_more : (rows : List (Option Value)) (n : ℕ) → rows_fit number_type rows ≡ true → n < 2 ^ 64 → rows_fit number_type (rows ++ number_row n ∷ []) ≡ true
fit_more rows n f h =
    list_all-append (row_fits number_type) rows (number_row n ∷ []) ∙ and_from (rows_fit number_type rows) (row_fits number_type (number_row n) && true) f (and_from (row_fits number_type (number_row n)) true (fits_one n h) refl)

-- rows that fit are refused only where memory runs out
pub only_memory : (fits : Bool) (e : ColumnError) → fits ≡ true → RefusesMisfit fits e → e ≡ OutOfMemory
only_memory fits e h (inl memory) = memory
only_memory fits e h (inr misfit) = absurd (false≢true (sym misfit.1 ∙ h))

-- ---- new indices break no rule

int_of : (n : ℕ) → row_int (number_row n) ≡ Some (pos n)
int_of n = ap (λ (v : Value). layer_int (out-Value v)) (sym (rolls-Int (pos n))) ∙ ap layer_int (out-roll-Value (Value-F.Int (pos n)))

pub numbers_rows : (ns : List ℕ) → numbers_of (map number_row ns) ≡ ns
numbers_rows [] = refl
numbers_rows (n ∷ ns) = ap (λ (o : Option ℤ). magnitude o ∷ numbers_of (map number_row ns)) (int_of n) ∙ ap (λ (ms : List ℕ). n ∷ ms) (numbers_rows ns)

unsigned_type : is_unsigned number_type ≡ true
unsigned_type = ap layer_is_unsigned (ap out-DType (sym (rolls-Primitive U64 NonNullable)) ∙ out-roll-DType (DType-F.Primitive U64 NonNullable))

pub none_broken : (rule : Rule × Bool) (rules : List (Rule × Bool)) → rule.1 ≡ false → first_broken rules ≡ None → first_broken (rule ∷ rules) ≡ None
unfolding first_broken
none_broken rule rules e h = ap (λ (b : Bool). cond b (Some rule.0) (first_broken rules)) e ∙ h

pub no_rules : first_broken [] ≡ None
unfolding first_broken
no_rules = refl

low_one : (x : ℕ) → nat_le 0 x ≡ true
low_one x = grind (arith, nat_tests)

all_low : (xs : List ℕ) → all_within 0 None xs ≡ true
all_low [] = refl
all_low (x ∷ xs) = and_from (nat_le 0 x && true) (all_within 0 None xs) (and_from (nat_le 0 x) true (low_one x) refl) (all_low xs)

below_one : (x hi : ℕ) → x < hi → nat_lt x hi ≡ true
below_one x hi h = grind (arith, nat_tests)

all_below : (hi : ℕ) (xs : List ℕ) → ((k : ℕ) → k < length xs → get_or xs k 0 < hi) → all_within 0 (Some hi) xs ≡ true
all_below hi [] h = refl
all_below hi (x ∷ xs) h =
    and_from (nat_le 0 x && nat_lt x hi) (all_within 0 (Some hi) xs) (and_from (nat_le 0 x) (nat_lt x hi) (low_one x) (below_one x hi (h 0 (omega arith)))) (all_below hi xs (λ k l. h (suc k) (omega arith)))

too_long_no : (len : ℕ) → len < 18446744073709551616 → nat_le 18446744073709551616 (0 + len) ≡ false
too_long_no len h = grind (arith, nat_tests)

pub some_no : (n : ℕ) → 0 < n → nat_eq n 0 ≡ false
some_no n h = grind (arith, nat_tests)

pub same_yes : (m n : ℕ) → m ≡ n → nat_eq m n ≡ true
same_yes m n h = grind (arith, nat_tests)

pub no_fault : (len : ℕ) (ns : List ℕ) (values : Flat) → len < 18446744073709551616 → 0 < length ns → IsStrictlyIncreasing ns → get_or ns (length ns - 1) 0 < len → length values.rows ≡ length ns →
    patches_fault len 0 (numbers_flat ns) values None ≡ None
no_fault len ns values short some rising below long =
    let xs = numbers_of (map number_row ns) in
    let seen : xs ≡ ns = numbers_rows ns in
    let size : length (map number_row ns) ≡ length ns = length-map ns number_row in
    let all : (k : ℕ) → k < length ns → get_or ns k 0 < 0 + len = λ k l. omega (arith, below_last len ns rising below k l) in
    none_broken _ _ (too_long_no len short)
    (none_broken _ _ (some_no (length (map number_row ns)) (omega arith))
    (none_broken _ _ (ap not unsigned_type)
    (none_broken _ _ (ap (λ (ys : List ℕ). not (strictly_increasing ys)) seen ∙ ap not (says-strictly_increasing ns rising))
    (none_broken _ _ (ap not (all_low xs))
    (none_broken _ _ (ap (λ (ys : List ℕ). not (all_within 0 (Some (0 + len)) ys)) seen ∙ ap not (all_below (0 + len) ns all))
    (none_broken _ _ (ap not (same_yes (length values.rows) (length (map number_row ns)) (omega arith))) no_rules))))))

-- ---- what they mean

less_none : (ns : List ℕ) → map (λ (n : ℕ). n - 0) ns ≡ ns
less_none [] = refl
less_none (n ∷ ns) = let e : n - 0 ≡ n = omega arith in ap (λ (m : ℕ). m ∷ map (λ (k : ℕ). k - 0) ns) e ∙ ap (λ (ms : List ℕ). n ∷ ms) (less_none ns)

pub fresh_pairs : (len : ℕ) (ns : List ℕ) (values : Flat) → pairs_of (fresh len ns values) ≡ zip ns values.rows
fresh_pairs len ns values = ap (λ (xs : List ℕ). zip (map (λ (n : ℕ). n - 0) xs) values.rows) (numbers_rows ns) ∙ ap (λ (xs : List ℕ). zip xs values.rows) (less_none ns)

zip_halves : {A : Type 0} (ps : List (ℕ × A)) → zip (firsts ps) (map (λ (p : ℕ × A). p.1) ps) ≡ ps
zip_halves [] = refl
zip_halves {A} (p ∷ ps) = ap (λ (qs : List (ℕ × A)). p ∷ qs) (zip_halves ps)

-- the exceptions that pairs become are these pairs
pub pairs_of_pairs : (len : ℕ) (dtype : DType) (ps : List (ℕ × Option Value)) → pairs_left (of_pairs len dtype ps) ≡ ps
pairs_of_pairs len dtype [] = refl
pairs_of_pairs len dtype (p ∷ ps) =
    fresh_pairs len (firsts (p ∷ ps)) (flat dtype (map (λ (q : ℕ × Option Value). q.1) (p ∷ ps))) ∙ zip_halves (p ∷ ps)
