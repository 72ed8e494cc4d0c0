-- Lists that are joined and cut.
use Rattle.std.proofs.Common.{◌≡◌, ℕ, ◌+◌, ◌-◌, ◌≤◌, ◌<◌, List, [], ◌∷◌, ◌++◌, take, drop, length, get_or, max, sym, ◌∙◌, ap, arith}
use Rattle.std.proofs.lemmas.List.{drop-append-le, drop-take, take-append-le, take_all, take_rest, length-drop, drop_more, take-append-drop}
use Rattle.std.proofs.Math.Seq.{take-append-add, drop-append-add}
use Rattle.std.proofs.lemmas.Bool.Decides.{nat_tests}
use Rattle.std.specs.List.{slice_range}
use Rattle.vx_base.specs.Ranges.{ends_cut}
use Rattle.vx_job.specs.Rows.{greatest}

-- to cut the front off and then the back is to cut the back off and then the front
pub sublist_by_take : {A : Type 0} (xs : List A) (start end : ℕ) → start ≤ end → slice_range xs start end ≡ drop start (take end xs)
sublist_by_take xs start end h =
    let whole : start + (end - start) ≡ end = omega arith in
    sym (ap (λ n. drop start (take n xs)) (sym whole) ∙ drop-take start (end - start) xs)

pub sublist_front : {A : Type 0} (xs : List A) (end : ℕ) → slice_range xs 0 end ≡ take end xs
sublist_front xs end = sublist_by_take xs 0 end (omega arith)

pub sublist_rest : {A : Type 0} (xs : List A) (start : ℕ) → slice_range xs start (length xs) ≡ drop start xs
sublist_rest xs start = take_rest xs start

pub sublist_whole : {A : Type 0} (xs : List A) (end : ℕ) → end ≡ length xs → slice_range xs 0 end ≡ xs
sublist_whole xs end e = sublist_front xs end ∙ take_all _ _ (omega arith)

pub sublist_none : {A : Type 0} (xs : List A) (start end : ℕ) → start ≡ end → slice_range xs start end ≡ []
sublist_none xs start end e =
    let none : end - start ≡ 0 = omega arith in
    ap (λ n. take n (drop start xs)) none

-- a cut inside the middle part
pub sublist_inside : {A : Type 0} (p x q : List A) (s e start end : ℕ) → s ≤ e → e ≤ length x → start ≡ length p + s → end ≡ length p + e →
    slice_range (p ++ (x ++ q)) start end ≡ slice_range x s e
sublist_inside p x q s e start end h k f g =
    let long : end - start ≡ e - s = omega arith in
    let in_x : e - s ≤ length (drop s x) = omega (arith, length-drop s x) in
    ap (λ n. take n (drop start (p ++ (x ++ q)))) long ∙ ap (λ n. take (e - s) (drop n (p ++ (x ++ q)))) f
    ∙ ap (take (e - s)) (drop-append-add p (x ++ q) s ∙ drop-append-le s x q (omega arith)) ∙ take-append-le (e - s) (drop s x) q in_x

-- a cut from within one part to within a later one
pub sublist_across : {A : Type 0} (p x m y q : List A) (s e start end : ℕ) → s ≤ length x → e ≤ length y → start ≡ length p + s → end ≡ length p + (length x + (length m + e)) →
    slice_range (p ++ (x ++ (m ++ (y ++ q)))) start end ≡ drop s x ++ (m ++ take e y)
sublist_across p x m y q s e start end h k f g =
    let all = p ++ (x ++ (m ++ (y ++ q))) in
    let to_end : take end all ≡ p ++ (x ++ (m ++ take e y)) =
    ap (λ n. take n all) g ∙ take-append-add p (x ++ (m ++ (y ++ q))) (length x + (length m + e)) ∙ ap (λ r. p ++ r) (take-append-add x (m ++ (y ++ q)) (length m + e)
    ∙ ap (λ r. x ++ r) (take-append-add m (y ++ q) e ∙ ap (λ r. m ++ r) (take-append-le e y q k))) in
    sublist_by_take all start end (omega arith) ∙ ap (drop start) to_end ∙ ap (λ n. drop n (p ++ (x ++ (m ++ take e y)))) f
    ∙ drop-append-add p (x ++ (m ++ take e y)) s ∙ drop-append-le s x (m ++ take e y) h

pub greatest-append : (xs ys : List ℕ) → greatest (xs ++ ys) ≡ max (greatest xs) (greatest ys)
greatest-append [] ys = omega arith
greatest-append (x ∷ xs) ys = omega (arith, greatest-append xs ys)

-- there are two ends
pub ends_cut_most : (s e n : ℕ) → ends_cut s e n ≤ 2
ends_cut_most s e n = grind (arith, nat_tests)

-- a part cuts no end that the whole does not
pub ends_cut_within : (s e n s' e' n' : ℕ) → (s ≡ 0 → s' ≡ 0) → (e ≡ n → e' ≡ n') → ends_cut s' e' n' ≤ ends_cut s e n
ends_cut_within s e n s' e' n' f g = grind (arith, nat_tests)

-- the first part may cut its front and the last its end
pub ends_cut_across : (s e n s' l e' n' : ℕ) → (s ≡ 0 → s' ≡ 0) → (e ≡ n → e' ≡ n') → ends_cut s' l l + ends_cut 0 e' n' ≤ ends_cut s e n
ends_cut_across s e n s' l e' n' f g = grind (arith, nat_tests)

-- a list is what stands before an element, the element, and what stands behind it
pub split_at : {A : Type 0} (xs : List A) (k : ℕ) (x : A) → k < length xs → x ≡ get_or xs k x → xs ≡ take k xs ++ (x ∷ drop (k + 1) xs)
split_at xs k x h e = sym (take-append-drop k xs) ∙ ap (λ ys. take k xs ++ ys) (drop_more xs k x h ∙ ap (λ y. y ∷ drop (k + 1) xs) (sym e))
