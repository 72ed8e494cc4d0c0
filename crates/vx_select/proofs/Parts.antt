-- Parts that are asked, one after the other.
use Rattle.std.proofs.Common.{arith, refl, sym, ◌∙◌, ap, subst, ◌≡◌, ◌<◌, ◌+◌, ◌⊎◌, inl, inr, ℕ, List, [], ◌∷◌, ◌++◌, map, length, get_or, length-append}
use Rattle.std.proofs.lemmas.List.{get_or-map, get_or_default}
use Rattle.std.proofs.lemmas.Grind.{common_steps}
use Rattle.std.specs.List.{All}
use Rattle.vx_column.specs.Columns.{rows_of, len_of}
use Rattle.vx_job.specs.Rows.{Rows}
use Rattle.vx_column.specs.declared.column.Column.{Column}
use Rattle.vx_job.specs.Rows.{picked as rows_at}
use Rattle.vx_select.specs.Spots.{Lists, Spot, AreBelow, wanted, AreWanted, AreAnswers, AreAnswersOf, IsThere}
use Rattle.vx_select.proofs.Deals.{wanted_there}
use Rattle.vx_select.proofs.Rising.{lists_at, list_here}

-- a list of what is wanted, as the code reads it
pub wanted_is : (spots : List Spot) (count k : ℕ) (lists : List (List ℕ)) (w : List ℕ) → AreWanted spots count lists → k < count → w ≡ get_or lists k w → w ≡ wanted k spots
wanted_is spots count k lists w dealt h e =
    let within : k < length lists = omega (arith, dealt.0) in
    e ∙ get_or_default lists k w [] within ∙ dealt.1 k h

pub part_is : (parts : List Column) (k : ℕ) (x : Column) → k < length parts → x ≡ get_or parts k x → get_or (map rows_of parts) k [] ≡ rows_of x
part_is parts k x h e = get_or-map rows_of parts k x [] h ∙ ap rows_of (sym e)

-- the same of a part that is asked by its number
pub asked_part : (parts : List Column) (numbers : List ℕ) (k number : ℕ) (x : Column) → k < length numbers → number ≡ get_or numbers k 0 → number < length parts → x ≡ get_or parts number x →
    get_or (lists_at (map rows_of parts) numbers) k [] ≡ rows_of x
asked_part parts numbers k number x h e within at =
    list_here (map rows_of parts) numbers k h ∙ ap (λ n. get_or (map rows_of parts) n []) (sym e) ∙ part_is parts number x within at

-- what is wanted of a part stands in it
pub below_here : (values : Lists) (spots : List Spot) (k : ℕ) (x : Column) (places : List ℕ) → get_or values k [] ≡ rows_of x → places ≡ wanted k spots → All (IsThere values) spots → AreBelow (len_of x) places
below_here values spots k x places value e there =
    subst (AreBelow (len_of x)) (sym e) (subst (λ (r : Rows). AreBelow (length r) (wanted k spots)) value (wanted_there values spots k there))

-- the rows of a part are those that are wanted of it
pub answer_is : (values : Lists) (spots : List Spot) (k : ℕ) (x : Column) (places : List ℕ) (rows : Rows) → get_or values k [] ≡ rows_of x → places ≡ wanted k spots → rows ≡ rows_at (rows_of x) places →
    rows ≡ rows_at (get_or values k []) (wanted k spots)
answer_is values spots k x places rows value e is = is ∙ ap (rows_at (rows_of x)) e ∙ ap (λ (r : Rows). rows_at r (wanted k spots)) (sym value)

at_last : {A : Type 0} (xs : List A) (x d : A) (k : ℕ) → k ≡ length xs → get_or (xs ++ x ∷ []) k d ≡ x
at_last xs x d k e = grind (arith, common_steps)

before_last : {A : Type 0} (xs : List A) (x d : A) (k : ℕ) → k < length xs → get_or (xs ++ x ∷ []) k d ≡ get_or xs k d
before_last xs x d k h = grind (arith, common_steps)

order : (a b : ℕ) → a < b + 1 → (a < b) ⊎ (a ≡ b)
order a b h = grind arith

-- one part more has answered
pub answers_more : (values : Lists) (spots : List Spot) (count : ℕ) (answers : Lists) (more : Rows) → AreAnswersOf values spots count answers →
    more ≡ rows_at (get_or values count []) (wanted count spots) → AreAnswersOf values spots (count + 1) (answers ++ more ∷ [])
answers_more values spots count answers more known is =
    let long : length (answers ++ more ∷ []) ≡ length answers + 1 = omega (arith, length-append answers (more ∷ [])) in
    (omega (arith, long, known.0), λ k below. each k (order k (length answers) (omega (arith, long))))
  where
    each : (k : ℕ) → (k < length answers) ⊎ (k ≡ length answers) → get_or (answers ++ more ∷ []) k [] ≡ rows_at (get_or values k []) (wanted k spots)
    each k (inl before) = before_last answers more [] k before ∙ known.1 k before
    each k (inr last) =
        let same : count ≡ k = omega (arith, known.0, last) in
        at_last answers more [] k last ∙ is ∙ ap (λ (n : ℕ). rows_at (get_or values n []) (wanted n spots)) same

-- the answers of two parts
pub answers_two : (values : Lists) (spots : List Spot) (a b : Rows) → a ≡ rows_at (get_or values 0 []) (wanted 0 spots) → b ≡ rows_at (get_or values 1 []) (wanted 1 spots) →
    AreAnswers values spots (a ∷ b ∷ [])
answers_two values spots a b e f = (answers_more values spots 1 (a ∷ []) b (answers_more values spots 0 [] a (refl, λ k h. absurd (omega arith)) e) f).1

-- the spots' lists are few enough
pub spots_within : (values : Lists) (spots : List Spot) (count : ℕ) → length values ≡ count → All (IsThere values) spots → All (λ (s : Spot). s.0 < count) spots
spots_within values spots count long there = λ k d h. let at = there k d h in omega (arith, at.0, long)
