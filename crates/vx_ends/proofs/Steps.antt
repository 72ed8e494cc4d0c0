-- What calls one after another do to the bytes of an end.
use Rattle.std.proofs.Common.{◌≡◌, ◌≤◌, ◌-◌, ◌+◌, ℕ, List, [], ◌++◌, length, take, drop, Option, Some, None, refl, sym, ap, ◌∙◌, append_assoc, length-drop, arith}
use Rattle.std.specs.Io.KnownBytes.{Consumes, Appends}
use Rattle.std.proofs.lemmas.List.{take_all}
use Rattle.std.proofs.Math.Seq.{take-add}
use Rattle.vx_ends.specs.Moved.{TakesFront}

-- two reads take the bytes of both
pub consumes_more : (a b c : Option (List ℕ)) (xs ys : List ℕ)
    → Consumes a b xs → Consumes b c ys → Consumes a c (xs ++ ys)
consumes_more None b c xs ys h k = tt
consumes_more (Some x) None c xs ys h k = absurd h
consumes_more (Some x) (Some y) None xs ys h k = absurd k
consumes_more (Some x) (Some y) (Some z) xs ys h k = h ∙ ap (λ r. xs ++ r) k ∙ sym (append_assoc xs ys z)

-- two writes append the bytes of both
pub appends_more : (a b c : Option (List ℕ)) (xs ys : List ℕ)
    → Appends a b xs → Appends b c ys → Appends a c (xs ++ ys)
appends_more None b c xs ys h k = tt
appends_more (Some x) None c xs ys h k = absurd h
appends_more (Some x) (Some y) None xs ys h k = absurd k
appends_more (Some x) (Some y) (Some z) xs ys h k = k ∙ ap (λ r. r ++ ys) h ∙ append_assoc x xs ys

-- the part that is written next
pub next_part : (text : List ℕ) (at n : ℕ)
    → take (at + n) text ≡ take at text ++ take n (take (length text - at) (drop at text))
next_part text at n =
    let rest : length (drop at text) ≤ length text - at = omega (arith, length-drop at text) in
    rw (take_all _ _ rest) (take-add at n text)

-- a call that takes no byte takes a front
pub takes_none : (a : Option (List ℕ)) → TakesFront a a
takes_none None = ([], tt)
takes_none (Some x) = ([], refl)
