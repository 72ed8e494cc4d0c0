-- Bits of members.
use Rattle.std.proofs.Common.{◌≡◌, ℕ, zero, suc, ◌+◌, ◌<◌, Bool, false, cond, List, [], ◌∷◌, ◌++◌, length, map, take, get_or, refl, ap, subst, sym, ◌∙◌, arith, Option, Some, None}
use Rattle.std.specs.Option.{is_some}
use Rattle.vx_rows.specs.declared.value.Value.{Value}
use Rattle.vx_scalars.specs.Membership.{is_member, memberships}
use Rattle.vx_lookup.specs.Bits.{bits_where}

-- one bit more
more_there : (bits present : List Bool) (i : ℕ) → i < length bits → length bits ≡ length present
    → bits_where (take (suc i) bits) (take (suc i) present) ≡ bits_where (take i bits) (take i present) ++ cond (get_or present i false) (Some (get_or bits i false)) None ∷ []
more_there [] present i h same = absurd (omega arith)
more_there (bit ∷ bits) [] i h same = absurd (omega arith)
more_there (bit ∷ bits) (here ∷ present) zero h same = refl
more_there (bit ∷ bits) (here ∷ present) (suc i) h same = ap (λ (xs : List (Option Bool)). cond here (Some bit) None ∷ xs) (more_there bits present i (omega arith) (omega arith))

pub where_more : (bits present : List Bool) (i : ℕ) → i < length bits → length bits ≡ length present
    → bits_where (take (i + 1) bits) (take (i + 1) present) ≡ bits_where (take i bits) (take i present) ++ cond (get_or present i false) (Some (get_or bits i false)) None ∷ []
where_more bits present i h same =
    let e : suc i ≡ i + 1 = omega arith in
    subst (λ (k : ℕ). bits_where (take k bits) (take k present) ≡ bits_where (take i bits) (take i present) ++ cond (get_or present i false) (Some (get_or bits i false)) None ∷ []) e (more_there bits present i h same)

-- the bits of members, where rows are there
pub members_where : (set rows : List (Option Value)) → bits_where (map (is_member set) rows) (map is_some rows) ≡ memberships set rows
members_where set [] = refl
members_where set (None ∷ rows) = ap (λ (xs : List (Option Bool)). None ∷ xs) (members_where set rows)
members_where set (Some v ∷ rows) = ap (λ (xs : List (Option Bool)). Some (is_member set (Some v)) ∷ xs) (members_where set rows)
