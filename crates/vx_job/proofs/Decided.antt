-- Whether two types are equal, or alike, can be decided, since types have codes.
use Rattle.std.proofs.Common.{◌≡◌, ◌⊎◌, inl, inr, List, [], ◌∷◌, ap, refl, sym, ◌∙◌}
use Rattle.std.specs.List.{AllByRecursion}
use Rattle.std.proofs.lemmas.Bool.{cases_eq}
use Rattle.std.proofs.lemmas.List.Elements.{All-from_recursion, recursion_from_All}
use Rattle.vx_rows.specs.Types.{AlikeTypes, layer_with, with_nullability}
use Rattle.vx_rows.specs.declared.kinds.Nullability.TheVariants.{NonNullable}
use Rattle.vx_job.specs.Kinds.{AreAlike}
use base.Stored.{Gv, gnil, gnum, gcons, num}
use Rattle.vx_rows.specs.declared.dtype.DType.{DType, out-DType, roll-DType, out-roll-DType}
use Rattle.vx_rows.specs.contracts.dtype.DType as dtype_row

abbrev front : Gv → Gv
front gnil = gnil
front (gnum n) = gnil
front (gcons a b) = a

abbrev back : Gv → Gv
back gnil = gnil
back (gnum n) = gnil
back (gcons a b) = b

abbrev pub Decided : Type 0 → Type 0
Decided A = A ⊎ (A → ⊥)

code_decided : (a b : Gv) → Decided (a ≡ b)
code_decided gnil gnil = inl refl
code_decided gnil (gnum n) = inr (λ e. cc)
code_decided gnil (gcons c d) = inr (λ e. cc)
code_decided (gnum m) gnil = inr (λ e. cc)
code_decided (gnum m) (gnum n) = elim (cases_eq m n) as (λ _. Decided (gnum m ≡ gnum n)) [ inl same ↦ inl (ap gnum same) | inr apart ↦ inr (λ e. apart (ap num e)) ]
code_decided (gnum m) (gcons c d) = inr (λ e. cc)
code_decided (gcons a b) gnil = inr (λ e. cc)
code_decided (gcons a b) (gnum n) = inr (λ e. cc)
code_decided (gcons a b) (gcons c d) = both (code_decided a c) (code_decided b d)
  where
    both : Decided (a ≡ c) → Decided (b ≡ d) → Decided (gcons a b ≡ gcons c d)
    both (inl e) (inl f) = inl (λ i. gcons (e i) (f i))
    both (inr apart) f = inr (λ e. apart (ap front e))
    both (inl e) (inr apart) = inr (λ h. apart (ap back h))

pub types_decided : (s t : DType) → Decided (s ≡ t)
types_decided s t =
    let c = dtype_row.the_row.coded in
    elim (code_decided (c.code s) (c.code t)) as (λ _. Decided (s ≡ t)) [ inl same ↦ inl (c.inj s t same) | inr apart ↦ inr (λ e. apart (ap c.code e)) ]

-- what can be decided of each element can be decided of all
pub all_decided : {A : Type 0} (P : A → Type 0) → ((x : A) → Decided (P x)) → (xs : List A) → Decided (AllByRecursion P xs)
all_decided P d [] = inl tt
all_decided P d (x ∷ xs) = both (d x) (all_decided P d xs)
  where
    both : Decided (P x) → Decided (AllByRecursion P xs) → Decided (P x × AllByRecursion P xs)
    both (inl p) (inl q) = inl (p, q)
    both (inr apart) q = inr (λ h. apart h.0)
    both (inl p) (inr apart) = inr (λ h. apart h.1)

-- two types are alike where they are equal without their outermost nullability
pub alike_decided : (s t : DType) → Decided (AlikeTypes s t)
alike_decided s t = by (types_decided (with_nullability s NonNullable) (with_nullability t NonNullable))
  where
    by : Decided (with_nullability s NonNullable ≡ with_nullability t NonNullable) → Decided (AlikeTypes s t)
    by (inl same) = inl (sym (out-roll-DType (layer_with NonNullable (out-DType s))) ∙ ap out-DType same ∙ out-roll-DType (layer_with NonNullable (out-DType t)))
    by (inr apart) = inr (λ e. apart (ap roll-DType e))

pub all_alike_decided : (ts : List DType) → Decided (AreAlike ts)
all_alike_decided [] = inl tt
all_alike_decided (t ∷ ts) = by (all_decided (λ s. AlikeTypes s t) (λ s. alike_decided s t) ts)
  where
    by : Decided (AllByRecursion (λ s. AlikeTypes s t) ts) → Decided (AreAlike (t ∷ ts))
    by (inl h) = inl (All-from_recursion (λ s. AlikeTypes s t) ts h)
    by (inr apart) = inr (λ all. apart (recursion_from_All (λ s. AlikeTypes s t) ts all))
