-- Rows that the order calls equal are one row.
use Rattle.std.proofs.Common.{◌≡◌, Bool, true, false, List, [], ◌∷◌, Option, Some, None, map, refl, sym, ap, ◌∙◌, subst}
use Rattle.std.specs.declared.cmp.Ordering.{Ordering}
use Rattle.std.specs.declared.cmp.Ordering.TheVariants.{Equal}
use Rattle.std.specs.Ordering.{bool_cmp}
use Rattle.std.specs.Cmp.Lexicographic.{slice_cmp}
use Rattle.std.proofs.lemmas.Cmp.{tied_itself}
use Rattle.std.proofs.lemmas.Map.Lookups.{exact_signed, exact_bytes}
use Rattle.vx_rows.specs.Order.{option_cmp, layer_cmp, value_cmp, row_cmp}
use Rattle.vx_rows.specs.declared.value.Value.{Value, out-Value}
use Rattle.vx_rows.specs.declared.value.Value.TheOpen.{Value-F}
use Rattle.vx_rows.specs.declared.value.Value.TheViews.{roll-Value, roll-out-Value, out-roll-Value}
use Rattle.vx_rows.specs.declared.value.Value.TheFolds.{ind-Value, map-Value}
use Rattle.vx_scalars.specs.Orders.{IsExact}
use Rattle.vx_scalars.proofs.Total.{then_equal, value_layer, row_cmp_total}

-- what is called equal to an element is the element
abbrev Tells : {K : Type 0} → (K → K → Ordering) → K → Type 0
Tells {K} R x = (y : K) → R x y ≡ Equal → x ≡ y

none_tells : {K : Type 0} (R : K → K → Ordering) → Tells (option_cmp R) None
none_tells R None e = refl
none_tells R (Some y) e = absurd (cc)

some_tells : {K : Type 0} (R : K → K → Ordering) (x : K) → Tells R x → Tells (option_cmp R) (Some x)
some_tells R x t None e = absurd (cc)
some_tells R x t (Some y) e = ap (λ z. Some z) (t y e)

lists_tell : {E K : Type 0} (R : K → K → Ordering) (f : E → K) → ((e : E) → Tells R (f e)) → (es : List E) → Tells (slice_cmp R) (map f es)
lists_tell R f t [] [] e = refl
lists_tell R f t [] (y ∷ ys) e = absurd (cc)
lists_tell R f t (x ∷ es) [] e = absurd (cc)
lists_tell R f t (x ∷ es) (y ∷ ys) e =
    let both = then_equal (R (f x) y) (slice_cmp R (map f es) ys) e in
    λ i. t x y both.0 i ∷ lists_tell R f t es ys both.1 i

bools_tell : (a : Bool) → Tells bool_cmp a
bools_tell true true e = refl
bools_tell true false e = absurd (cc)
bools_tell false true e = absurd (cc)
bools_tell false false e = refl

-- a value with what is told of it
abbrev Told : Type 0
Told = (v : Value) × Tells value_cmp v

abbrev plain : Value-F Told → Value-F Value
plain = map-Value Told Value (λ e. e.0)

rows_tell : (g : Option Told → Option Value) → g None ≡ None → ((e : Told) → g (Some e) ≡ Some e.0) → (es : List (Option Told)) → Tells (slice_cmp row_cmp) (map g es)
rows_tell g n s = lists_tell row_cmp g (λ e. elim e as (λ e. Tells row_cmp (g e)) [ None ↦ subst (Tells row_cmp) (sym n) (none_tells value_cmp) | Some e ↦ subst (Tells row_cmp) (sym (s e)) (some_tells value_cmp e.0 e.1) ])

layers_tell : (x : Value-F Told) (y : Value-F Value) → layer_cmp value_cmp (plain x) y ≡ Equal → plain x ≡ y
layers_tell (Value-F.Bool a) (Value-F.Bool b) e = ap (λ c. Value-F.Bool c) (bools_tell a b e)
layers_tell (Value-F.Int a) (Value-F.Int b) e = ap (λ c. Value-F.Int c) (exact_signed a b e)
layers_tell (Value-F.Decimal a) (Value-F.Decimal b) e = ap (λ c. Value-F.Decimal c) (exact_signed a b e)
layers_tell (Value-F.Utf8 a) (Value-F.Utf8 b) e = ap (λ c. Value-F.Utf8 c) (exact_bytes a b e)
layers_tell (Value-F.Binary a) (Value-F.Binary b) e = ap (λ c. Value-F.Binary c) (exact_bytes a b e)
layers_tell (Value-F.List a) (Value-F.List b) e = ap (λ c. Value-F.List c) (rows_tell _ refl (λ e. refl) a b e)
layers_tell (Value-F.Struct a) (Value-F.Struct b) e = ap (λ c. Value-F.Struct c) (rows_tell _ refl (λ e. refl) a b e)
layers_tell x y e = absurd (cc)

value_tells : (v : Value) → Tells value_cmp v
value_tells = ind-Value (Tells value_cmp) (λ x y e w f.
    let opened : layer_cmp value_cmp x (out-Value w) ≡ Equal = ap (λ z. layer_cmp value_cmp z (out-Value w)) (sym (out-roll-Value x)) ∙ sym (value_layer (roll-Value x) w) ∙ f in
    let same : x ≡ out-Value w = sym e ∙ layers_tell y (out-Value w) (ap (λ z. layer_cmp value_cmp z (out-Value w)) e ∙ opened) in
    ap roll-Value same ∙ roll-out-Value w)

row_tells : (r : Option Value) → Tells row_cmp r
row_tells None = none_tells value_cmp
row_tells (Some v) = some_tells value_cmp v (value_tells v)

pub row_cmp_exact : IsExact row_cmp
row_cmp_exact x y = (row_tells x y, λ e. ap (row_cmp x) (sym e) ∙ tied_itself row_cmp_total x)
