-- From the refusals and the facts of the makers below to the first fault of a column's parts.
use Rattle.std.proofs.Common.{◌≡◌, ℕ, List, [], ◌∷◌, length, Option, Some, None, Bool, true, false, not, cond, ◌&&◌, nat_eq, nat_lt, refl, sym, ◌∙◌, ap, subst, arith, append-nil, IsTrue}
use Rattle.std.specs.Option.{option_or}
use Rattle.std.specs.List.{All, AllByRecursion}
use Rattle.std.proofs.lemmas.Bool.{and_parts}
use Rattle.std.proofs.lemmas.List.Elements.{All-from_recursion}
use Rattle.std.proofs.lemmas.Bool.Decides.{nat_tests}
use Rattle.vx_rows.specs.Types.{AlikeTypes}
use Rattle.vx_rows.specs.declared.dtype.DType.{DType}
use Rattle.vx_rows.specs.declared.error.Rule.{Rule}
use Rattle.vx_rows.specs.declared.error.Rule.TheVariants.{TooFewValues, ValueTypes}
use Rattle.vx_interleave.specs.Rules.{selector_fault}
use Rattle.vx_rows.specs.declared.error.ColumnError.{ColumnError}
use Rattle.vx_rows.specs.declared.error.ColumnError.TheVariants.{Malformed}
use Rattle.vx_base.specs.Column.{Flat}
use Rattle.vx_base.specs.Rules.{first_broken, Refuses}
use Rattle.vx_base.proofs.CheckLemmas.{length_numbers}
use Rattle.vx_patches.specs.Places.{Index, IsIndex, indices_of}
use Rattle.vx_patches.specs.Making.{index_rules, index_fault, places_fault, chunk_fault, made}
use Rattle.vx_lanes.specs.Rules.{IsFirstBroken, LayoutCause}
use Rattle.vx_lanes.specs.declared.layout.Layout.{Layout}
use Rattle.vx_lanes.proofs.Sound.{passed}
use Rattle.vx_job.specs.Kinds.{AreExceptionKinds, is_bool_or_integer, is_nullable}
use Rattle.vx_job.specs.Faults.{IsFirstFault, value_rules, exceptions_fault, all_bool_or_integer, interleaved_fault}
use Rattle.vx_job.specs.Faults.Fault.{Broken}

-- a refusal names a rule
pub refusal_told : (fault : Option Rule) (e : ColumnError) → Refuses fault e → (rule : Rule) × (fault ≡ Some rule) × (e ≡ Malformed [] rule)
refusal_told None e r = absurd r
refusal_told (Some rule) e r = (rule, refl, r)

pub layout_told : (t : DType) (l : Layout) (e : ColumnError) → LayoutCause t l e → (rule : Rule) × (e ≡ Malformed [] rule) × IsFirstBroken t l (Some rule)
layout_told t l (Malformed at rule) h = (rule, ap (λ (a : List ℕ). Malformed a rule) h.0, h.1)
layout_told t l _ h = absurd h

-- where the types are supported the first fault is the first broken rule
pub fault_broken : (b : Bool) (Broke : Option Rule → Type 0) (rule : Rule) → b ≡ true → Broke (Some rule) → IsFirstFault b Broke (Some (Broken rule))
fault_broken b Broke rule e h = subst (λ b. IsFirstFault b Broke (Some (Broken rule))) (sym e) h

pub fault_none : (b : Bool) (Broke : Option Rule → Type 0) → b ≡ true → Broke None → IsFirstFault b Broke None
fault_none b Broke e h = subst (λ b. IsFirstFault b Broke None) (sym e) h

-- the fault of the indices alone
pub places_alone : (len offset : ℕ) (indices : Flat) → index_fault len offset indices None ≡ places_fault len offset indices
places_alone len offset indices = ap first_broken (append-nil (index_rules len offset indices))

-- the three makers of exceptions, one after the other
pub fault_of_places : (alike : Bool) (base values : DType) (len offset count : ℕ) (indices : Flat) (offsets : Option Flat) (rule : Rule) → index_fault len offset indices None ≡ Some rule →
    exceptions_fault alike base len offset indices values count offsets ≡ Some rule
fault_of_places alike base values len offset count indices offsets rule e =
    ap (λ (o : Option Rule). option_or o (option_or (first_broken (value_rules indices alike base values count)) (chunk_fault len offset indices offsets))) (sym (places_alone len offset indices) ∙ e)

pub fault_of_values : (alike : Bool) (base values : DType) (len offset count : ℕ) (indices : Flat) (offsets : Option Flat) (rule : Rule) → index_fault len offset indices None ≡ None →
    first_broken (value_rules indices alike base values count) ≡ Some rule → exceptions_fault alike base len offset indices values count offsets ≡ Some rule
fault_of_values alike base values len offset count indices offsets rule e f =
    ap (λ (o : Option Rule). option_or o (option_or (first_broken (value_rules indices alike base values count)) (chunk_fault len offset indices offsets))) (sym (places_alone len offset indices) ∙ e)
    ∙ ap (λ (o : Option Rule). option_or o (chunk_fault len offset indices offsets)) f

pub fault_of_offsets : (alike : Bool) (base values : DType) (len offset count : ℕ) (indices : Flat) (offsets : Option Flat) (fault : Option Rule) → index_fault len offset indices None ≡ None →
    first_broken (value_rules indices alike base values count) ≡ None → chunk_fault len offset indices offsets ≡ fault → exceptions_fault alike base len offset indices values count offsets ≡ fault
fault_of_offsets alike base values len offset count indices offsets fault e f h =
    ap (λ (o : Option Rule). option_or o (option_or (first_broken (value_rules indices alike base values count)) (chunk_fault len offset indices offsets))) (sym (places_alone len offset indices) ∙ e)
    ∙ ap (λ (o : Option Rule). option_or o (chunk_fault len offset indices offsets)) f ∙ h

values_tell : (indices : Flat) (alike : Bool) (base values : DType) (count : ℕ) → first_broken (value_rules indices alike base values count) ≡ None →
    (count ≡ length indices.rows) × (alike ≡ true) × (is_nullable values ≡ true → is_nullable base ≡ true)
values_tell indices alike base values count e =
    let p = passed _ (not (nat_eq count (length indices.rows))) _ e in
    let q = passed _ (not alike) _ p.1 in
    let r = passed _ (is_nullable values && not (is_nullable base)) _ q.1 in
    (grind (arith, nat_tests, p.0), not_false alike q.0, only_base (is_nullable values) (is_nullable base) r.0)
  where
    not_false : (b : Bool) → not b ≡ false → b ≡ true
    not_false true e = refl
    not_false false e = sym e

    only_base : (a b : Bool) → (a && not b) ≡ false → a ≡ true → b ≡ true
    only_base true true e f = refl
    only_base true false e f = sym e
    only_base false b e f = absurd cc

-- what no broken rule leaves
pub exceptions_fit : (alike : Bool) (base values : DType) (len offset count : ℕ) (indices : Flat) (offsets : Option Flat) (index : Index) → is_bool_or_integer base ≡ true → (IsTrue alike → AlikeTypes values base) →
    index ≡ made len offset indices offsets → IsIndex index → first_broken (value_rules indices alike base values count) ≡ None → AreExceptionKinds index base len values count
exceptions_fit alike base values len offset count indices offsets index scalar tells is sound clean =
    let told = values_tell indices alike base values count clean in
    record {
      kind = scalar;
      sorted = sound;
      as_long = ap (λ (i : Index). i.len) is;
      paired = told.0 ∙ sym (length_numbers indices.rows) ∙ sym (ap (λ (i : Index). length (indices_of i)) is);
      alike = tells told.1;
      nulls = told.2;
    }

-- the rules of interleaved values, one after the other
pub fault_few : (alike : Bool) (lens : List ℕ) (arrays rows : Flat) → nat_lt (length lens) 2 ≡ true → interleaved_fault alike lens arrays rows ≡ Some TooFewValues
unfolding first_broken
fault_few alike lens arrays rows few =
    ap (λ (b : Bool). option_or (cond b (Some TooFewValues) (cond (not alike) (Some ValueTypes) None)) (selector_fault arrays rows lens)) few

pub fault_types : (alike : Bool) (lens : List ℕ) (arrays rows : Flat) → nat_lt (length lens) 2 ≡ false → alike ≡ false → interleaved_fault alike lens arrays rows ≡ Some ValueTypes
unfolding first_broken
fault_types alike lens arrays rows few other =
    ap (λ (b : Bool). option_or (cond b (Some TooFewValues) (cond (not alike) (Some ValueTypes) None)) (selector_fault arrays rows lens)) few
    ∙ ap (λ (b : Bool). option_or (cond (not b) (Some ValueTypes) None) (selector_fault arrays rows lens)) other

pub fault_selectors : (alike : Bool) (lens : List ℕ) (arrays rows : Flat) → nat_lt (length lens) 2 ≡ false → alike ≡ true → interleaved_fault alike lens arrays rows ≡ selector_fault arrays rows lens
unfolding first_broken
fault_selectors alike lens arrays rows few same =
    ap (λ (b : Bool). option_or (cond b (Some TooFewValues) (cond (not alike) (Some ValueTypes) None)) (selector_fault arrays rows lens)) few
    ∙ ap (λ (b : Bool). option_or (cond (not b) (Some ValueTypes) None) (selector_fault arrays rows lens)) same

-- all types are supported where the test says so
scalars_down : (ts : List DType) → all_bool_or_integer ts ≡ true → AllByRecursion (λ t. IsTrue (is_bool_or_integer t)) ts
scalars_down [] e = tt
scalars_down (t ∷ ts) e = let both = and_parts (is_bool_or_integer t) (all_bool_or_integer ts) e in (both.0, scalars_down ts both.1)

pub all_scalars : (ts : List DType) → all_bool_or_integer ts ≡ true → All (λ t. IsTrue (is_bool_or_integer t)) ts
all_scalars ts e = All-from_recursion (λ t. IsTrue (is_bool_or_integer t)) ts (scalars_down ts e)
