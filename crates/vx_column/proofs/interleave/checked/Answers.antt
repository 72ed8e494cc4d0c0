use Rattle.std.proofs.Common.{◌≡◌, ◌∙◌, ap, sym, subst, inr, arith, length, map, List, ℕ, true, false, nat_lt}
use Rattle.std.proofs.lemmas.Bool.Decides.{nat_tests}
use Rattle.std.proofs.lemmas.List.{length-map}
use Rattle.std.proofs.lemmas.Result.{err_from_is_err_and}
use Rattle.vx_rows.specs.declared.error.Rule.TheVariants.{TooFewValues, ValueTypes}
use Rattle.vx_interleave.specs.Selections.{AreWithin}
use Rattle.vx_interleave.specs.Rules.{selector_fault}
use Rattle.vx_job.specs.Faults.{all_bool_or_integer}
use Rattle.vx_job.specs.Faults.Fault.{Broken}
use Rattle.vx_column.specs.Columns.{type_of, len_of}
use Rattle.vx_column.proofs.Faulty.{refusal_told, fault_broken, fault_none, fault_few, fault_types, fault_selectors, all_scalars}
use Rattle.vx_column.proofs.interleave.checked.Goals as goal

pub returns-then-values-lt2-clause-err : goal.returns-then-values-lt2-clause-err
returns-then-values-lt2-clause-err c =
    let xs = c.args.values.now in
    let scalar : all_bool_or_integer (map type_of xs) ≡ true = sym c.are_bools_or_integers.ensures ∙ c.if-not-are_bools_or_integers.false in
    let long = length-map xs len_of in
    let few : nat_lt (length (map len_of xs)) 2 ≡ true = grind (arith, nat_tests, long) in
    inr (
      Broken TooFewValues,
      c.malformed.ensures,
      fault_broken (all_bool_or_integer (map type_of xs)) _ TooFewValues scalar
          (c.are_alike-alike.result, c.are_alike-alike.ensures, fault_few c.are_alike-alike.result (map len_of xs) c.args.array_indices c.args.row_indices few),
    )

pub returns-then-not-alike-clause-err : goal.returns-then-not-alike-clause-err
returns-then-not-alike-clause-err c =
    let xs = c.args.values.now in
    let scalar : all_bool_or_integer (map type_of xs) ≡ true = sym c.are_bools_or_integers.ensures ∙ c.if-not-are_bools_or_integers.false in
    let long = length-map xs len_of in
    let few : nat_lt (length (map len_of xs)) 2 ≡ false = grind (arith, nat_tests, long) in
    inr (
      Broken ValueTypes,
      c.malformed-then-not-alike.ensures,
      fault_broken (all_bool_or_integer (map type_of xs)) _ ValueTypes scalar
          (c.are_alike-alike.result, c.are_alike-alike.ensures, fault_types c.are_alike-alike.result (map len_of xs) c.args.array_indices c.args.row_indices few c.if-not-alike.true),
    )

pub returns-in_err-selectors-clause-err : goal.returns-in_err-selectors-clause-err
returns-in_err-selectors-clause-err c =
    let xs = c.args.values.now in
    let p = err_from_is_err_and c.from_residual-in_err-selectors.result c.from_residual-in_err-selectors.ensures.1 in
    let scalar : all_bool_or_integer (map type_of xs) ≡ true = sym c.are_bools_or_integers.ensures ∙ c.if-not-are_bools_or_integers.false in
    let long = length-map xs len_of in
    let few : nat_lt (length (map len_of xs)) 2 ≡ false = grind (arith, nat_tests, long) in
    let lens = c.as_slice.ensures.value ∙ c.in_ok-lens.ensures.ok in
    let told = refusal_told (selector_fault c.args.array_indices c.args.row_indices c.as_slice.result.now) c.in_err-selectors.field-0.0 c.in_err-selectors.ensures.err in
    let fault = fault_selectors c.are_alike-alike.result (map len_of xs) c.args.array_indices c.args.row_indices few c.if-not-alike.false
    ∙ ap (λ (ns : List ℕ). selector_fault c.args.array_indices c.args.row_indices ns) (sym lens) ∙ told.1 in
    rw (p.1, p.2) (inr (Broken told.0, told.2, fault_broken (all_bool_or_integer (map type_of xs)) _ told.0 scalar (c.are_alike-alike.result, c.are_alike-alike.ensures, fault)))

pub returns-clause-kinds : goal.returns-clause-kinds
returns-clause-kinds c =
    let xs = c.args.values.now in
    let scalar : all_bool_or_integer (map type_of xs) ≡ true = sym c.are_bools_or_integers.ensures ∙ c.if-not-are_bools_or_integers.false in
    let lens = c.as_slice.ensures.value ∙ c.in_ok-lens.ensures.ok in
    record {
      kind = all_scalars (map type_of xs) scalar;
      some = omega (arith, length-map xs type_of);
      sound = c.in_ok-selectors.ensures.sound;
      alike = c.are_alike-alike.ensures.0 c.if-not-alike.false;
      joined = c.in_ok-dtype.ensures.ok;
      within = subst (AreWithin c.in_ok-selectors.selectors) lens c.in_ok-selectors.ensures.within;
    }

pub returns-clause-clean : goal.returns-clause-clean
returns-clause-clean c =
    let xs = c.args.values.now in
    let scalar : all_bool_or_integer (map type_of xs) ≡ true = sym c.are_bools_or_integers.ensures ∙ c.if-not-are_bools_or_integers.false in
    let long = length-map xs len_of in
    let few : nat_lt (length (map len_of xs)) 2 ≡ false = grind (arith, nat_tests, long) in
    let lens = c.as_slice.ensures.value ∙ c.in_ok-lens.ensures.ok in
    let fault = fault_selectors c.are_alike-alike.result (map len_of xs) c.args.array_indices c.args.row_indices few c.if-not-alike.false
    ∙ ap (λ (ns : List ℕ). selector_fault c.args.array_indices c.args.row_indices ns) (sym lens) ∙ c.in_ok-selectors.ensures.clean in
    fault_none (all_bool_or_integer (map type_of xs)) _ scalar (c.are_alike-alike.result, c.are_alike-alike.ensures, fault)
