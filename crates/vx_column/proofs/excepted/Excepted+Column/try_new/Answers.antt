use Rattle.std.specs.Prelude.{◌↔◌}
use Rattle.std.proofs.Common.{◌≡◌, ◌∙◌, ap, sym, inr, Some, None, true, IsTrue}
use Rattle.std.proofs.lemmas.Result.{IfOk-weaker, err_from_is_err_and}
use Rattle.vx_rows.specs.Types.{AlikeTypes}
use Rattle.vx_base.specs.Rules.{first_broken}
use Rattle.vx_patches.specs.Places.{Index}
use Rattle.vx_patches.specs.Making.{index_fault, chunk_fault, made}
use Rattle.vx_job.specs.Kinds.{is_bool_or_integer}
use Rattle.vx_job.specs.Faults.{value_rules}
use Rattle.vx_job.specs.Faults.Fault.{Broken}
use Rattle.vx_column.specs.Columns.{type_of, len_of}
use Rattle.vx_column.proofs.Faulty.{refusal_told, fault_broken, fault_none, fault_of_places, fault_of_values, fault_of_offsets, exceptions_fit}
use Rattle.vx_column.proofs.excepted.Excepted+Column.try_new.Goals as goal

pub returns-in_err-index-clause-err : goal.returns-in_err-index-clause-err
returns-in_err-index-clause-err c =
    let base = c.args.base in
    let values = c.args.values in
    let p = err_from_is_err_and c.from_residual.result c.from_residual.ensures.1 in
    let scalar : is_bool_or_integer (type_of base) ≡ true = ap is_bool_or_integer (sym c.dtype.ensures) ∙ sym c.is_bool_or_integer.ensures ∙ c.if-not-is_bool_or_integer.false in
    let alike = c.eq_ignore_nullability-alike.result in
    let tells : IsTrue alike ↔ AlikeTypes (type_of values) (type_of base) = rw (sym c.dtype-2.ensures, sym c.dtype-3.ensures) c.eq_ignore_nullability-alike.ensures in
    let told = refusal_told (index_fault c.len.result c.args.offset c.args.indices None) c.in_err-index.field-0.0 c.in_err-index.ensures.err in
    let fault = ap (λ n. index_fault n c.args.offset c.args.indices None) (sym c.len.ensures) ∙ told.1 in
    rw (p.1, p.2) (inr (
      Broken told.0,
      told.2,
      fault_broken (is_bool_or_integer (type_of base)) _ told.0 scalar
          (alike, tells, fault_of_places alike (type_of base) (type_of values) (len_of base) c.args.offset (len_of values) c.args.indices c.args.chunk_offsets told.0 fault),
    ))

pub returns-in-Some-clause-err : goal.returns-in-Some-clause-err
returns-in-Some-clause-err c =
    let base = c.args.base in
    let values = c.args.values in
    let scalar : is_bool_or_integer (type_of base) ≡ true = ap is_bool_or_integer (sym c.dtype.ensures) ∙ sym c.is_bool_or_integer.ensures ∙ c.if-not-is_bool_or_integer.false in
    let alike = c.eq_ignore_nullability-alike.result in
    let tells : IsTrue alike ↔ AlikeTypes (type_of values) (type_of base) = rw (sym c.dtype-2.ensures, sym c.dtype-3.ensures) c.eq_ignore_nullability-alike.ensures in
    let clean = ap (λ n. index_fault n c.args.offset c.args.indices None) (sym c.len.ensures) ∙ c.in_ok-index.ensures.clean in
    let told = ap (λ (i : Index). first_broken (value_rules i.indices alike (type_of base) (type_of values) (len_of values))) (sym c.in_ok-index.ensures.ok) ∙ sym c.value_fault.ensures ∙ c.in-Some.is in
    inr (
      Broken c.in-Some.rule,
      c.malformed.ensures,
      fault_broken (is_bool_or_integer (type_of base)) _ c.in-Some.rule scalar
          (alike, tells, fault_of_values alike (type_of base) (type_of values) (len_of base) c.args.offset (len_of values) c.args.indices c.args.chunk_offsets c.in-Some.rule clean told),
    )

pub returns-in_err-index-2-clause-err : goal.returns-in_err-index-2-clause-err
returns-in_err-index-2-clause-err c =
    let base = c.args.base in
    let values = c.args.values in
    let p = err_from_is_err_and c.from_residual-in_err-index-2.result c.from_residual-in_err-index-2.ensures.1 in
    let scalar : is_bool_or_integer (type_of base) ≡ true = ap is_bool_or_integer (sym c.dtype.ensures) ∙ sym c.is_bool_or_integer.ensures ∙ c.if-not-is_bool_or_integer.false in
    let alike = c.eq_ignore_nullability-alike.result in
    let tells : IsTrue alike ↔ AlikeTypes (type_of values) (type_of base) = rw (sym c.dtype-2.ensures, sym c.dtype-3.ensures) c.eq_ignore_nullability-alike.ensures in
    let is : c.in_ok-index.index ≡ made (len_of base) c.args.offset c.args.indices None = c.in_ok-index.ensures.ok ∙ ap (λ n. made n c.args.offset c.args.indices None) c.len.ensures in
    let clean = ap (λ n. index_fault n c.args.offset c.args.indices None) (sym c.len.ensures) ∙ c.in_ok-index.ensures.clean in
    let none = ap (λ (i : Index). first_broken (value_rules i.indices alike (type_of base) (type_of values) (len_of values))) (sym is) ∙ sym c.value_fault.ensures ∙ c.in_default.is in
    let told = refusal_told (chunk_fault c.in_ok-index.index.len c.in_ok-index.index.offset c.in_ok-index.index.indices c.args.chunk_offsets) c.in_err-index-2.field-0.0 c.in_err-index-2.ensures.err in
    let fault = ap (λ (i : Index). chunk_fault i.len i.offset i.indices c.args.chunk_offsets) (sym is) ∙ told.1 in
    rw (p.1, p.2) (inr (
      Broken told.0,
      told.2,
      fault_broken (is_bool_or_integer (type_of base)) _ told.0 scalar
          (alike, tells, fault_of_offsets alike (type_of base) (type_of values) (len_of base) c.args.offset (len_of values) c.args.indices c.args.chunk_offsets (Some told.0) clean none fault),
    ))

pub of-requires-clause-kinds : goal.of-requires-clause-kinds
of-requires-clause-kinds c =
    let base = c.args.base in
    let values = c.args.values in
    let scalar : is_bool_or_integer (type_of base) ≡ true = ap is_bool_or_integer (sym c.dtype.ensures) ∙ sym c.is_bool_or_integer.ensures ∙ c.if-not-is_bool_or_integer.false in
    let alike = c.eq_ignore_nullability-alike.result in
    let tells : IsTrue alike ↔ AlikeTypes (type_of values) (type_of base) = rw (sym c.dtype-2.ensures, sym c.dtype-3.ensures) c.eq_ignore_nullability-alike.ensures in
    let is : c.in_ok-index.index ≡ made (len_of base) c.args.offset c.args.indices None = c.in_ok-index.ensures.ok ∙ ap (λ n. made n c.args.offset c.args.indices None) c.len.ensures in
    let none = ap (λ (i : Index). first_broken (value_rules i.indices alike (type_of base) (type_of values) (len_of values))) (sym is) ∙ sym c.value_fault.ensures ∙ c.in_default.is in
    let last = c.in_ok-index-2.ensures.ok ∙ ap (λ (i : Index). made i.len i.offset i.indices c.args.chunk_offsets) is in
    exceptions_fit alike (type_of base) (type_of values) (len_of base) c.args.offset (len_of values) c.args.indices c.args.chunk_offsets c.in_ok-index-2.index scalar tells.0 last c.in_ok-index-2.ensures.sound none

pub returns-clause-index : goal.returns-clause-index
returns-clause-index c =
    let base = c.args.base in
    let is : c.in_ok-index.index ≡ made (len_of base) c.args.offset c.args.indices None = c.in_ok-index.ensures.ok ∙ ap (λ n. made n c.args.offset c.args.indices None) c.len.ensures in
    let last = c.in_ok-index-2.ensures.ok ∙ ap (λ (i : Index). made i.len i.offset i.indices c.args.chunk_offsets) is in
    IfOk-weaker c.of.result _ _ (λ array e. e ∙ last) c.of.ensures.index

pub returns-clause-clean : goal.returns-clause-clean
returns-clause-clean c =
    let base = c.args.base in
    let values = c.args.values in
    let scalar : is_bool_or_integer (type_of base) ≡ true = ap is_bool_or_integer (sym c.dtype.ensures) ∙ sym c.is_bool_or_integer.ensures ∙ c.if-not-is_bool_or_integer.false in
    let alike = c.eq_ignore_nullability-alike.result in
    let tells : IsTrue alike ↔ AlikeTypes (type_of values) (type_of base) = rw (sym c.dtype-2.ensures, sym c.dtype-3.ensures) c.eq_ignore_nullability-alike.ensures in
    let is : c.in_ok-index.index ≡ made (len_of base) c.args.offset c.args.indices None = c.in_ok-index.ensures.ok ∙ ap (λ n. made n c.args.offset c.args.indices None) c.len.ensures in
    let clean = ap (λ n. index_fault n c.args.offset c.args.indices None) (sym c.len.ensures) ∙ c.in_ok-index.ensures.clean in
    let none = ap (λ (i : Index). first_broken (value_rules i.indices alike (type_of base) (type_of values) (len_of values))) (sym is) ∙ sym c.value_fault.ensures ∙ c.in_default.is in
    let fault = ap (λ (i : Index). chunk_fault i.len i.offset i.indices c.args.chunk_offsets) (sym is) ∙ c.in_ok-index-2.ensures.clean in
    let all = fault_none (is_bool_or_integer (type_of base)) _ scalar
    (alike, tells, fault_of_offsets alike (type_of base) (type_of values) (len_of base) c.args.offset (len_of values) c.args.indices c.args.chunk_offsets None clean none fault) in
    IfOk-weaker c.of.result _ _ (λ array _. all) c.of.ensures.sound
