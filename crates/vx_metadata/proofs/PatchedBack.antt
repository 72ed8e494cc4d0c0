-- Arrays with exceptions by lane that were serialized have no fault, and are read back.
use Rattle.std.proofs.Common.{◌≡◌, ℕ, ◌<◌, List, length, refl, sym, ◌∙◌, ap, subst, arith, inl, inr, Bool, true, false, not, ◌||◌, eqb, Some, None, Result, Ok, Err}
use Rattle.std.proofs.lemmas.Bool.Decides.{nat_tests}
use Rattle.std.specs.Prelude.{IfOk, OnOk, IfErr}
use Rattle.vx_rows.specs.Types.{AlikeTypes}
use Rattle.vx_rows.specs.declared.dtype.DType.{DType}
use Rattle.vx_rows.specs.declared.error.ColumnError.{ColumnError}
use Rattle.vx_base.specs.Column.{Flat}
use Rattle.vx_base.specs.Numbers.{is_integer}
use Rattle.vx_wire.specs.Laws.{OneReading, NoFaultWhereRead, LanesReadBack}
use Rattle.vx_wire.specs.Messages.{SaysLanes, lanes_of as said_lanes}
use Rattle.vx_wire.specs.declared.patched.PatchedMetadata.{PatchedMetadata}
use Rattle.vx_lanes.specs.declared.layout.Layout.{Layout}
use Rattle.vx_lanes.specs.Layouts.{layout, overlaid}
use Rattle.vx_lanes.specs.Rules.{IsFirstBroken, layout_fault}
use Rattle.vx_lanes.proofs.Entries.{lanes_few}
use Rattle.vx_lanes.proofs.Sound.{passed}
use Rattle.vx_job.specs.Faults.{Fault, IsFirstFault, IsLanesFault, MadeCause}
use Rattle.vx_job.specs.Faults.Fault.{Unsupported, Broken}
use Rattle.vx_column.specs.declared.patched.Patched.{Patched}
use Rattle.vx_column.specs.declared.column.Column.{Column}
use Rattle.vx_column.specs.declared.column.Column.TheVariants.{Patched as patched_column}
use Rattle.vx_column.specs.Columns.{type_of, rows_of, len_of, IsSound, inner_of, lanes_of}
use Rattle.vx_metadata.specs.Patched.{message_of, patched_bytes, inner_length, lane_lengths, child_fault, IsChildFault, IsMessageFor, said_layout, PatchedCause, IsPatchedForm, IsPatchedFormOf, IsPatchedBack}
use Rattle.vx_metadata.proofs.Bounds.{skip, skip_none, same_numbers}
use Rattle.vx_metadata.proofs.LaneRules.{layout_clean}
use Rattle.vx_metadata.proofs.Layers.{rows_patched, type_patched, lanes_here, len_patched}

-- the laws of the bytes, as their calls state them
pub record WireLaws : Type 0 where
  pub back : LanesReadBack
  pub once : OneReading
  pub apart : NoFaultWhereRead

-- ---- rules of children

inner_tells : (len found : ℕ) → inner_length len found ≡ false → found ≡ len
unfolding inner_length
inner_tells len found e = grind (arith, nat_tests)

inner_clean : (len found : ℕ) → found ≡ len → inner_length len found ≡ false
unfolding inner_length
inner_clean len found e = same_numbers found len e

lengths_clean : (n : ℕ) (indices values : Flat) → length indices.rows ≡ n → length values.rows ≡ n → lane_lengths n indices values ≡ false
unfolding lane_lengths
lengths_clean n indices values e h = ap (λ b. b || not (eqb (length values.rows) n)) (same_numbers _ _ e) ∙ same_numbers _ _ h

-- the inner column has the declared length
pub counted_len : (len found : ℕ) (m : PatchedMetadata) (indices values : Flat) → child_fault len found m indices values ≡ None → found ≡ len
counted_len len found m indices values e = inner_tells len found (passed _ _ _ e).0

-- ---- layouts

-- rules that are not broken aren't told
no_lanes_fault : (t : DType) (len n_lanes offset : ℕ) (lane_offsets indices values : Flat) (fault : Fault) → is_integer t ≡ true → AlikeTypes values.dtype t →
    layout_fault (layout len n_lanes offset lane_offsets indices values) true ≡ None → IsLanesFault t len n_lanes offset lane_offsets indices values (Some fault) → ⊥
no_lanes_fault t len n_lanes offset lane_offsets indices values fault integers alike clean told =
    let l = layout len n_lanes offset lane_offsets indices values in
    by_fault fault (subst (λ (b : Bool). IsFirstFault b (IsFirstBroken t l) (Some fault)) integers told)
  where
    by_fault : (fault : Fault) → IsFirstFault true (IsFirstBroken t (layout len n_lanes offset lane_offsets indices values)) (Some fault) → ⊥
    by_fault Unsupported none = none
    by_fault (Broken rule) broke =
        let same : broke.0 ≡ true = broke.1.1 alike in
        let wrong : None ≡ Some rule = sym clean ∙ ap (layout_fault (layout len n_lanes offset lane_offsets indices values)) (sym same) ∙ broke.2 in
        absurd (cc)

module _ (laws : WireLaws) (array : Patched Column) (s : IsSound (patched_column array)) where
  own_layout : said_layout (message_of (lanes_of array)) (inner_of array) (lanes_of array).lane_offsets (lanes_of array).patch_indices (lanes_of array).patch_values ≡ lanes_of array
  own_layout =
      let l : Layout = lanes_of array in
      ap (λ (n : ℕ). layout n l.n_lanes l.offset l.lane_offsets l.patch_indices l.patch_values) (sym (lanes_here array s).as_long)

  own_says : SaysLanes (patched_bytes array) (message_of (lanes_of array))
  own_says =
      let sound = (lanes_here array s).sound in
      let few : (lanes_of array).n_lanes < 256 = lanes_few (lanes_of array) sound in
      let near : (lanes_of array).offset < 1024 = sound.offset_within in
      laws.back (message_of (lanes_of array)) (record { n_patches = sound.few; n_lanes = omega arith; offset = omega arith })

  own_counted : child_fault (len_of (patched_column array)) (len_of (inner_of array)) (message_of (lanes_of array)) (lanes_of array).patch_indices (lanes_of array).patch_values ≡ None
  own_counted =
      skip _ _ _ (inner_clean _ _ (sym (len_patched array))) (skip _ _ _ (lengths_clean _ (lanes_of array).patch_indices (lanes_of array).patch_values refl (sym (lanes_here array s).sound.paired)) skip_none)

module _ (laws : WireLaws) (array : Patched Column) (t : DType) (len : ℕ) (metadata : List ℕ) (inner : Column) (lane_offsets indices values : Flat)
    (s : IsSound (patched_column array)) (is : IsPatchedFormOf array t len metadata inner lane_offsets indices values) where
  says : SaysLanes metadata (message_of (lanes_of array))
  says = subst (λ (bytes : List ℕ). SaysLanes bytes (message_of (lanes_of array))) (sym is.metadata_is) (own_says laws array s)

  one_message : (m : PatchedMetadata) → SaysLanes metadata m → m ≡ message_of (lanes_of array)
  one_message m other = other.says ∙ ap said_lanes (laws.once 3 metadata other.fields says.fields other.stands says.stands) ∙ sym says.says

  typed : type_of inner ≡ t
  typed = ap type_of is.inner_is ∙ sym (type_patched array) ∙ sym is.dtype_is

  counted : (m : PatchedMetadata) → SaysLanes metadata m → child_fault len (len_of inner) m indices values ≡ None
  counted m other = (λ i. child_fault (is.len_is i) (len_of (is.inner_is i)) (one_message m other i) (is.indices_are i) (is.values_are i)) ∙ own_counted laws array s

  laid : (m : PatchedMetadata) → SaysLanes metadata m → said_layout m inner lane_offsets indices values ≡ lanes_of array
  laid m other = (λ i. said_layout (one_message m other i) (is.inner_is i) (is.offsets_are i) (is.indices_are i) (is.values_are i)) ∙ own_layout laws array s

  no_child_fault : (m : PatchedMetadata) → SaysLanes metadata m → (e : ColumnError) → IsChildFault t (type_of inner) (child_fault len (len_of inner) m indices values) e → ⊥
  no_child_fault m other e (inl apart) = apart.1 typed
  no_child_fault m other e (inr broke) =
      let wrong : None ≡ Some broke.1.0 = sym (counted m other) ∙ broke.1.1 in
      absurd (cc)

  no_layout_fault : (m : PatchedMetadata) → SaysLanes metadata m → (fault : Fault) → IsLanesFault (type_of inner) (len_of inner) m.n_lanes m.offset lane_offsets indices values (Some fault) → ⊥
  no_layout_fault m other fault told =
      let kinds = lanes_here array s in
      let integers : is_integer (type_of inner) ≡ true = ap (λ (c : Column). is_integer (type_of c)) is.inner_is ∙ kinds.integers in
      let alike : AlikeTypes values.dtype (type_of inner) =
      subst (λ (v : Flat). AlikeTypes v.dtype (type_of inner)) (sym is.values_are) (subst (λ (c : Column). AlikeTypes (lanes_of array).patch_values.dtype (type_of c)) (sym is.inner_is) kinds.alike) in
      no_lanes_fault (type_of inner) (len_of inner) m.n_lanes m.offset lane_offsets indices values fault integers alike (ap (λ (l : Layout). layout_fault l true) (laid m other) ∙ layout_clean (lanes_of array) kinds.sound) told

  pub patched_back_err : (e : ColumnError) → PatchedCause t len metadata inner lane_offsets indices values e → IsPatchedBack array (Err e)
  patched_back_err e (inl (inl bytes)) = absurd (laws.apart 3 metadata says.fields bytes.0 says.stands bytes.1)
  patched_back_err e (inl (inr child)) = absurd (no_child_fault child.0 child.1 e child.2)
  patched_back_err e (inr (m, goes, inl memory)) = memory
  patched_back_err e (inr (m, goes, inr told)) = absurd (no_layout_fault m goes.says told.0 told.2)

  pub patched_back_ok : (other : Patched Column) → IsPatchedForm t len metadata inner lane_offsets indices values other → IsPatchedBack array (Ok other)
  patched_back_ok other form =
      let inners : inner_of other ≡ inner_of array = form.inner_is ∙ is.inner_is in
      let lanes : lanes_of other ≡ lanes_of array = form.lanes_are ∙ laid form.message form.goes_with.says in
      (type_patched other ∙ ap type_of inners ∙ sym (type_patched array), rows_patched other ∙ (λ i. overlaid (lanes i) (rows_of (inners i))) ∙ sym (rows_patched array))

  pub patched_back : (r : Result (Patched Column) ColumnError) → IfOk r (IsPatchedForm t len metadata inner lane_offsets indices values) →
      IfErr r (PatchedCause t len metadata inner lane_offsets indices values) → IsPatchedBack array r
  patched_back (Ok other) form cause = patched_back_ok other form
  patched_back (Err e) form cause = patched_back_err e cause

-- an array that was read has the declared length
pub form_len : (t : DType) (len : ℕ) (metadata : List ℕ) (inner : Column) (lane_offsets indices values : Flat) (r : Result (Patched Column) ColumnError) →
    IfOk r (IsPatchedForm t len metadata inner lane_offsets indices values) → IfOk r (λ array. len_of (patched_column array) ≡ len)
form_len t len metadata inner lane_offsets indices values (Ok array) form =
    len_patched array ∙ ap len_of form.inner_is ∙ counted_len len (len_of inner) form.message indices values form.goes_with.counted
form_len t len metadata inner lane_offsets indices values (Err e) form = form

-- what the maker gives of a message that the children go with
module _ (t : DType) (len : ℕ) (metadata : List ℕ) (inner : Column) (lane_offsets indices values : Flat) (m : PatchedMetadata)
    (goes : IsMessageFor t len metadata inner indices values m) where
  pub made_form : (r : Result (Patched Column) ColumnError) → IfOk r (λ array. inner_of array ≡ inner) → IfOk r (λ array. lanes_of array ≡ said_layout m inner lane_offsets indices values) →
      OnOk r (IsLanesFault (type_of inner) (len_of inner) m.n_lanes m.offset lane_offsets indices values None) → IfOk r (IsPatchedForm t len metadata inner lane_offsets indices values)
  made_form (Ok array) inner_is lanes_are clean = record { message = m; goes_with = goes; clean = clean; inner_is = inner_is; lanes_are = lanes_are }
  made_form (Err e) inner_is lanes_are clean = inner_is

  pub made_cause : (r : Result (Patched Column) ColumnError) → IfErr r (MadeCause (IsLanesFault (type_of inner) (len_of inner) m.n_lanes m.offset lane_offsets indices values)) →
      IfErr r (PatchedCause t len metadata inner lane_offsets indices values)
  made_cause (Ok array) cause = cause
  made_cause (Err e) cause = inr (m, goes, cause)
