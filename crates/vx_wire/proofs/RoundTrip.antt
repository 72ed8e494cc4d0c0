-- The canonical bytes of a message say this message.
use Rattle.std.proofs.Common.{◌≡◌, ℕ, ℤ, pos, negsuc, zero, suc, ◌*◌, ◌^◌, ◌<◌, ◌≤◌, Bool, true, false, cond, eqb, Option, Some, None, List, [], ◌∷◌, ◌++◌, refl, sym, ap, ◌∙◌, append_assoc, arith}
use Rattle.std.specs.Prelude.{IfSome, FitsSigned}
use Rattle.std.specs.Option.{option_or, option_map}
use Rattle.std.specs.Int.{w32, cast_signed, cast_unsigned}
use Rattle.std.specs.List.{AllByRecursion, flat_map}
use Rattle.std.proofs.lemmas.List.{append-nil}
use Rattle.std.proofs.lemmas.List.Concat.{flat_map-cons}
use Rattle.std.proofs.lemmas.Grind.{flat_map-append}
use Rattle.std.proofs.lemmas.Bool.{ne_eqb}
use Rattle.std.proofs.lemmas.Int.{to_z-of_z}
use Rattle.vx_wire.specs.declared.patched.PatchedMetadata.{PatchedMetadata}
use Rattle.vx_wire.specs.Varints.{number_of, varint}
use Rattle.vx_wire.specs.Fields.{Varint, Field, field_bytes, tag_of, IsField, last_under}
use Rattle.vx_wire.specs.Messages.{Patches, plain, low_bits, type_in, type_number, number_field, plain_field, optional_field, patches_of, patches_bytes, ArePatches, lanes_of, lanes_bytes, AreLanes}
use Rattle.vx_wire.specs.Laws.{PatchesReadBack, LanesReadBack, UnknownIsPassedOver}
use Rattle.vx_wire.proofs.VarintLemmas.{varint_reads}
use Rattle.vx_wire.proofs.FieldLemmas.{under, last_under-push, flat_map_push, each_push}

-- the field that is written for a number
abbrev written : ℕ → ℕ → Field
written tag n = record { key = varint (tag * 8); content = Varint (varint n) }

-- tags of messages
record IsTag (tag known : ℕ) : Type 0 where
  positive : 1 ≤ tag
  within : tag ≤ 6

key_is : (tag known : ℕ) → IsTag tag known → number_of (varint (tag * 8)) ≡ tag * 8
key_is tag known is = (varint_reads (tag * 8) (omega (arith, is.within))).1

written_field : (known tag n : ℕ) → IsTag tag known → n < 2 ^ 64 → IsField known (written tag n)
written_field known tag n is fits = record {
  key = (varint_reads (tag * 8) (omega (arith, is.within))).0;
  tag = record { tagged = omega (arith, key_is tag known is, is.positive); in_range = omega (arith, key_is tag known is, is.within) };
  wire = omega (arith, key_is tag known is);
  suits = λ le. refl;
  content = (varint_reads n fits).0;
}

tag_is : (tag known n : ℕ) → IsTag tag known → tag_of (written tag n) ≡ tag
tag_is tag known n is = omega (arith, key_is tag known is)

abbrev group : ℕ → Option ℕ → List Field
group tag None = []
group tag (Some n) = written tag n ∷ []

abbrev Fits64 : Option ℕ → Type 0
Fits64 o = IfSome o (λ n. n < 2 ^ 64)

-- tags with what is written under them
abbrev groups_of : List (ℕ × Option ℕ) → List Field
groups_of [] = []
groups_of (p ∷ rest) = group p.0 p.1 ++ groups_of rest

-- the last of the numbers beside a tag
abbrev look_up : ℕ → List (ℕ × Option ℕ) → Option ℕ
look_up tag [] = None
look_up tag (p ∷ rest) = option_or (look_up tag rest) (cond (eqb p.0 tag) p.1 None)

abbrev AreGroups : ℕ → List (ℕ × Option ℕ) → Type 0
AreGroups known = AllByRecursion (λ p. IsTag p.0 known × Fits64 p.1)

option_or-none : (o : Option ℕ) → option_or o None ≡ o
option_or-none None = refl
option_or-none (Some n) = refl

cond_same : (b : Bool) → cond {A = Option ℕ} b None None ≡ None
cond_same true = refl
cond_same false = refl

group_look_up : (known tag t : ℕ) (o : Option ℕ) (rest : List Field) → IsTag tag known → Fits64 o → last_under t (group tag o ++ rest) ≡ option_or (last_under t rest) (cond (eqb tag t) o None)
group_look_up known tag t None rest is fits = sym (ap (λ (o : Option ℕ). option_or (last_under t rest) o) (cond_same (eqb tag t)) ∙ option_or-none (last_under t rest))
group_look_up known tag t (Some n) rest is fits = rw (tag_is tag known n is, (varint_reads n fits).1) refl

groups_look_up : (known t : ℕ) (ps : List (ℕ × Option ℕ)) → AreGroups known ps → last_under t (groups_of ps) ≡ look_up t ps
groups_look_up known t [] fits = refl
groups_look_up known t (p ∷ rest) fits =
    group_look_up known p.0 t p.1 (groups_of rest) fits.0.0 fits.0.1 ∙ ap (λ (o : Option ℕ). option_or o (cond (eqb p.0 t) p.1 None)) (groups_look_up known t rest fits.1)

append_each : (known : ℕ) (a b : List Field) → AllByRecursion (IsField known) a → AllByRecursion (IsField known) b → AllByRecursion (IsField known) (a ++ b)
append_each known [] b each other = other
append_each known (f ∷ a) b each other = (each.0, append_each known a b each.1 other)

group_each : (known tag : ℕ) (o : Option ℕ) → IsTag tag known → Fits64 o → AllByRecursion (IsField known) (group tag o)
group_each known tag None is fits = tt
group_each known tag (Some n) is fits = (written_field known tag n is fits, tt)

groups_each : (known : ℕ) (ps : List (ℕ × Option ℕ)) → AreGroups known ps → AllByRecursion (IsField known) (groups_of ps)
groups_each known [] fits = tt
groups_each known (p ∷ rest) fits = append_each known (group p.0 p.1) (groups_of rest) (group_each known p.0 p.1 fits.0.0 fits.0.1) (groups_each known rest fits.1)

group_bytes : (tag : ℕ) (o : Option ℕ) → flat_map field_bytes (group tag o) ≡ optional_field tag o
unfolding optional_field
group_bytes tag None = refl
group_bytes tag (Some n) = flat_map-cons field_bytes (written tag n) [] ∙ append-nil (number_field tag n)

abbrev spelled : List (ℕ × Option ℕ) → List ℕ
spelled [] = []
spelled (p ∷ rest) = optional_field p.0 p.1 ++ spelled rest

groups_bytes : (ps : List (ℕ × Option ℕ)) → spelled ps ≡ flat_map field_bytes (groups_of ps)
groups_bytes [] = refl
groups_bytes (p ∷ rest) = rw (flat_map-append, group_bytes p.0 p.1, groups_bytes rest) refl

-- ---- plain fields

abbrev present : ℕ → Option ℕ
present zero = None
present (suc n) = Some (suc n)

plain_present : (n : ℕ) → plain (present n) ≡ n
plain_present zero = refl
plain_present (suc n) = refl

present_fits : (n : ℕ) → n < 2 ^ 64 → Fits64 (present n)
present_fits zero lt = tt
present_fits (suc n) lt = lt

plain_is : (tag n : ℕ) → plain_field tag n ≡ optional_field tag (present n)
unfolding plain_field optional_field
plain_is tag zero = refl
plain_is tag (suc n) = let some : eqb (suc n) 0 ≡ false = ne_eqb (suc n) 0 (λ e. absurd (omega arith)) in rw some refl

-- ---- numbers of types

low_is : (z : ℤ) → FitsSigned w32 z → low_bits (type_number z) ≡ cast_unsigned w32 z
low_is (pos n) fits = omega (arith, fits)
low_is (negsuc n) fits = omega (arith, fits)

type_reads : (z : ℤ) → FitsSigned w32 z → type_in (type_number z) ≡ z
type_reads z fits = ap (cast_signed w32) (low_is z fits) ∙ to_z-of_z w32 z fits

type_fits : (z : ℤ) → FitsSigned w32 z → type_number z < 2 ^ 64
type_fits (pos n) fits = omega (arith, fits)
type_fits (negsuc n) fits = omega (arith, fits)

types_read : (o : Option ℤ) → IfSome o (FitsSigned w32) → option_map type_in (option_map type_number o) ≡ o
types_read None fits = refl
types_read (Some z) fits = ap (λ (x : ℤ). Some x) (type_reads z fits)

types_fit : (o : Option ℤ) → IfSome o (FitsSigned w32) → Fits64 (option_map type_number o)
types_fit None fits = tt
types_fit (Some z) fits = type_fits z fits

-- ---- the laws

abbrev patches_groups : Patches → List (ℕ × Option ℕ)
patches_groups m = (1, present m.len) ∷ (2, present m.offset) ∷ (3, present (type_number m.indices_type)) ∷ (4, m.chunk_offsets_len) ∷ (5, option_map type_number m.chunk_offsets_type) ∷ (6, m.offset_within_chunk) ∷ []

tag_in : (tag known : ℕ) → 1 ≤ tag → tag ≤ 6 → IsTag tag known
tag_in tag known positive within = record { positive = positive; within = within }

patches_fit : (m : Patches) → ArePatches m → AreGroups 6 (patches_groups m)
patches_fit m fits = (
  (tag_in 1 6 (omega arith) (omega arith), present_fits m.len fits.len),
  (
    (tag_in 2 6 (omega arith) (omega arith), present_fits m.offset fits.offset),
    (
      (tag_in 3 6 (omega arith) (omega arith), present_fits (type_number m.indices_type) (type_fits m.indices_type fits.indices_type)),
      (
        (tag_in 4 6 (omega arith) (omega arith), fits.chunk_offsets_len),
        (
          (tag_in 5 6 (omega arith) (omega arith), types_fit m.chunk_offsets_type fits.chunk_offsets_type),
          ((tag_in 6 6 (omega arith) (omega arith), fits.offset_within_chunk), tt),
        ),
      ),
    ),
  ),
)

patches_spelled : (m : Patches) → patches_bytes m ≡ spelled (patches_groups m)
patches_spelled m = rw (plain_is 1 m.len, plain_is 2 m.offset, plain_is 3 (type_number m.indices_type)) (simp (append_assoc, append-nil))

record SamePatches (m n : Patches) : Type 0 where
  len : m.len ≡ n.len
  offset : m.offset ≡ n.offset
  indices_type : m.indices_type ≡ n.indices_type
  chunk_offsets_len : m.chunk_offsets_len ≡ n.chunk_offsets_len
  chunk_offsets_type : m.chunk_offsets_type ≡ n.chunk_offsets_type
  offset_within_chunk : m.offset_within_chunk ≡ n.offset_within_chunk

abbrev described : ℕ → ℕ → ℤ → Option ℕ → Option ℤ → Option ℕ → Patches
described a b c d e f = record { len = a; offset = b; indices_type = c; chunk_offsets_len = d; chunk_offsets_type = e; offset_within_chunk = f }

same_patches : (m n : Patches) → SamePatches m n → m ≡ n
same_patches m n same =
    ap (λ (a : ℕ). described a m.offset m.indices_type m.chunk_offsets_len m.chunk_offsets_type m.offset_within_chunk) same.len
    ∙ ap (λ (a : ℕ). described n.len a m.indices_type m.chunk_offsets_len m.chunk_offsets_type m.offset_within_chunk) same.offset
    ∙ ap (λ (a : ℤ). described n.len n.offset a m.chunk_offsets_len m.chunk_offsets_type m.offset_within_chunk) same.indices_type
    ∙ ap (λ (a : Option ℕ). described n.len n.offset n.indices_type a m.chunk_offsets_type m.offset_within_chunk) same.chunk_offsets_len
    ∙ ap (λ (a : Option ℤ). described n.len n.offset n.indices_type n.chunk_offsets_len a m.offset_within_chunk) same.chunk_offsets_type
    ∙ ap (λ (a : Option ℕ). described n.len n.offset n.indices_type n.chunk_offsets_len n.chunk_offsets_type a) same.offset_within_chunk

patches_said : (m : Patches) → ArePatches m → m ≡ patches_of (groups_of (patches_groups m))
patches_said m fits =
    let ps = patches_groups m in
    let fit = patches_fit m fits in
    let len : last_under 1 (groups_of ps) ≡ present m.len = groups_look_up 6 1 ps fit in
    let offset : last_under 2 (groups_of ps) ≡ present m.offset = groups_look_up 6 2 ps fit ∙ option_or-none _ in
    let indices : last_under 3 (groups_of ps) ≡ present (type_number m.indices_type) = groups_look_up 6 3 ps fit ∙ simp option_or-none in
    let offsets_len : last_under 4 (groups_of ps) ≡ m.chunk_offsets_len = groups_look_up 6 4 ps fit ∙ simp option_or-none in
    let offsets_type : last_under 5 (groups_of ps) ≡ option_map type_number m.chunk_offsets_type = groups_look_up 6 5 ps fit ∙ simp option_or-none in
    let within : last_under 6 (groups_of ps) ≡ m.offset_within_chunk = groups_look_up 6 6 ps fit ∙ simp option_or-none in
    let types : type_in (plain (last_under 3 (groups_of ps))) ≡ m.indices_type = ap (λ (o : Option ℕ). type_in (plain o)) indices ∙ ap type_in (plain_present (type_number m.indices_type)) ∙ type_reads m.indices_type fits.indices_type in
    same_patches m (patches_of (groups_of ps)) (record {
      len = sym (ap plain len ∙ plain_present m.len);
      offset = sym (ap plain offset ∙ plain_present m.offset);
      indices_type = sym types;
      chunk_offsets_len = sym offsets_len;
      chunk_offsets_type = sym (ap (option_map type_in) offsets_type ∙ types_read m.chunk_offsets_type fits.chunk_offsets_type);
      offset_within_chunk = sym within;
    })

pub patches_read_back : PatchesReadBack
patches_read_back m fits = record {
  fields = groups_of (patches_groups m);
  stands = record { joined = patches_spelled m ∙ groups_bytes (patches_groups m); each = groups_each 6 (patches_groups m) (patches_fit m fits) };
  says = patches_said m fits;
}

abbrev lanes_groups : PatchedMetadata → List (ℕ × Option ℕ)
lanes_groups m = (1, present m.n_patches) ∷ (2, present m.n_lanes) ∷ (3, present m.offset) ∷ []

below_64 : (n : ℕ) → n < 2 ^ 32 → n < 2 ^ 64
below_64 n lt = omega arith

lanes_fit : (m : PatchedMetadata) → AreLanes m → AreGroups 3 (lanes_groups m)
lanes_fit m fits = (
  (tag_in 1 3 (omega arith) (omega arith), present_fits m.n_patches (below_64 m.n_patches fits.n_patches)),
  (
    (tag_in 2 3 (omega arith) (omega arith), present_fits m.n_lanes (below_64 m.n_lanes fits.n_lanes)),
    ((tag_in 3 3 (omega arith) (omega arith), present_fits m.offset (below_64 m.offset fits.offset)), tt),
  ),
)

lanes_spelled : (m : PatchedMetadata) → lanes_bytes m ≡ spelled (lanes_groups m)
lanes_spelled m = rw (plain_is 1 m.n_patches, plain_is 2 m.n_lanes, plain_is 3 m.offset) (simp (append_assoc, append-nil))

low_reads : (n : ℕ) → n < 2 ^ 32 → low_bits (plain (present n)) ≡ n
low_reads n lt = rw (plain_present n) (omega arith)

abbrev layout : ℕ → ℕ → ℕ → PatchedMetadata
layout a b c = record { n_patches = a; n_lanes = b; offset = c }

lanes_said : (m : PatchedMetadata) → AreLanes m → m ≡ lanes_of (groups_of (lanes_groups m))
lanes_said m fits =
    let ps = lanes_groups m in
    let fit = lanes_fit m fits in
    let patches : last_under 1 (groups_of ps) ≡ present m.n_patches = groups_look_up 3 1 ps fit in
    let lanes : last_under 2 (groups_of ps) ≡ present m.n_lanes = groups_look_up 3 2 ps fit ∙ simp option_or-none in
    let offset : last_under 3 (groups_of ps) ≡ present m.offset = groups_look_up 3 3 ps fit ∙ simp option_or-none in
    ap (λ (a : ℕ). layout a m.n_lanes m.offset) (sym (ap (λ (o : Option ℕ). low_bits (plain o)) patches ∙ low_reads m.n_patches fits.n_patches))
    ∙ ap (λ (a : ℕ). layout (low_bits (plain (last_under 1 (groups_of ps)))) a m.offset) (sym (ap (λ (o : Option ℕ). low_bits (plain o)) lanes ∙ low_reads m.n_lanes fits.n_lanes))
    ∙ ap (λ (a : ℕ). layout (low_bits (plain (last_under 1 (groups_of ps)))) (low_bits (plain (last_under 2 (groups_of ps)))) a) (sym (ap (λ (o : Option ℕ). low_bits (plain o)) offset ∙ low_reads m.offset fits.offset))

pub lanes_read_back : LanesReadBack
lanes_read_back m fits = record {
  fields = groups_of (lanes_groups m);
  stands = record { joined = lanes_spelled m ∙ groups_bytes (lanes_groups m); each = groups_each 3 (lanes_groups m) (lanes_fit m fits) };
  says = lanes_said m fits;
}

-- ---- other spellings

unchanged : (f : Field) (fields : List Field) (tag : ℕ) → 6 < tag_of f → tag ≤ 6 → last_under tag fields ≡ last_under tag (fields ++ f ∷ [])
unchanged f fields tag unknown known =
    let other : tag_of f ≡ tag → ⊥ = λ e. absurd (omega arith) in
    let none : under tag f ≡ None = rw (ne_eqb (tag_of f) tag other) refl in
    sym (last_under-push tag fields f ∙ ap (λ (o : Option ℕ). option_or o (last_under tag fields)) none)

pub unknown_is_passed_over : UnknownIsPassedOver
unknown_is_passed_over bytes m f says sound unknown =
    let fields = says.fields in
    let more = fields ++ f ∷ [] in
    record {
      fields = more;
      stands = record {
        joined = ap (λ (x : List ℕ). x ++ field_bytes f) says.stands.joined ∙ flat_map_push fields f;
        each = each_push 6 fields f says.stands.each sound;
      };
      says = says.says ∙ same_patches (patches_of fields) (patches_of more) (record {
        len = ap plain (unchanged f fields 1 unknown (omega arith));
        offset = ap plain (unchanged f fields 2 unknown (omega arith));
        indices_type = ap (λ (o : Option ℕ). type_in (plain o)) (unchanged f fields 3 unknown (omega arith));
        chunk_offsets_len = unchanged f fields 4 unknown (omega arith);
        chunk_offsets_type = ap (option_map type_in) (unchanged f fields 5 unknown (omega arith));
        offset_within_chunk = unchanged f fields 6 unknown (omega arith);
      });
    }
