-- What reading one part of a field knows, from what the parts before it know.
use Rattle.std.proofs.Common.{◌≡◌, ℕ, suc, ◌/◌, ◌<◌, ◌≤◌, cond, eqb, leb, get_or, zero, List, [], ◌∷◌, ◌++◌, length, Option, Some, None, refl, sym, ap, ◌∙◌, append_assoc, arith, inl, inr}
use Rattle.std.specs.Prelude.{slice_index_or}
use Rattle.std.specs.Option.{option_or}
use Rattle.std.specs.List.{AllByRecursion, flat_map}
use Rattle.std.proofs.lemmas.List.{length-append, append-nil, nil_from_length, get_or-set_same, get_or-set_other}
use Rattle.std.proofs.lemmas.List.Concat.{flat_map-cons}
use Rattle.std.proofs.lemmas.Bool.{cases_eq, eq-eqb, ne_eqb, le-leb, cond_both}
use Rattle.std.proofs.lemmas.Grind.{flat_map-append}
use Rattle.std.proofs.Math.ListN.{set, length-set}
use Rattle.vx_rows.specs.declared.error.WireFault.{WireFault}
use Rattle.vx_wire.specs.declared.field.Wire.{Wire}
use Rattle.vx_wire.specs.declared.field.Wire.TheVariants as wires
use Rattle.vx_wire.specs.Varints.{number_of, IsWhole, VarintAt}
use Rattle.vx_wire.specs.Fields.{Content, Varint, Eight, Sized, Four, wire_of, content_bytes, number_in, Field, field_bytes, tag_of, IsField, Suits, StandsFor, last_under}
use Rattle.vx_wire.specs.Faults.{KeyAt, FaultAt, FirstFault}
use Rattle.vx_wire.specs.Parts.{Passes, ContentAt, FieldAt, kept, AreLastNumbers}

-- a varint has a byte
pub IsWhole-len : (bytes : List ℕ) → IsWhole bytes → 1 ≤ length bytes
IsWhole-len [] whole = absurd whole
IsWhole-len (b ∷ bytes) whole = omega arith

pub number_content : (bytes after : List ℕ) (number : ℕ) → VarintAt bytes number after → ContentAt bytes wires.Varint (Some number) after
number_content bytes after number found = record {
  content = Varint found.spelled;
  sound = found.varint;
  wire_is = refl;
  number_is = ap (λ (n : ℕ). Some n) found.value;
  joined = found.joined;
}

pub eight_content : (bytes after : List ℕ) → Passes bytes 8 after → ContentAt bytes wires.Eight None after
eight_content bytes after passes = record { content = Eight passes.passed; sound = passes.count_is; wire_is = refl; number_is = refl; joined = passes.joined }

pub four_content : (bytes after : List ℕ) → Passes bytes 4 after → ContentAt bytes wires.Four None after
four_content bytes after passes = record { content = Four passes.passed; sound = passes.count_is; wire_is = refl; number_is = refl; joined = passes.joined }

pub sized_content : (bytes rest after : List ℕ) (size : ℕ) → VarintAt bytes size rest → Passes rest size after → ContentAt bytes wires.Sized None after
sized_content bytes rest after size found passes = record {
  content = Sized found.spelled passes.passed;
  sound = (found.varint, sym found.value ∙ sym passes.count_is);
  wire_is = refl;
  number_is = refl;
  joined = found.joined ∙ ap (λ (x : List ℕ). found.spelled ++ x) passes.joined ∙ sym (append_assoc found.spelled passes.passed after);
}

pub whole_field : (known : ℕ) (bytes rest after : List ℕ) (tag : ℕ) (wire : Wire) (number : Option ℕ) → KeyAt bytes tag wire rest → Suits known tag wire → ContentAt rest wire number after
    → FieldAt known bytes tag number after
whole_field known bytes rest after tag wire number key suits content = record {
  field = record { key = key.found.spelled; content = content.content };
  sound = record {
    key = key.found.varint;
    tag = rw (← key.found.value) key.key;
    wire = rw (← key.found.value, ← content.wire_is) key.wire_is;
    suits = rw (← key.found.value, ← key.tag_is, ← content.wire_is) suits;
    content = content.sound;
  };
  tag_is = key.tag_is ∙ ap (λ (n : ℕ). n / 8) key.found.value;
  number_is = content.number_is;
  joined = key.found.joined ∙ ap (λ (x : List ℕ). key.found.spelled ++ x) content.joined ∙ sym (append_assoc key.found.spelled (content_bytes content.content) after);
}

-- ---- fields one after the other

-- what the loop knows: the fields so far, and the last of their numbers by tag
pub record Collected (known : ℕ) (bytes : List ℕ) (numbers : List (Option ℕ)) (rest : List ℕ) : Type 0 where
  pub fields : List Field
  pub before : List ℕ
  pub stands : StandsFor known before fields
  pub joined : bytes ≡ before ++ rest
  pub last : (tag : ℕ) → 1 ≤ tag → tag ≤ known → slice_index_or numbers tag None ≡ last_under tag fields
  pub places : length numbers ≡ 7

pub each_push : (known : ℕ) (fields : List Field) (f : Field) → AllByRecursion (IsField known) fields → IsField known f → AllByRecursion (IsField known) (fields ++ f ∷ [])
each_push known [] f each sound = (sound, tt)
each_push known (g ∷ fields) f each sound = (each.0, each_push known fields f each.1 sound)

option_or-assoc : (a b c : Option ℕ) → option_or a (option_or b c) ≡ option_or (option_or a b) c
option_or-assoc None b c = refl
option_or-assoc (Some x) b c = refl

option_or-none : (a : Option ℕ) → option_or a None ≡ a
option_or-none None = refl
option_or-none (Some x) = refl

abbrev pub under : ℕ → Field → Option ℕ
under tag f = cond (eqb (tag_of f) tag) (number_in f.content) None

pub last_under-push : (tag : ℕ) (fields : List Field) (f : Field) → last_under tag (fields ++ f ∷ []) ≡ option_or (under tag f) (last_under tag fields)
last_under-push tag [] f = sym (option_or-none (under tag f))
last_under-push tag (g ∷ fields) f = ap (λ (x : Option ℕ). option_or x (under tag g)) (last_under-push tag fields f) ∙ sym (option_or-assoc (under tag f) (last_under tag fields) (under tag g))

-- a known tag has a number
known_number : (known : ℕ) (f : Field) → IsField known f → tag_of f ≤ known → (n : ℕ) × (number_in f.content ≡ Some n)
known_number known f sound le = by_content f.content (sound.suits le) where
  by_content : (content : Content) → wire_of content ≡ wires.Varint → (n : ℕ) × (number_in content ≡ Some n)
  by_content (Varint bytes) is = (number_of bytes, refl)
  by_content (Eight bytes) is = absurd cc
  by_content (Sized size text) is = absurd cc
  by_content (Four bytes) is = absurd cc

kept_last : (known : ℕ) (numbers : List (Option ℕ)) (fields : List Field) (f : Field) → known < length numbers → IsField known f
    → ((tag : ℕ) → 1 ≤ tag → tag ≤ known → slice_index_or numbers tag None ≡ last_under tag fields)
    → (tag : ℕ) → 1 ≤ tag → tag ≤ known → slice_index_or (kept known numbers (tag_of f) (number_in f.content)) tag None ≡ last_under tag (fields ++ f ∷ [])
kept_last known numbers fields f room sound last tag positive le =
    elim (cases_eq (tag_of f) tag) [
      | inl same ↦
          let (n, is) = known_number known f sound (rw same le) in
          let now : last_under tag (fields ++ f ∷ []) ≡ Some n = rw (last_under-push tag fields f, eq-eqb (tag_of f) tag same, is) refl in
          rw (now, same, le-leb tag known le, is) (get_or-set_same numbers tag (Some n) None (omega arith))
      | inr other ↦
          let now : last_under tag (fields ++ f ∷ []) ≡ last_under tag fields = rw (last_under-push tag fields f, ne_eqb (tag_of f) tag other) refl in
          let differs : tag ≡ tag_of f → ⊥ = λ e. other (sym e) in
          rw now (cond_both (leb (tag_of f) known) (set numbers (tag_of f) (number_in f.content)) numbers (λ (l : List (Option ℕ)). get_or l tag None ≡ last_under tag fields)
          (λ within. get_or-set_other numbers (tag_of f) tag (number_in f.content) None differs ∙ last tag positive le) (λ past. last tag positive le))
    ]

pub flat_map_push : (fields : List Field) (f : Field) → flat_map field_bytes fields ++ field_bytes f ≡ flat_map field_bytes (fields ++ f ∷ [])
flat_map_push fields f = rw (flat_map-append, flat_map-cons) (ap (λ (x : List ℕ). flat_map field_bytes fields ++ x) (sym (append-nil (field_bytes f))))

pub collects : (known : ℕ) (bytes : List ℕ) (numbers : List (Option ℕ)) (rest after : List ℕ) (tag : ℕ) (number : Option ℕ) → known ≤ 6 → Collected known bytes numbers rest → FieldAt known rest tag number after
    → Collected known bytes (kept known numbers tag number) after
collects known bytes numbers rest after tag number most was found = let room : known < length numbers = omega (arith, was.places) in record {
  fields = was.fields ++ found.field ∷ [];
  before = was.before ++ field_bytes found.field;
  stands = record {
    joined = ap (λ (x : List ℕ). x ++ field_bytes found.field) was.stands.joined ∙ flat_map_push was.fields found.field;
    each = each_push known was.fields found.field was.stands.each found.sound;
  };
  joined = was.joined ∙ ap (λ (x : List ℕ). was.before ++ x) found.joined ∙ sym (append_assoc was.before (field_bytes found.field) after);
  last = rw (found.tag_is, found.number_is) (kept_last known numbers was.fields found.field room found.sound was.last);
  places = cond_both (leb tag known) (set numbers tag number) numbers (λ (l : List (Option ℕ)). length l ≡ 7) (λ within. length-set numbers tag number ∙ was.places) (λ past. was.places);
}

pub field_len : (known : ℕ) (bytes after : List ℕ) (tag : ℕ) (number : Option ℕ) → FieldAt known bytes tag number after → length after < length bytes
field_len known bytes after tag number found =
    let f = found.field in
    omega (arith, ap length found.joined, length-append (field_bytes f) after, length-append f.key (content_bytes f.content), IsWhole-len f.key found.sound.key.whole)

pub first_fault : (known : ℕ) (bytes : List ℕ) (numbers : List (Option ℕ)) (rest : List ℕ) (fault : WireFault) → Collected known bytes numbers rest → FaultAt known rest fault → FirstFault known bytes fault
first_fault known bytes numbers rest fault was found = record { fields = was.fields; before = was.before; after = rest; stands = was.stands; joined = was.joined; found = found }

pub collected_all : (known : ℕ) (bytes : List ℕ) (numbers : List (Option ℕ)) (rest : List ℕ) → length rest ≡ 0 → Collected known bytes numbers rest → AreLastNumbers known bytes numbers
collected_all known bytes numbers rest none was = record {
  fields = was.fields;
  stands = record { joined = was.joined ∙ ap (λ (x : List ℕ). was.before ++ x) (nil_from_length rest none) ∙ append-nil was.before ∙ was.stands.joined; each = was.stands.each };
  last = was.last;
}

abbrev empty_places : ℕ → List (Option ℕ)
empty_places zero = []
empty_places (suc n) = None ∷ empty_places n

nothing_at : (n tag : ℕ) → get_or (empty_places n) tag None ≡ None
nothing_at zero tag = refl
nothing_at (suc n) zero = refl
nothing_at (suc n) (suc tag) = nothing_at n tag

-- nothing is collected yet
pub collected_none : (known : ℕ) (bytes : List ℕ) → Collected known bytes (None ∷ None ∷ None ∷ None ∷ None ∷ None ∷ None ∷ []) bytes
collected_none known bytes = record { fields = []; before = []; stands = record { joined = refl; each = tt }; joined = refl; last = λ tag positive le. nothing_at 7 tag; places = refl }
