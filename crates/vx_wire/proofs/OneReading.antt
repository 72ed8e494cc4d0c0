-- Bytes begin with one varint, one field or one fault at most.
use Rattle.std.proofs.Common.{◌≡◌, ℕ, ◌+◌, ◌*◌, ◌/◌, ◌%◌, ◌^◌, ◌<◌, ◌≤◌, ◌⊎◌, Result, Ok, Err, IfOk, IfErr, List, [], ◌∷◌, ◌++◌, length, refl, sym, ap, subst, ◌∙◌, append_assoc, arith, inl, inr}
use Rattle.std.specs.List.{AllByRecursion, flat_map}
use Rattle.std.proofs.lemmas.List.Concat.{flat_map-cons}
use Rattle.std.proofs.lemmas.List.{length-append, append-nil}
use Rattle.vx_rows.specs.declared.error.WireFault.{WireFault}
use Rattle.vx_rows.specs.declared.error.WireFault.TheVariants.{Truncated, BadVarint, BadKey, Group}
use Rattle.vx_wire.specs.declared.field.Wire.{Wire}
use Rattle.vx_wire.specs.declared.field.Wire.TheVariants as wires
use Rattle.vx_wire.specs.Varints.{number_of, GoesOn, IsWhole, IsVarint, VarintAt, EndsWithin, IsTooLong, IsVarintFault}
use Rattle.vx_wire.specs.Fields.{Content, Varint, Eight, Sized, Four, wire_of, wire_number, IsContent, content_bytes, Field, field_bytes, tag_of, IsKey, IsField, StandsFor}
use Rattle.vx_wire.specs.Faults.{KeyAt, BadKeyAt, GroupAt, IsKeyFault, IsContentFault, FaultAfterKey, FaultInField, FaultAt, FirstFault}
use Rattle.vx_wire.specs.Laws.{OneReading, NoFaultWhereRead, OneFault}
use Rattle.vx_wire.specs.declared.patched.PatchedMetadata.{PatchedMetadata}
use Rattle.vx_wire.specs.Messages.{Patches, patches_of, SaysPatches, lanes_of, SaysLanes}
use Rattle.vx_wire.proofs.FieldLemmas.{IsWhole-len}
use Rattle.vx_wire.proofs.VarintLemmas.{number_of-push}

-- ---- lists

nil_of : (bytes : List ℕ) → length bytes ≡ 0 → bytes ≡ []
nil_of [] e = refl
nil_of (b ∷ bytes) e = absurd (omega arith)

head_is : (p q : ℕ) (x y : List ℕ) → p ∷ x ≡ q ∷ y → p ≡ q
head_is p q x y e = cc

tail_is : (p q : ℕ) (x y : List ℕ) → p ∷ x ≡ q ∷ y → x ≡ y
tail_is p q x y e = cc

same_len : (a b x y : List ℕ) → length a ≡ length b → a ++ x ≡ b ++ y → (a ≡ b) × (x ≡ y)
same_len [] [] x y len e = (refl, e)
same_len [] (q ∷ b) x y len e = absurd (omega arith)
same_len (p ∷ a) [] x y len e = absurd (omega arith)
same_len (p ∷ a) (q ∷ b) x y len e =
    let rest = same_len a b x y (omega arith) (tail_is p q (a ++ x) (b ++ y) e) in
    let first = head_is p q (a ++ x) (b ++ y) e in
    let same = rest.0 in
    (cc, rest.1)

-- ---- varints

whole_one : (a b x y : List ℕ) → IsWhole a → IsWhole b → a ++ x ≡ b ++ y → (a ≡ b) × (x ≡ y)
whole_one [] b x y whole other e = absurd whole
whole_one (p ∷ a) [] x y whole other e = absurd other
whole_one (p ∷ []) (q ∷ []) x y whole other e = let first = head_is p q x y e in (cc, tail_is p q x y e)
whole_one (p ∷ []) (q ∷ s ∷ b) x y whole other e =
    let first = head_is p q x (s ∷ b ++ y) e in
    let goes_on : 128 ≤ q = other.0 in
    absurd (omega arith)
whole_one (p ∷ r ∷ a) (q ∷ []) x y whole other e =
    let first = head_is p q (r ∷ a ++ x) y e in
    let goes_on : 128 ≤ p = whole.0 in
    absurd (omega arith)
whole_one (p ∷ r ∷ a) (q ∷ s ∷ b) x y whole other e =
    let first = head_is p q (r ∷ a ++ x) (s ∷ b ++ y) e in
    let rest = whole_one (r ∷ a) (s ∷ b) x y whole.1 other.1 (tail_is p q (r ∷ a ++ x) (s ∷ b ++ y) e) in
    let same = rest.0 in
    (cc, rest.1)

varint_one : (bytes : List ℕ) (n m : ℕ) (x y : List ℕ) → VarintAt bytes n x → VarintAt bytes m y → (n ≡ m) × (x ≡ y)
varint_one bytes n m x y a b =
    let both = whole_one a.spelled b.spelled x y a.varint.whole b.varint.whole (sym a.joined ∙ b.joined) in
    (a.value ∙ ap number_of both.0 ∙ sym b.value, both.1)

whole_ends : (a x : List ℕ) → IsWhole a → AllByRecursion GoesOn (a ++ x) → ⊥
whole_ends [] x whole all = whole
whole_ends (p ∷ []) x whole all = let goes_on : 128 ≤ p = all.0 in absurd (omega arith)
whole_ends (p ∷ r ∷ a) x whole all = whole_ends (r ∷ a) x whole.1 all.1

-- a varint over bytes that begin with such as go on has these, and one more at least
whole_past : (front a x y : List ℕ) (t : ℕ) → AllByRecursion GoesOn front → IsWhole a → a ++ x ≡ front ++ t ∷ y → (more : List ℕ) × (a ≡ front ++ t ∷ more)
whole_past front [] x y t all whole e = absurd whole
whole_past [] (p ∷ a) x y t all whole e = let first = head_is p t (a ++ x) y e in (a, cc)
whole_past (f ∷ front) (p ∷ []) x y t all whole e =
    let first = head_is p f x (front ++ t ∷ y) e in
    let goes_on : 128 ≤ f = all.0 in
    absurd (omega arith)
whole_past (f ∷ front) (p ∷ r ∷ a) x y t all whole e =
    let first = head_is p f (r ∷ a ++ x) (front ++ t ∷ y) e in
    let (more, is) = whole_past front (r ∷ a) x y t all.1 whole.1 (tail_is p f (r ∷ a ++ x) (front ++ t ∷ y) e) in
    (more, cc)

whole_last : (front : List ℕ) (t : ℕ) → IsWhole (front ++ t ∷ []) → t < 128
whole_last [] t whole = whole
whole_last (f ∷ []) t whole = whole.1
whole_last (f ∷ g ∷ front) t whole = whole_last (g ∷ front) t whole.1

ten_too_long : (spelled front more : List ℕ) (t : ℕ) → IsVarint spelled → length front ≡ 9 → 2 ≤ t → spelled ≡ front ++ t ∷ more → ⊥
ten_too_long spelled front more t varint nine above is =
    let none : more ≡ [] = nil_of more (omega (arith, ap length is, length-append front (t ∷ more), varint.short)) in
    let ten : spelled ≡ front ++ t ∷ [] = is ∙ ap (λ (x : List ℕ). front ++ t ∷ x) none in
    let last : t < 128 = whole_last front t (subst IsWhole ten varint.whole) in
    let number : number_of (front ++ t ∷ []) ≡ number_of front + t % 128 * 2 ^ 63 = subst (λ (k : ℕ). number_of (front ++ t ∷ []) ≡ number_of front + t % 128 * 2 ^ (7 * k)) nine (number_of-push front t) in
    omega (arith, ap number_of ten, number, varint.fits)

fault_cases : (bytes : List ℕ) (f : WireFault) → IsVarintFault bytes f → ((f ≡ Truncated) × EndsWithin bytes) ⊎ ((f ≡ BadVarint) × IsTooLong bytes)
fault_cases bytes Truncated is = inl (refl, is)
fault_cases bytes BadVarint is = inr (refl, is)
fault_cases bytes _ is = absurd is

varint_unfaulty : (bytes : List ℕ) (n : ℕ) (x : List ℕ) (f : WireFault) → VarintAt bytes n x → IsVarintFault bytes f → ⊥
varint_unfaulty bytes n x f found is =
    elim (fault_cases bytes f is) [
      | inl ends ↦ whole_ends found.spelled x found.varint.whole (subst (AllByRecursion GoesOn) found.joined ends.1.0)
      | inr long ↦
          let past = whole_past long.1.front found.spelled x long.1.after long.1.tenth long.1.goes_on found.varint.whole (sym found.joined ∙ long.1.joined) in
          ten_too_long found.spelled long.1.front past.0 long.1.tenth found.varint long.1.nine long.1.above past.1
    ]

ends_or_long : (bytes : List ℕ) → EndsWithin bytes → IsTooLong bytes → ⊥
ends_or_long bytes ends long = omega (arith, ends.1, ap length long.joined, length-append long.front (long.tenth ∷ long.after), long.nine)

varint_fault_one : (bytes : List ℕ) (f g : WireFault) → IsVarintFault bytes f → IsVarintFault bytes g → f ≡ g
varint_fault_one bytes f g is other =
    elim (fault_cases bytes f is) [
      | inl a ↦ elim (fault_cases bytes g other) [ inl b ↦ a.0 ∙ sym b.0 | inr b ↦ absurd (ends_or_long bytes a.1 b.1) ]
      | inr a ↦ elim (fault_cases bytes g other) [ inl b ↦ absurd (ends_or_long bytes b.1 a.1) | inr b ↦ a.0 ∙ sym b.0 ]
    ]

-- ---- keys

wire_one : (v w : Wire) → wire_number v ≡ wire_number w → v ≡ w
wire_one wires.Varint wires.Varint e = refl
wire_one wires.Eight wires.Eight e = refl
wire_one wires.Sized wires.Sized e = refl
wire_one wires.Four wires.Four e = refl
wire_one _ _ e = absurd (omega arith)

record HasContent (w : Wire) : Type 0 where
  below : wire_number w < 6
  not_start : wire_number w ≡ 3 → ⊥
  not_end : wire_number w ≡ 4 → ⊥

wire_has_content : (w : Wire) → HasContent w
wire_has_content wires.Varint = record { below = omega arith; not_start = λ e. absurd (omega arith); not_end = λ e. absurd (omega arith) }
wire_has_content wires.Eight = record { below = omega arith; not_start = λ e. absurd (omega arith); not_end = λ e. absurd (omega arith) }
wire_has_content wires.Sized = record { below = omega arith; not_start = λ e. absurd (omega arith); not_end = λ e. absurd (omega arith) }
wire_has_content wires.Four = record { below = omega arith; not_start = λ e. absurd (omega arith); not_end = λ e. absurd (omega arith) }

record SameKey (tag other : ℕ) (wire other_wire : Wire) (x y : List ℕ) : Type 0 where
  tags : tag ≡ other
  wires_are : wire ≡ other_wire
  afters : x ≡ y

key_one : (bytes : List ℕ) (t u : ℕ) (v w : Wire) (x y : List ℕ) → KeyAt bytes t v x → KeyAt bytes u w y → SameKey t u v w x y
key_one bytes t u v w x y a b =
    let both = varint_one bytes a.number b.number x y a.found b.found in
    record {
      tags = a.tag_is ∙ ap (λ (n : ℕ). n / 8) both.0 ∙ sym b.tag_is;
      wires_are = wire_one v w (sym a.wire_is ∙ ap (λ (n : ℕ). n % 8) both.0 ∙ b.wire_is);
      afters = both.1;
    }

bad_or_key : (number : ℕ) → IsKey number → ((4294967295 < number) ⊎ (number / 8 ≡ 0) ⊎ (6 ≤ number % 8)) → 6 ≤ number % 8
bad_or_key number key (inl above) = absurd (omega (arith, key.in_range))
bad_or_key number key (inr (inl none)) = absurd (omega (arith, key.tagged))
bad_or_key number key (inr (inr past)) = past

key_not_bad : (bytes : List ℕ) (t : ℕ) (w : Wire) (x : List ℕ) → KeyAt bytes t w x → BadKeyAt bytes → ⊥
key_not_bad bytes t w x a bad =
    let same = (varint_one bytes a.number bad.number x bad.after a.found bad.found).0 in
    let past = bad_or_key bad.number (subst IsKey same a.key) bad.bad in
    omega (arith, ap (λ (n : ℕ). n % 8) same, a.wire_is, (wire_has_content w).below)

key_not_group : (bytes : List ℕ) (t u : ℕ) (w : Wire) (x : List ℕ) → KeyAt bytes t w x → GroupAt bytes u → ⊥
key_not_group bytes t u w x a group =
    let same = (varint_one bytes a.number group.number x group.after a.found group.found).0 in
    let wire : group.number % 8 ≡ wire_number w = ap (λ (n : ℕ). n % 8) (sym same) ∙ a.wire_is in
    elim group.group [
      | inl start ↦ (wire_has_content w).not_start (sym wire ∙ start)
      | inr end ↦ (wire_has_content w).not_end (sym wire ∙ end)
    ]

bad_not_group : (bytes : List ℕ) (u : ℕ) → BadKeyAt bytes → GroupAt bytes u → ⊥
bad_not_group bytes u bad group =
    let same = (varint_one bytes group.number bad.number group.after bad.after group.found bad.found).0 in
    let past = bad_or_key bad.number (subst IsKey same group.key) bad.bad in
    elim group.group [ inl start ↦ omega (arith, ap (λ (n : ℕ). n % 8) same) | inr end ↦ omega (arith, ap (λ (n : ℕ). n % 8) same) ]

group_one : (bytes : List ℕ) (t u : ℕ) → GroupAt bytes t → GroupAt bytes u → t ≡ u
group_one bytes t u a b = a.tag_is ∙ ap (λ (n : ℕ). n / 8) (varint_one bytes a.number b.number a.after b.after a.found b.found).0 ∙ sym b.tag_is

-- what a fault in a key may be
data KeyFault (bytes : List ℕ) (f : WireFault) : Type 0 where
  in_varint : IsVarintFault bytes f → KeyFault bytes f
  in_number : f ≡ BadKey → BadKeyAt bytes → KeyFault bytes f
  in_group : (tag : ℕ) → f ≡ Group tag → GroupAt bytes tag → KeyFault bytes f

key_fault : (bytes : List ℕ) (f : WireFault) → IsKeyFault bytes f → KeyFault bytes f
key_fault bytes Truncated is = in_varint is
key_fault bytes BadVarint is = in_varint is
key_fault bytes BadKey is = in_number refl is
key_fault bytes (Group tag) is = in_group tag refl is
key_fault bytes _ is = absurd is

key_unfaulty : (bytes : List ℕ) (t : ℕ) (w : Wire) (x : List ℕ) (f : WireFault) → KeyAt bytes t w x → IsKeyFault bytes f → ⊥
key_unfaulty bytes t w x f a is =
    elim (key_fault bytes f is) [
      | in_varint fault ↦ varint_unfaulty bytes a.number x f a.found fault
      | in_number e bad ↦ key_not_bad bytes t w x a bad
      | in_group tag e group ↦ key_not_group bytes t tag w x a group
    ]

key_fault_one : (bytes : List ℕ) (f g : WireFault) → IsKeyFault bytes f → IsKeyFault bytes g → f ≡ g
key_fault_one bytes f g is other = both (key_fault bytes f is) (key_fault bytes g other) where
  both : KeyFault bytes f → KeyFault bytes g → f ≡ g
  both (in_varint a) (in_varint b) = varint_fault_one bytes f g a b
  both (in_varint a) (in_number e b) = absurd (varint_unfaulty bytes b.number b.after f b.found a)
  both (in_varint a) (in_group tag e b) = absurd (varint_unfaulty bytes b.number b.after f b.found a)
  both (in_number e a) (in_varint b) = absurd (varint_unfaulty bytes a.number a.after g a.found b)
  both (in_number e a) (in_number d b) = e ∙ sym d
  both (in_number e a) (in_group tag d b) = absurd (bad_not_group bytes tag a b)
  both (in_group tag e a) (in_varint b) = absurd (varint_unfaulty bytes a.number a.after g a.found b)
  both (in_group tag e a) (in_number d b) = absurd (bad_not_group bytes tag b a)
  both (in_group tag e a) (in_group other_tag d b) = e ∙ ap (λ (t : ℕ). Group t) (group_one bytes tag other_tag a b) ∙ sym d

-- ---- fields

record SameContent (c d : Content) (x y : List ℕ) : Type 0 where
  contents : c ≡ d
  afters : x ≡ y

content_one : (c d : Content) (x y : List ℕ) → IsContent c → IsContent d → wire_of c ≡ wire_of d → content_bytes c ++ x ≡ content_bytes d ++ y → SameContent c d x y
content_one (Varint a) (Varint b) x y sound other same e = let both = whole_one a b x y sound.whole other.whole e in record { contents = ap (λ (l : List ℕ). Varint l) both.0; afters = both.1 }
content_one (Eight a) (Eight b) x y sound other same e = let both = same_len a b x y (sound ∙ sym other) e in record { contents = ap (λ (l : List ℕ). Eight l) both.0; afters = both.1 }
content_one (Four a) (Four b) x y sound other same e = let both = same_len a b x y (sound ∙ sym other) e in record { contents = ap (λ (l : List ℕ). Four l) both.0; afters = both.1 }
content_one (Sized size text) (Sized length_of more) x y sound other same e =
    let sizes = whole_one size length_of (text ++ x) (more ++ y) sound.0.whole other.0.whole (sym (append_assoc size text x) ∙ e ∙ append_assoc length_of more y) in
    let texts = same_len text more x y (sym sound.1 ∙ ap number_of sizes.0 ∙ other.1) sizes.1 in
    record { contents = ap (λ (l : List ℕ). Sized l text) sizes.0 ∙ ap (λ (l : List ℕ). Sized length_of l) texts.0; afters = texts.1 }
content_one _ _ x y sound other same e = absurd cc

record SameField (f g : Field) (x y : List ℕ) : Type 0 where
  fields : f ≡ g
  afters : x ≡ y

abbrev made : List ℕ → Content → Field
made key content = record { key = key; content = content }

field_one : (known : ℕ) (f g : Field) (x y : List ℕ) → IsField known f → IsField known g → field_bytes f ++ x ≡ field_bytes g ++ y → SameField f g x y
field_one known f g x y sound other e =
    let regrouped = sym (append_assoc f.key (content_bytes f.content) x) ∙ e ∙ append_assoc g.key (content_bytes g.content) y in
    let keys = whole_one f.key g.key (content_bytes f.content ++ x) (content_bytes g.content ++ y) sound.key.whole other.key.whole regrouped in
    let wire = wire_one (wire_of f.content) (wire_of g.content) (sym sound.wire ∙ ap (λ (k : List ℕ). number_of k % 8) keys.0 ∙ other.wire) in
    let same = content_one f.content g.content x y sound.content other.content wire keys.1 in
    record { fields = ap (λ (k : List ℕ). made k f.content) keys.0 ∙ ap (λ (c : Content). made g.key c) same.contents; afters = same.afters }

-- a field has a key
key_of : (known : ℕ) (bytes : List ℕ) (f : Field) (x : List ℕ) → IsField known f → bytes ≡ field_bytes f ++ x → KeyAt bytes (tag_of f) (wire_of f.content) (content_bytes f.content ++ x)
key_of known bytes f x sound joined = record {
  number = number_of f.key;
  found = record { spelled = f.key; varint = sound.key; value = refl; joined = joined ∙ append_assoc f.key (content_bytes f.content) x };
  key = sound.tag;
  tag_is = refl;
  wire_is = sound.wire;
}

varint_front : (a x : List ℕ) → IsVarint a → VarintAt (a ++ x) (number_of a) x
varint_front a x varint = record { spelled = a; varint = varint; value = refl; joined = refl }

content_unfaulty : (c : Content) (x : List ℕ) (f : WireFault) → IsContent c → IsContentFault (wire_of c) (content_bytes c ++ x) f → ⊥
content_unfaulty (Varint a) x f sound fault = varint_unfaulty (a ++ x) (number_of a) x f (varint_front a x sound) fault
content_unfaulty (Eight a) x f sound fault = omega (arith, fault.1, length-append a x)
content_unfaulty (Four a) x f sound fault = omega (arith, fault.1, length-append a x)
content_unfaulty (Sized size text) x f sound fault =
    let found : VarintAt ((size ++ text) ++ x) (number_of size) (text ++ x) = record { spelled = size; varint = sound.0; value = refl; joined = append_assoc size text x } in
    elim fault [
      | inl wrong ↦ varint_unfaulty ((size ++ text) ++ x) (number_of size) (text ++ x) f found wrong
      | inr cut ↦
          let same = varint_one ((size ++ text) ++ x) (number_of size) cut.1.size (text ++ x) cut.1.after found cut.1.found in
          omega (arith, same.0, ap length same.1, cut.1.short, length-append text x, sound.1)
    ]

content_fault_one : (w : Wire) (bytes : List ℕ) (f g : WireFault) → IsContentFault w bytes f → IsContentFault w bytes g → f ≡ g
content_fault_one wires.Varint bytes f g is other = varint_fault_one bytes f g is other
content_fault_one wires.Eight bytes f g is other = is.0 ∙ sym other.0
content_fault_one wires.Four bytes f g is other = is.0 ∙ sym other.0
content_fault_one wires.Sized bytes f g (inl is) (inl other) = varint_fault_one bytes f g is other
content_fault_one wires.Sized bytes f g (inl is) (inr other) = absurd (varint_unfaulty bytes other.1.size other.1.after f other.1.found is)
content_fault_one wires.Sized bytes f g (inr is) (inl other) = absurd (varint_unfaulty bytes is.1.size is.1.after g is.1.found other)
content_fault_one wires.Sized bytes f g (inr is) (inr other) = is.0 ∙ sym other.0

after_key_one : (known tag : ℕ) (w : Wire) (after : List ℕ) (f g : WireFault) → FaultAfterKey known tag w after f → FaultAfterKey known tag w after g → f ≡ g
after_key_one known tag w after f g (inl a) (inl b) = a.0 ∙ sym b.0
after_key_one known tag w after f g (inl a) (inr b) = absurd (a.2 (b.0 a.1))
after_key_one known tag w after f g (inr a) (inl b) = absurd (b.2 (a.0 b.1))
after_key_one known tag w after f g (inr a) (inr b) = content_fault_one w after f g a.1 b.1

after_key_unfaulty : (known : ℕ) (field : Field) (x : List ℕ) (f : WireFault) → IsField known field → FaultAfterKey known (tag_of field) (wire_of field.content) (content_bytes field.content ++ x) f → ⊥
after_key_unfaulty known field x f sound (inl wrong) = wrong.2 (sound.suits wrong.1)
after_key_unfaulty known field x f sound (inr faulty) = content_unfaulty field.content x f sound.content faulty.1

-- the same fault under an equal key
move_fault : (known t u : ℕ) (v w : Wire) (x y : List ℕ) (f : WireFault) → SameKey t u v w x y → FaultAfterKey known u w y f → FaultAfterKey known t v x f
move_fault known t u v w x y f same fault = rw (same.tags, same.wires_are, same.afters) fault

field_unfaulty : (known : ℕ) (bytes : List ℕ) (field : Field) (x : List ℕ) (f : WireFault) → IsField known field → bytes ≡ field_bytes field ++ x → FaultAt known bytes f → ⊥
field_unfaulty known bytes field x f sound joined fault =
    let key = key_of known bytes field x sound joined in
    elim fault.1 [
      | inl is ↦ key_unfaulty bytes (tag_of field) (wire_of field.content) (content_bytes field.content ++ x) f key is
      | inr is ↦
          let same = key_one bytes (tag_of field) is.tag (wire_of field.content) is.wire (content_bytes field.content ++ x) is.after key is.found in
          after_key_unfaulty known field x f sound (move_fault known (tag_of field) is.tag (wire_of field.content) is.wire (content_bytes field.content ++ x) is.after f same is.fault_is)
    ]

fault_one : (known : ℕ) (bytes : List ℕ) (f g : WireFault) → FaultAt known bytes f → FaultAt known bytes g → f ≡ g
fault_one known bytes f g is other = both is.1 other.1 where
  both : (IsKeyFault bytes f ⊎ FaultInField known bytes f) → (IsKeyFault bytes g ⊎ FaultInField known bytes g) → f ≡ g
  both (inl a) (inl b) = key_fault_one bytes f g a b
  both (inl a) (inr b) = absurd (key_unfaulty bytes b.tag b.wire b.after f b.found a)
  both (inr a) (inl b) = absurd (key_unfaulty bytes a.tag a.wire a.after g a.found b)
  both (inr a) (inr b) =
      let same = key_one bytes a.tag b.tag a.wire b.wire a.after b.after a.found b.found in
      after_key_one known a.tag a.wire a.after f g a.fault_is (move_fault known a.tag b.tag a.wire b.wire a.after b.after g same b.fault_is)

-- ---- lists of fields

-- the bytes of fields, and what follows them
abbrev joined_of : List Field → List ℕ → List ℕ
joined_of [] x = x
joined_of (f ∷ fields) x = field_bytes f ++ joined_of fields x

joined_is : (fields : List Field) (x : List ℕ) → flat_map field_bytes fields ++ x ≡ joined_of fields x
joined_is [] x = refl
joined_is (f ∷ fields) x =
    ap (λ (l : List ℕ). l ++ x) (flat_map-cons field_bytes f fields) ∙ append_assoc (field_bytes f) (flat_map field_bytes fields) x ∙ ap (λ (l : List ℕ). field_bytes f ++ l) (joined_is fields x)

field_len : (known : ℕ) (f : Field) (x : List ℕ) → IsField known f → 1 ≤ length (field_bytes f ++ x)
field_len known f x sound = omega (arith, length-append (field_bytes f) x, length-append f.key (content_bytes f.content), IsWhole-len f.key sound.key.whole)

fields_one : (known : ℕ) (a b : List Field) → AllByRecursion (IsField known) a → AllByRecursion (IsField known) b → joined_of a [] ≡ joined_of b [] → a ≡ b
fields_one known [] [] each other e = refl
fields_one known [] (g ∷ b) each other e = absurd (omega (arith, ap length e, field_len known g (joined_of b []) other.0))
fields_one known (f ∷ a) [] each other e = absurd (omega (arith, ap length e, field_len known f (joined_of a []) each.0))
fields_one known (f ∷ a) (g ∷ b) each other e =
    let first = field_one known f g (joined_of a []) (joined_of b []) each.0 other.0 e in
    let rest = fields_one known a b each.1 other.1 first.afters in
    let same = first.fields in
    cc

fields_unfaulty : (known : ℕ) (a b : List Field) (x : List ℕ) (f : WireFault) → AllByRecursion (IsField known) a → AllByRecursion (IsField known) b → joined_of a [] ≡ joined_of b x → FaultAt known x f → ⊥
fields_unfaulty known [] [] x f each other e fault = omega (arith, ap length e, fault.0)
fields_unfaulty known (g ∷ a) [] x f each other e fault = field_unfaulty known x g (joined_of a []) f each.0 (sym e) fault
fields_unfaulty known [] (h ∷ b) x f each other e fault = omega (arith, ap length e, field_len known h (joined_of b x) other.0)
fields_unfaulty known (g ∷ a) (h ∷ b) x f each other e fault =
    fields_unfaulty known a b x f each.1 other.1 (field_one known g h (joined_of a []) (joined_of b x) each.0 other.0 e).afters fault

faults_one : (known : ℕ) (a b : List Field) (x y : List ℕ) (f g : WireFault) → AllByRecursion (IsField known) a → AllByRecursion (IsField known) b → joined_of a x ≡ joined_of b y → FaultAt known x f → FaultAt known y g → f ≡ g
faults_one known [] [] x y f g each other e fault second = fault_one known x f g fault (subst (λ (l : List ℕ). FaultAt known l g) (sym e) second)
faults_one known (h ∷ a) [] x y f g each other e fault second = absurd (field_unfaulty known y h (joined_of a x) g each.0 (sym e) second)
faults_one known [] (h ∷ b) x y f g each other e fault second = absurd (field_unfaulty known x h (joined_of b y) f other.0 e fault)
faults_one known (h ∷ a) (k ∷ b) x y f g each other e fault second =
    faults_one known a b x y f g each.1 other.1 (field_one known h k (joined_of a x) (joined_of b y) each.0 other.0 e).afters fault second

whole_joined : (known : ℕ) (bytes : List ℕ) (fields : List Field) → StandsFor known bytes fields → bytes ≡ joined_of fields []
whole_joined known bytes fields stands = stands.joined ∙ sym (append-nil (flat_map field_bytes fields)) ∙ joined_is fields []

fault_joined : (known : ℕ) (bytes : List ℕ) (fault : WireFault) (first : FirstFault known bytes fault) → bytes ≡ joined_of first.fields first.after
fault_joined known bytes fault first = first.joined ∙ ap (λ (l : List ℕ). l ++ first.after) first.stands.joined ∙ joined_is first.fields first.after

pub one_reading : OneReading
one_reading known bytes a b stands other = fields_one known a b stands.each other.each (sym (whole_joined known bytes a stands) ∙ whole_joined known bytes b other)

pub no_fault_where_read : NoFaultWhereRead
no_fault_where_read known bytes fields fault stands first =
    fields_unfaulty known fields first.fields first.after fault stands.each first.stands.each (sym (whole_joined known bytes fields stands) ∙ fault_joined known bytes fault first) first.found

pub one_fault : OneFault
one_fault known bytes f g first second =
    faults_one known first.fields second.fields first.after second.after f g first.stands.each second.stands.each (sym (fault_joined known bytes f first) ∙ fault_joined known bytes g second) first.found second.found

-- ---- messages

pub patches_one : (bytes : List ℕ) (m n : Patches) → SaysPatches bytes m → SaysPatches bytes n → m ≡ n
patches_one bytes m n a b = a.says ∙ ap patches_of (one_reading 6 bytes a.fields b.fields a.stands b.stands) ∙ sym b.says

pub lanes_one : (bytes : List ℕ) (m n : PatchedMetadata) → SaysLanes bytes m → SaysLanes bytes n → m ≡ n
lanes_one bytes m n a b = a.says ∙ ap lanes_of (one_reading 3 bytes a.fields b.fields a.stands b.stands) ∙ sym b.says

pub all_patches : (bytes : List ℕ) (r : Result Patches WireFault) → IfOk r (SaysPatches bytes) → IfErr r (FirstFault 6 bytes) → (m : Patches) → SaysPatches bytes m → r ≡ Ok m
all_patches bytes (Ok n) ok err m says = ap (λ (p : Patches). Ok p) (patches_one bytes n m ok says)
all_patches bytes (Err f) ok err m says = absurd (no_fault_where_read 6 bytes says.fields f says.stands err)

pub first_patches : (bytes : List ℕ) (r : Result Patches WireFault) → IfOk r (SaysPatches bytes) → IfErr r (FirstFault 6 bytes) → (f : WireFault) → FirstFault 6 bytes f → r ≡ Err f
first_patches bytes (Ok n) ok err f first = absurd (no_fault_where_read 6 bytes ok.fields f ok.stands first)
first_patches bytes (Err g) ok err f first = ap (λ (e : WireFault). Err e) (one_fault 6 bytes g f err first)

pub all_lanes : (bytes : List ℕ) (r : Result PatchedMetadata WireFault) → IfOk r (SaysLanes bytes) → IfErr r (FirstFault 3 bytes) → (m : PatchedMetadata) → SaysLanes bytes m → r ≡ Ok m
all_lanes bytes (Ok n) ok err m says = ap (λ (p : PatchedMetadata). Ok p) (lanes_one bytes n m ok says)
all_lanes bytes (Err f) ok err m says = absurd (no_fault_where_read 3 bytes says.fields f says.stands err)

pub first_lanes : (bytes : List ℕ) (r : Result PatchedMetadata WireFault) → IfOk r (SaysLanes bytes) → IfErr r (FirstFault 3 bytes) → (f : WireFault) → FirstFault 3 bytes f → r ≡ Err f
first_lanes bytes (Ok n) ok err f first = absurd (no_fault_where_read 3 bytes ok.fields f ok.stands first)
first_lanes bytes (Err g) ok err f first = ap (λ (e : WireFault). Err e) (one_fault 3 bytes g f err first)
