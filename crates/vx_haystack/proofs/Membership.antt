-- What membership in a list of rows is, where all values among them have keys of one kind.
use Rattle.std.proofs.Common.{ℕ, ℤ, ◌≡◌, ◌∙◌, ap, sym, refl, Bool, true, false, cond, ◌&&◌, ◌||◌, List, [], ◌∷◌, ◌++◌, Option, Some, None}
use Rattle.std.specs.List.{list_any, list_all}
use Rattle.std.specs.Option.{option_to_list}
use Rattle.std.specs.Ordering.{is_eq, int_eq, nat_cmp}
use Rattle.std.specs.Cmp.Lexicographic.{slice_cmp}
use Rattle.std.proofs.lemmas.Bool.{and_parts, false≢true}
use Rattle.std.proofs.lemmas.Bool.Decides.{Decides-int_eq}
use Rattle.vx_rows.specs.declared.value.Value.{Value, out-Value}
use Rattle.vx_rows.specs.declared.value.Value.TheOpen.{Value-F}
use Rattle.vx_rows.specs.Order.{value_cmp, row_cmp, layer_cmp}
use Rattle.vx_scalars.proofs.Total.{value_layer}
use Rattle.vx_scalars.specs.Membership.{is_member}
use Rattle.vx_buffers.specs.Numbers.{row_int, layer_int}
use Rattle.vx_haystack.specs.Integers.{holds}
use Rattle.vx_haystack.specs.Keys.{keys_of, of_key, fits_key, passing, passing_key, row_decimal, layer_decimal, row_text, layer_text, row_binary, layer_binary, row_bytes, layer_bytes, has_bytes, has_row}

-- whether there are two keys, and they are equal
abbrev key_eq : {K : Type 0} → (K → K → Bool) → Option K → Option K → Bool
key_eq eq None k = false
key_eq eq (Some a) None = false
key_eq eq (Some a) (Some b) = eq a b

module _ {K : Type 0} (eq : K → K → Bool) (key : Option Value → Option K) (test : K → Bool) where
  no_key : (a : Option K) → key_eq eq a None ≡ false
  no_key None = refl
  no_key (Some a) = refl

  one_key : (b : K) (a : Option K) (ks : List K) (t : Bool) → t ≡ list_any (λ k. eq k b) ks → (key_eq eq a (Some b) || t) ≡ list_any (λ k. eq k b) (option_to_list a ++ ks)
  one_key b None ks t e = e
  one_key b (Some a) ks t e = ap (λ s. eq a b || s) e

  by_keys : (k : Option K) (rows : List (Option Value)) → list_any (λ e. key_eq eq (key e) k) rows ≡ of_key (λ b. list_any (λ a. eq a b) (keys_of key rows)) k
  by_keys None [] = refl
  by_keys None (e ∷ rows) = (λ i. no_key (key e) i || by_keys None rows i)
  by_keys (Some b) [] = refl
  by_keys (Some b) (e ∷ rows) = one_key b (key e) (keys_of key rows) (list_any (λ r. key_eq eq (key r) (Some b)) rows) (by_keys (Some b) rows)

  -- the order calls a row equal to a value exactly where their keys are equal
  abbrev IsKey : Type 0
  IsKey = (e : Option Value) (v : Value) → fits_key test key e ≡ true → is_eq (row_cmp e (Some v)) ≡ key_eq eq (key e) (key (Some v))

  rows_by_keys : IsKey → (rows : List (Option Value)) → list_all (fits_key test key) rows ≡ true → (v : Value) → list_any (λ e. is_eq (row_cmp e (Some v))) rows ≡ list_any (λ e. key_eq eq (key e) (key (Some v))) rows
  rows_by_keys is [] h v = refl
  rows_by_keys is (e ∷ rows) h v =
      let parts = and_parts (fits_key test key e) (list_all (fits_key test key) rows) h in
      λ i. is e v parts.0 i || rows_by_keys is rows parts.1 v i

  member_by_keys : IsKey → key None ≡ None → (rows : List (Option Value)) → list_all (fits_key test key) rows ≡ true → (row : Option Value) → of_key (λ b. list_any (λ a. eq a b) (keys_of key rows)) (key row) ≡ is_member rows row
  member_by_keys is none rows h None = ap (of_key (λ b. list_any (λ a. eq a b) (keys_of key rows))) none
  member_by_keys is none rows h (Some v) = sym (rows_by_keys is rows h v ∙ by_keys (key (Some v)) rows)

  passes : (a : Option K) → of_key test a ≡ true → passing_key test a ≡ option_to_list a
  passes None h = refl
  passes (Some a) h = ap (λ t. option_to_list (cond t (Some a) None)) h

  row_passes : key None ≡ None → (e : Option Value) → fits_key test key e ≡ true → passing_key test (key e) ≡ option_to_list (key e)
  row_passes none None h = ap (passing_key test) none ∙ ap option_to_list (sym none)
  row_passes none (Some v) h = passes (key (Some v)) h

  all_pass : key None ≡ None → (rows : List (Option Value)) → list_all (fits_key test key) rows ≡ true → passing test key rows ≡ keys_of key rows
  all_pass none [] h = refl
  all_pass none (e ∷ rows) h =
      let parts = and_parts (fits_key test key e) (list_all (fits_key test key) rows) h in
      λ i. row_passes none e parts.0 i ++ all_pass none rows parts.1 i

  key_passes : (a : Option K) (ks : List K) → of_key test a ≡ true → list_all test ks ≡ true → list_all test (option_to_list a ++ ks) ≡ true
  key_passes None ks h k = k
  key_passes (Some a) ks h k = λ i. h i && k i

  row_keys_pass : key None ≡ None → (e : Option Value) (ks : List K) → fits_key test key e ≡ true → list_all test ks ≡ true → list_all test (option_to_list (key e) ++ ks) ≡ true
  row_keys_pass none None ks h k = ap (λ a. list_all test (option_to_list a ++ ks)) none ∙ k
  row_keys_pass none (Some v) ks h k = key_passes (key (Some v)) ks h k

  keys_pass : key None ≡ None → (rows : List (Option Value)) → list_all (fits_key test key) rows ≡ true → list_all test (keys_of key rows) ≡ true
  keys_pass none [] h = refl
  keys_pass none (e ∷ rows) h =
      let parts = and_parts (fits_key test key e) (list_all (fits_key test key) rows) h in
      row_keys_pass none e (keys_of key rows) parts.0 (keys_pass none rows parts.1)

int_layer : (test : ℤ → Bool) (x y : Value-F Value) → of_key test (layer_int x) ≡ true → is_eq (layer_cmp value_cmp x y) ≡ key_eq int_eq (layer_int x) (layer_int y)
int_layer test (Value-F.Int a) (Value-F.Int b) h = refl
int_layer test (Value-F.Int a) y h = refl
int_layer test x y h = absurd (false≢true h)

decimal_layer : (test : ℤ → Bool) (x y : Value-F Value) → of_key test (layer_decimal x) ≡ true → is_eq (layer_cmp value_cmp x y) ≡ key_eq int_eq (layer_decimal x) (layer_decimal y)
decimal_layer test (Value-F.Decimal a) (Value-F.Decimal b) h = refl
decimal_layer test (Value-F.Decimal a) y h = refl
decimal_layer test x y h = absurd (false≢true h)

abbrev bytes_eq : List ℕ → List ℕ → Bool
bytes_eq a b = is_eq (slice_cmp nat_cmp a b)

text_layer : (test : List ℕ → Bool) (x y : Value-F Value) → of_key test (layer_text x) ≡ true → is_eq (layer_cmp value_cmp x y) ≡ key_eq bytes_eq (layer_text x) (layer_text y)
text_layer test (Value-F.Utf8 a) (Value-F.Utf8 b) h = refl
text_layer test (Value-F.Utf8 a) y h = refl
text_layer test x y h = absurd (false≢true h)

binary_layer : (test : List ℕ → Bool) (x y : Value-F Value) → of_key test (layer_binary x) ≡ true → is_eq (layer_cmp value_cmp x y) ≡ key_eq bytes_eq (layer_binary x) (layer_binary y)
binary_layer test (Value-F.Binary a) (Value-F.Binary b) h = refl
binary_layer test (Value-F.Binary a) y h = refl
binary_layer test x y h = absurd (false≢true h)

int_is_key : (test : ℤ → Bool) → IsKey int_eq row_int test
int_is_key test None v h = refl
int_is_key test (Some u) v h = ap is_eq (value_layer u v) ∙ int_layer test (out-Value u) (out-Value v) h

decimal_is_key : (test : ℤ → Bool) → IsKey int_eq row_decimal test
decimal_is_key test None v h = refl
decimal_is_key test (Some u) v h = ap is_eq (value_layer u v) ∙ decimal_layer test (out-Value u) (out-Value v) h

text_is_key : (test : List ℕ → Bool) → IsKey bytes_eq row_text test
text_is_key test None v h = refl
text_is_key test (Some u) v h = ap is_eq (value_layer u v) ∙ text_layer test (out-Value u) (out-Value v) h

binary_is_key : (test : List ℕ → Bool) → IsKey bytes_eq row_binary test
binary_is_key test None v h = refl
binary_is_key test (Some u) v h = ap is_eq (value_layer u v) ∙ binary_layer test (out-Value u) (out-Value v) h

and_false : (b : Bool) → (b && false) ≡ false
and_false true = refl
and_false false = refl

not_held : (test : ℤ → Bool) (z : ℤ) → test z ≡ false → (zs : List ℤ) → list_all test zs ≡ true → holds zs z ≡ false
not_held test z out [] h = refl
not_held test z out (y ∷ zs) h =
    let parts = and_parts (test y) (list_all test zs) h in
    λ i. apart (int_eq y z) (λ e. ap test (sym ((Decides-int_eq y z).0 e)) ∙ parts.0) i || not_held test z out zs parts.1 i
  where
    apart : (b : Bool) → (b ≡ true → test z ≡ true) → b ≡ false
    apart true f = absurd (false≢true (sym out ∙ f refl))
    apart false f = refl

tested : (test : ℤ → Bool) (zs : List ℤ) → list_all test zs ≡ true → (z : ℤ) → (test z && holds zs z) ≡ holds zs z
tested test zs h z = by_test (test z) refl
  where
    by_test : (t : Bool) → test z ≡ t → (t && holds zs z) ≡ holds zs z
    by_test true e = refl
    by_test false e = sym (not_held test z e zs h)

-- rows of which all values are integers that pass a test
pub int_member : (test : ℤ → Bool) (rows : List (Option Value)) → list_all (fits_key test row_int) rows ≡ true → (row : Option Value) →
    of_key (λ z. test z && holds (passing test row_int rows) z) (row_int row) ≡ is_member rows row
int_member test rows h row =
    let zs = keys_of row_int rows in
    ap (λ ks. of_key (λ z. test z && holds ks z) (row_int row)) (all_pass int_eq row_int test refl rows h)
    ∙ ap (λ p. of_key p (row_int row)) (λ i z. tested test zs (keys_pass int_eq row_int test refl rows h) z i)
    ∙ member_by_keys int_eq row_int test (int_is_key test) refl rows h row

-- .. are decimals
pub decimal_member : (rows : List (Option Value)) → list_all (fits_key (λ z. true) row_decimal) rows ≡ true → (row : Option Value) → of_key (holds (keys_of row_decimal rows)) (row_decimal row) ≡ is_member rows row
decimal_member rows h row = member_by_keys int_eq row_decimal (λ z. true) (decimal_is_key (λ z. true)) refl rows h row

text_bytes : (x : Value-F Value) → of_key (λ b. true) (layer_text x) ≡ true → layer_bytes x ≡ layer_text x
text_bytes (Value-F.Utf8 s) h = refl
text_bytes x h = absurd (false≢true h)

binary_bytes : (x : Value-F Value) → of_key (λ b. true) (layer_binary x) ≡ true → layer_bytes x ≡ layer_binary x
binary_bytes (Value-F.Binary s) h = refl
binary_bytes x h = absurd (false≢true h)

same_keys : (key : Option Value → Option (List ℕ)) → ((e : Option Value) → fits_key (λ b. true) key e ≡ true → row_bytes e ≡ key e) → (rows : List (Option Value)) → list_all (fits_key (λ b. true) key) rows ≡ true →
    keys_of row_bytes rows ≡ keys_of key rows
same_keys key same [] h = refl
same_keys key same (e ∷ rows) h =
    let parts = and_parts (fits_key (λ b. true) key e) (list_all (fits_key (λ b. true) key) rows) h in
    λ i. option_to_list (same e parts.0 i) ++ same_keys key same rows parts.1 i

text_keys : (e : Option Value) → fits_key (λ b. true) row_text e ≡ true → row_bytes e ≡ row_text e
text_keys None h = refl
text_keys (Some v) h = text_bytes (out-Value v) h

binary_keys : (e : Option Value) → fits_key (λ b. true) row_binary e ≡ true → row_bytes e ≡ row_binary e
binary_keys None h = refl
binary_keys (Some v) h = binary_bytes (out-Value v) h

-- .. are texts, where the set has their bytes
pub text_member : (set : List (List ℕ)) (rows : List (Option Value)) → list_all (fits_key (λ b. true) row_text) rows ≡ true → ((bytes : List ℕ) → has_bytes set bytes ≡ has_bytes (keys_of row_bytes rows) bytes) → (row : Option Value) →
    of_key (has_bytes set) (row_text row) ≡ is_member rows row
text_member set rows h same row =
    ap (λ p. of_key p (row_text row)) ((λ i bytes. same bytes i) ∙ ap has_bytes (same_keys row_text text_keys rows h))
    ∙ member_by_keys bytes_eq row_text (λ b. true) (text_is_key (λ b. true)) refl rows h row

-- .. are byte strings
pub binary_member : (set : List (List ℕ)) (rows : List (Option Value)) → list_all (fits_key (λ b. true) row_binary) rows ≡ true → ((bytes : List ℕ) → has_bytes set bytes ≡ has_bytes (keys_of row_bytes rows) bytes) → (row : Option Value) →
    of_key (has_bytes set) (row_binary row) ≡ is_member rows row
binary_member set rows h same row =
    ap (λ p. of_key p (row_binary row)) ((λ i bytes. same bytes i) ∙ ap has_bytes (same_keys row_binary binary_keys rows h))
    ∙ member_by_keys bytes_eq row_binary (λ b. true) (binary_is_key (λ b. true)) refl rows h row

-- any rows
pub row_member : (rows : List (Option Value)) (row : Option Value) → has_row rows row ≡ is_member rows row
row_member rows None = refl
row_member rows (Some v) = refl
