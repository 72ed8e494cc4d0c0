-- The parts under the members of a value, and how deep a value's members and items nest.
use Rattle.std.proofs.Common.{◌≡◌, ◌<◌, ◌≤◌, ℕ, zero, suc, List, [], ◌∷◌, length, get_or, max}
use Rattle.std.proofs.Common.{Option, Some, None, option_map, Ordering, Less, Equal, Greater}
use Rattle.std.proofs.Common.{refl, sym, ap, ◌∙◌, subst, arith}
use Rattle.std.proofs.lemmas.Option.{none-some}
use Rattle.std.specs.Cmp.Lexicographic.{slice_cmp}
use Rattle.std.specs.Ordering.{nat_cmp, match_ordering}
use Rattle.serde_json.specs.Data.{Data, null, boolean, number, string, array, object}
use Rattle.serde_json.specs.Data.{Items, no_items, item, Members, no_members, member}
use Rattle.serde_json.specs.Data.{depth, items_depth, members_depth}
use Rattle.serde_json.specs.Find.{get, get_member, as_array}
use Rattle.serde_json.specs.View.{view, items_view}
use Rattle.serde_json.specs.declared.value.Value.{Value}
use Rattle.vx_json_rows.specs.Forms.{◌>>=◌, all_items, list_of}
use Rattle.vx_json.specs.Parts.{tag_of, part_by, part_of, parts_of, all_parts, part_in, parts_in}
use Rattle.vx_json.specs.Parts.{part_under, parts_under}

by_order : {X : Type 0} (o : Ordering) (f : Data → Option X) (d : Data) (rest : Option X) (found : Option Data)
    → rest ≡ (found >>= f)
    → match_ordering o rest (f d) rest ≡ (match_ordering o found (Some d) found >>= f)
by_order Less f d rest found same = same
by_order Equal f d rest found same = refl
by_order Greater f d rest found same = same

part_member : (ms : Members) (key : List ℕ) → part_in ms key ≡ (get_member key ms >>= part_of)
part_member no_members key = refl
part_member (member k d ms) key =
    by_order (slice_cmp nat_cmp key k) part_of d (part_in ms key) (get_member key ms) (part_member ms key)

all_read : (ds : Items) → all_parts ds ≡ all_items part_of ds
all_read no_items = refl
all_read (item d ds) = ap (λ rest. part_of d >>= λ p. option_map (λ ps. p ∷ ps) rest) (all_read ds)

-- a list of parts is a list of what are parts
list_read : (d : Data) → parts_of d ≡ list_of part_of d
list_read null = refl
list_read (boolean b) = refl
list_read (number n) = refl
list_read (string s) = refl
list_read (array ds) = all_read ds
list_read (object ms) = refl

parts_member : (ms : Members) (key : List ℕ) → parts_in ms key ≡ (get_member key ms >>= parts_of)
parts_member no_members key = refl
parts_member (member k d ms) key =
    by_order (slice_cmp nat_cmp key k) parts_of d (parts_in ms key) (get_member key ms) (parts_member ms key)

listed_member : (ms : Members) (key : List ℕ) → parts_in ms key ≡ (get_member key ms >>= list_of part_of)
listed_member ms key = parts_member ms key ∙ ap (λ f. get_member key ms >>= f) (λ i d. list_read d i)

-- a part by what is under the members of its value
pub one_level : (d : Data) → part_of d ≡ part_by (tag_of d) (part_under d) (parts_under d) d
one_level null = refl
one_level (boolean b) = refl
one_level (number n) = refl
one_level (string s) = refl
one_level (array ds) = refl
one_level (object ms) = λ i. part_by (tag_of (object ms)) (λ key. part_member ms key i)
    (λ key. listed_member ms key i) (object ms)

held : Data → Option Data → Data
held d None = d
held d (Some e) = e

found_within : (o : Ordering) (d e : Data) (found : Option Data) (n : ℕ) → (found ≡ Some e → depth e ≤ n)
    → match_ordering o found (Some d) found ≡ Some e → depth e ≤ max (depth d) n
unfolding held
found_within Less d e found n within is = omega (arith, within is)
found_within Equal d e found n within is = let same : depth d ≡ depth e = ap (λ o. depth (held d o)) is in
    omega (arith, same)
found_within Greater d e found n within is = omega (arith, within is)

member_within : (key : List ℕ) (ms : Members) (e : Data) → get_member key ms ≡ Some e
    → depth e ≤ members_depth ms
member_within key no_members e is = absurd (none-some _ is)
member_within key (member k d ms) e is =
    found_within (slice_cmp nat_cmp key k) d e (get_member key ms) (members_depth ms) (member_within key ms e) is

-- a member nests less deep than its object
pub member_depth : (key : List ℕ) (d e : Data) → get key d ≡ Some e → depth e < depth d
member_depth key null e is = absurd (none-some _ is)
member_depth key (boolean b) e is = absurd (none-some _ is)
member_depth key (number n) e is = absurd (none-some _ is)
member_depth key (string s) e is = absurd (none-some _ is)
member_depth key (array ds) e is = absurd (none-some _ is)
member_depth key (object ms) e is = omega (arith, member_within key ms e is)

item_within : (vs : List Value) (i : ℕ) (v : Value) → i < length vs
    → depth (view (get_or vs i v)) ≤ items_depth (items_view vs)
item_within [] i v lt = absurd (omega arith)
item_within (u ∷ us) zero v lt = omega arith
item_within (u ∷ us) (suc i) v lt = let rest = item_within us i v (omega arith) in omega (arith, rest)

held_depth : Option Items → ℕ
held_depth None = 0
held_depth (Some ds) = items_depth ds

list_depth : (d : Data) (ds : Items) → as_array d ≡ Some ds → items_depth ds < depth d
unfolding held_depth
list_depth null ds is = absurd (none-some _ is)
list_depth (boolean b) ds is = absurd (none-some _ is)
list_depth (number n) ds is = absurd (none-some _ is)
list_depth (string s) ds is = absurd (none-some _ is)
list_depth (array es) ds is = let same : items_depth es ≡ items_depth ds = ap held_depth is in omega (arith, same)
list_depth (object ms) ds is = absurd (none-some _ is)

-- an item nests less deep than its list
pub item_depth : (d : Data) (vs : List Value) (i : ℕ) (v : Value) → as_array d ≡ Some (items_view vs)
    → i < length vs → v ≡ get_or vs i v → depth (view v) < depth d
item_depth d vs i v is lt at =
    let within : depth (view v) ≤ items_depth (items_view vs) =
    subst (λ u. depth (view u) ≤ items_depth (items_view vs)) (sym at) (item_within vs i v lt) in
    omega (arith, within, list_depth d (items_view vs) is)
