-- Numbers that are put into groups one after another.
use Rattle.names.proofs.Common.{◌≡◌, ◌<◌, ◌+◌, ℕ, Option, Some, None, List, [], ◌∷◌, ◌++◌, length, get_or, map, inl, inr, arith, sym, subst, ◌∙◌, ap}
use Rattle.names.proofs.Common.{Vec, Global, All, IfSome, cases_eq, get_or-map, length-map, all_pairs_push, none-some, same_Some, In, In-get_or}
use Rattle.names.proofs.Common.{In-push_cases, In-push, In-append_left, AreGroupsBy, AreGroups, key_at, class_in, region_key, label_key}
use Rattle.std.proofs.lemmas.List.Elements.{All-map}
use Rattle.names.specs.steps.Groups.{IsGroup, AddsMember}

-- a group has nothing of no numbers
pub group_none : (keys : ℕ → Option ℕ) (group : ℕ) (members : List ℕ) → members ≡ [] → IsGroup keys 0 group members
group_none keys group members none = subst (IsGroup keys 0 group) (sym none) (record {
  sound = λ k among. absurd among;
  whole = λ k below is. absurd (omega arith);
  rise = λ i j d less below. absurd (omega arith);
})

-- one more number of another group
group_same : (keys : ℕ → Option ℕ) (n group : ℕ) (members : List ℕ) → (keys n ≡ Some group → ⊥) → IsGroup keys n group members
    → IsGroup keys (n + 1) group members
group_same keys n group members other is = record {
  sound = λ k among. let h = is.sound k among in let below = h.0 in (omega arith, h.1);
  whole = λ k below key. elim (cases_eq k n) [
    | inl at ↦ absurd (other (sym (ap keys at) ∙ key))
    | inr before ↦ is.whole k (omega arith) key
  ];
  rise = is.rise;
}

-- one more number of the group
group_more : (keys : ℕ → Option ℕ) (n group : ℕ) (members : List ℕ) → keys n ≡ Some group → IsGroup keys n group members
    → IsGroup keys (n + 1) group (members ++ n ∷ [])
group_more keys n group members key is = record {
  sound = λ k among. elim (In-push_cases k members n among) [
    | inl before ↦ let h = is.sound k before in let below = h.0 in (omega arith, h.1)
    | inr same ↦ (omega arith, sym (ap keys same) ∙ key)
  ];
  whole = λ k below its. elim (cases_eq k n) [
    | inl at ↦ subst (λ (i : ℕ). In i (members ++ n ∷ [])) (sym at) (In-push members n)
    | inr before ↦ In-append_left k members (n ∷ []) (is.whole k (omega arith) its)
  ];
  rise = all_pairs_push ◌<◌ members n is.rise (λ k d inside. (is.sound (get_or members k d) (In-get_or members k d inside)).0);
}

-- one more number without a key
pub groups_same : (keys : ℕ → Option ℕ) (n count : ℕ) (groups : List (Vec ℕ Global)) → keys n ≡ None → AreGroupsBy keys n count groups
    → AreGroupsBy keys (n + 1) count groups
groups_same keys n count groups none has = record {
  one_each = has.one_each;
  each = λ group d below. group_same keys n group (get_or groups group d).items (λ key. none-some group (sym none ∙ key)) (has.each group d below);
}

-- one more number of a group
pub groups_more : (keys : ℕ → Option ℕ) (n count group : ℕ) (old new : List (Vec ℕ Global)) → group < count → keys n ≡ Some group → AddsMember old new group n
    → AreGroupsBy keys n count old → AreGroupsBy keys (n + 1) count new
groups_more keys n count group old new in_range key adds has = record {
  one_each = adds.so_many ∙ has.one_each;
  each = λ other d below. elim (cases_eq other group) [
    | inl same ↦ subst (λ (g : ℕ). IsGroup keys (n + 1) g (get_or new g d).items) (sym same)
        (subst (IsGroup keys (n + 1) group) (sym (adds.added d)) (group_more keys n group (get_or old group d).items key (has.each group d in_range)))
    | inr apart ↦ let many = has.one_each in
        subst (λ (v : Vec ℕ Global). IsGroup keys (n + 1) other v.items) (sym (adds.others other d (omega (arith, many, below)) apart))
        (group_same keys n other (get_or old other d).items (λ its. apart (same_Some other group (sym its ∙ key))) (has.each other d below))
  ];
}

-- the same numbers by other keys
pub group_by : (keys others : ℕ → Option ℕ) (n group : ℕ) (members : List ℕ) → ((k : ℕ) → k < n → keys k ≡ others k) → IsGroup keys n group members
    → IsGroup others n group members
group_by keys others n group members same is = record {
  sound = λ k among. let h = is.sound k among in (h.0, sym (same k h.0) ∙ h.1);
  whole = λ k below its. is.whole k below (same k below ∙ its);
  rise = is.rise;
}

-- empty groups are those of no numbers, whatever the keys
pub groups_from_empty : (keys : List (Option ℕ)) (count : ℕ) (groups : List (Vec ℕ Global)) → AreGroups [] count groups
    → AreGroupsBy (key_at keys) 0 count groups
groups_from_empty keys count groups are = record {
  one_each = are.one_each;
  each = λ group d below. group_by (key_at []) (key_at keys) 0 group (get_or groups group d).items (λ k less. absurd (omega arith)) (are.each group d below);
}

-- all numbers are in groups
pub groups_all : (keys : List (Option ℕ)) (n count : ℕ) (groups : List (Vec ℕ Global)) → n ≡ length keys → AreGroupsBy (key_at keys) n count groups
    → AreGroups keys count groups
groups_all keys n count groups all has = subst (λ (k : ℕ). AreGroupsBy (key_at keys) k count groups) all has

-- groups by the classes of regions
pub groups_of_regions : (classes : List ℕ) (keys : List (Option ℕ)) (count : ℕ) (groups : List (Vec ℕ Global)) → keys ≡ map Some classes
    → AreGroups keys count groups → AreGroupsBy (region_key classes) (length classes) count groups
groups_of_regions classes keys count groups is are =
    let long : length keys ≡ length classes = ap length is ∙ length-map classes Some in
    record {
      one_each = are.one_each;
      each = λ group d below. subst (λ (k : ℕ). IsGroup (region_key classes) k group (get_or groups group d).items) long
          (group_by (key_at keys) (region_key classes) (length keys) group (get_or groups group d).items
          (λ k less. ap (λ (v : List (Option ℕ)). get_or v k None) is ∙ get_or-map Some classes k 0 None (omega (arith, long, less))) (are.each group d below));
    }

-- groups by the classes of the regions that labels name
pub groups_of_labels : (classes : List ℕ) (named keys : List (Option ℕ)) (count : ℕ) (groups : List (Vec ℕ Global)) → keys ≡ map (class_in classes) named
    → AreGroups keys count groups → AreGroupsBy (label_key classes named) (length named) count groups
groups_of_labels classes named keys count groups is are =
    let long : length keys ≡ length named = ap length is ∙ length-map named (class_in classes) in
    record {
      one_each = are.one_each;
      each = λ group d below. subst (λ (k : ℕ). IsGroup (label_key classes named) k group (get_or groups group d).items) long
          (group_by (key_at keys) (label_key classes named) (length keys) group (get_or groups group d).items
          (λ k less. ap (λ (v : List (Option ℕ)). get_or v k None) is ∙ get_or-map (class_in classes) named k None None (omega (arith, long, less)))
          (are.each group d below));
    }

-- the classes of regions are below their number
pub region_keys_below : (classes : List ℕ) (keys : List (Option ℕ)) (count : ℕ) → keys ≡ map Some classes → All (λ class. class < count) classes
    → All (λ key. IfSome key (λ group. group < count)) keys
region_keys_below classes keys count is below = subst (All (λ key. IfSome key (λ group. group < count))) (sym is)
    (All-map (λ key. IfSome key (λ group. group < count)) Some classes below)

class_in_below : (classes : List ℕ) (count : ℕ) → All (λ class. class < count) classes → (region : Option ℕ) → IfSome region (λ r. r < length classes)
    → IfSome (class_in classes region) (λ group. group < count)
class_in_below classes count below None h = tt
class_in_below classes count below (Some region) h = below region 0 h

-- and so are those of the regions that labels name
pub label_keys_below : (classes : List ℕ) (named keys : List (Option ℕ)) (count : ℕ) → keys ≡ map (class_in classes) named
    → All (λ class. class < count) classes → All (λ region. IfSome region (λ r. r < length classes)) named
    → All (λ key. IfSome key (λ group. group < count)) keys
label_keys_below classes named keys count is below regions = subst (All (λ key. IfSome key (λ group. group < count))) (sym is)
    (All-map (λ key. IfSome key (λ group. group < count)) (class_in classes) named
    (λ k d less. class_in_below classes count below (get_or named k d) (regions k d less)))

-- the members of groups are among the numbers
pub members_below : (keys : ℕ → Option ℕ) (n m count : ℕ) (groups : List (Vec ℕ Global)) → n ≡ m → AreGroupsBy keys n count groups
    → All (λ (group : Vec ℕ Global). All (λ index. index < m) group.items) groups
members_below keys n m count groups same are k d less i e inside =
    let many = are.one_each in
    let members = get_or groups k d in
    let below = ((are.each k d (omega (arith, many, less))).sound (get_or members.items i e) (In-get_or members.items i e inside)).0 in
    omega (arith, same, below)

-- what holds of the value, where there is one
pub IfSome_at : (P : ℕ → Type 0) (x : ℕ) (found : Option ℕ) → found ≡ Some x → IfSome found P → P x
IfSome_at P x None is h = absurd (none-some x is)
IfSome_at P x (Some y) is h = subst P (same_Some y x is) h
