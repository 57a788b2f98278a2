-- A column for each class, and what they have for each group.
use Rattle.meeting_sums.proofs.Common.{◌≡◌, ℕ, ◌+◌, ◌<◌, pos, ℤ, ◌+ℤ◌, ◌-ℤ◌, List, [], ◌∷◌, ◌++◌, take, length, get_or, inl, inr, sym, ◌∙◌, ap}
use Rattle.meeting_sums.proofs.Common.{subst, arith, All, cases_lt, ints, get_or_default, get_or-take, In, In-index, Amount, Contact, ClassRec}
use Rattle.meeting_sums.proofs.Common.{class_of, PlaneStack, Column, MeetingSum, AddAmounts, IsColumn, AreColumns}
use Rattle.std.proofs.lemmas.List.{get_or_append_left, get_or_push, length-append, length-take-le}
use Rattle.meeting_sums.proofs.AmountLaws.{keys_all}

-- a sum that stands for none
abbrev pub no_sum : MeetingSum
no_sum = record { cap = pos 0; measures = [] }

-- keys of groups are below the count
pub group_keys : (groups : List ℕ) (value : ℕ → ℤ) (old new : List Amount) (count : ℕ) → old ≡ [] → AddAmounts (λ key. In key groups) value old new
    → All (λ group. group < count) groups → All (λ amount. amount.key < count) new
group_keys groups value old new count none adds counted =
    keys_all (λ key. In key groups) value new count (subst (λ (v : List Amount). AddAmounts (λ key. In key groups) value v new) none adds)
    (λ key i. let at = In-index key groups i in subst (λ (k : ℕ). k < count) (at.1.1 key) (counted at.0 key at.1.0))

pub alone_less_shared : (a b : ℤ) → a +ℤ (pos 0 -ℤ b) ≡ a -ℤ b
alone_less_shared a b = omega (arith, ints)

-- one column more
pub columns_more : (classes : List ClassRec) (stacks : List PlaneStack) (contacts : List Contact) (groups : List ℕ) (count i : ℕ) (columns new : List Column)
    (d : ClassRec) (column : Column)
    → i < length classes → AreColumns (take i classes) stacks contacts groups count columns
    → IsColumn (class_of (get_or classes i d)).contains stacks contacts groups count column
    → new ≡ columns ++ column ∷ [] → AreColumns (take (i + 1) classes) stacks contacts groups count new
columns_more classes stacks contacts groups count i columns new d column inside before is e =
    let many = before.so_many in
    let upto = length-take-le i classes (omega (arith, inside)) in
    let next = length-take-le (i + 1) classes (omega (arith, inside)) in
    let grown = ap length e ∙ length-append columns (column ∷ []) in
    record {
      so_many = omega (arith, many, upto, next, grown);
      each = λ k class other below.
          let early : k < i + 1 = omega (arith, below, next) in
          let at : get_or (take (i + 1) classes) k class ≡ get_or classes k class = get_or-take (i + 1) classes k class early in
          subst (λ (v : ClassRec). IsColumn (class_of v).contains stacks contacts groups count (get_or new k other)) (sym at)
          (subst (λ (v : List Column). IsColumn (class_of (get_or classes k class)).contains stacks contacts groups count (get_or v k other)) (sym e)
          (elim (cases_lt k i) [
            | inl less ↦ subst (λ (v : Column). IsColumn (class_of (get_or classes k class)).contains stacks contacts groups count v)
                (sym (get_or_append_left columns (column ∷ []) other k (omega (arith, less, many, upto))))
                (subst (λ (v : ClassRec). IsColumn (class_of v).contains stacks contacts groups count (get_or columns k other))
                (get_or-take i classes k class less) (before.each k class other (omega (arith, less, upto))))
            | inr ge ↦
                (let same : i ≡ k = omega (arith, ge, early) in
                let last : length columns ≡ k = omega (arith, many, upto, same) in
                subst (λ (v : Column). IsColumn (class_of (get_or classes k class)).contains stacks contacts groups count v)
                (sym (get_or_push columns column other k last))
                (subst (λ (v : ClassRec). IsColumn (class_of v).contains stacks contacts groups count column)
                (get_or_default classes i d class inside ∙ ap (λ (m : ℕ). get_or classes m class) same) is))
          ]));
    }

-- columns are as long as there are groups
module _ (classes : List ClassRec) (stacks : List PlaneStack) (contacts : List Contact) (groups : List ℕ) (count group : ℕ) (columns : List Column)
    (below : group < count) (have : AreColumns classes stacks contacts groups count columns) where
  some_class : ClassRec
  some_class = record { value = 0; per_area = 0; per_perimeter = 0; types = [] }

  has : (k : ℕ) (d : Column) → k < length columns → IsColumn (class_of (get_or classes k some_class)).contains stacks contacts groups count (get_or columns k d)
  has k d inside = let many = have.so_many in have.each k some_class d (omega (arith, inside, many))

  pub areas_long : All (λ column. group < length column.areas.items) columns
  areas_long = λ k d inside. let a = (has k d inside).areas_long in omega (arith, a, below)

  pub perimeters_long : All (λ column. group < length column.perimeters.items) columns
  perimeters_long = λ k d inside. let a = (has k d inside).perimeters_long in omega (arith, a, below)
