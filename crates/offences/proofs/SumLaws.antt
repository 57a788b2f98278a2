-- The sets of parts, summed up over members that stand in the order of parts.
use Rattle.offences.proofs.Common.{◌≡◌, ◌≢◌, ◌⊎◌, inl, inr, ◌+◌, ◌<◌, ◌≤◌, ◌==◌, ℕ, Bool, bit_or, cond, List, [], ◌∷◌, ◌++◌, length, take, get_or}
use Rattle.offences.proofs.Common.{refl, sym, ap, subst, ◌∙◌, arith, All, AllPairs, or_zero_l, or_zero_r, eq-eqb, ne_eqb, cases_eq, take_more}
use Rattle.offences.proofs.Common.{take_all, In, In-get_or, In-push_cases, AllPairs-from_Pairwise, SetTile, PartSum, no_tile, tile_at}
use Rattle.offences.proofs.Common.{AreInPartOrder, set_if, member_set, listed_set, all_sets, HaveSetsOf}
use Rattle.geo_core.proofs.FiniteSets.Pairs.{Pairwise, Pairwise-push}
use Rattle.offences.specs.PartSets.{HasMember}
use Rattle.layout_model.proofs.SetUnions.{union_assoc}
use Rattle.offences.proofs.UnionLaws.{set_if-empty, set_if-or}

-- one more sum at the end
pub listed_set-push : (part : ℕ) (sums : List PartSum) (sum : PartSum)
    → listed_set part (sums ++ sum ∷ []) ≡ bit_or (listed_set part sums) (set_if part sum.part sum.set.0)
listed_set-push part [] sum = or_zero_r (set_if part sum.part sum.set.0) ∙ sym (or_zero_l (set_if part sum.part sum.set.0))
listed_set-push part (s ∷ sums) sum =
    ap (bit_or (set_if part s.part s.set.0)) (listed_set-push part sums sum)
    ∙ sym (union_assoc (set_if part s.part s.set.0) (listed_set part sums) (set_if part sum.part sum.set.0))

-- one more member at the end
pub member_set-push : (tiles : List SetTile) (part : ℕ) (members : List ℕ) (member : ℕ)
    → member_set tiles part (members ++ member ∷ [])
    ≡ bit_or (member_set tiles part members) (set_if part (tile_at tiles member).part (tile_at tiles member).set.0)
member_set-push tiles part [] member =
    let own = set_if part (tile_at tiles member).part (tile_at tiles member).set.0 in or_zero_r own ∙ sym (or_zero_l own)
member_set-push tiles part (m ∷ members) member =
    let own = set_if part (tile_at tiles member).part (tile_at tiles member).set.0 in
    let first = set_if part (tile_at tiles m).part (tile_at tiles m).set.0 in
    ap (bit_or first) (member_set-push tiles part members member) ∙ sym (union_assoc first (member_set tiles part members) own)

-- an empty sum
abbrev pub no_sum : PartSum
no_sum = record { part = 0; set = record { 0 = 0 } }

-- one more set for the union of all
pub all_sets-push : (sums : List PartSum) (sum : PartSum) → all_sets (sums ++ sum ∷ []) ≡ bit_or (all_sets sums) sum.set.0
all_sets-push [] sum = or_zero_r sum.set.0 ∙ sym (or_zero_l sum.set.0)
all_sets-push (s ∷ sums) sum = ap (bit_or s.set.0) (all_sets-push sums sum) ∙ sym (union_assoc s.set.0 (all_sets sums) sum.set.0)

-- The sums of the first of the members: those of the parts that are passed, and that of the part at hand.
pub record AreSumsUpTo (tiles : List SetTile) (members : List ℕ) (done : ℕ) (sums : List PartSum) (sum : PartSum) : Type 0 where
  pub sets : (part : ℕ) → bit_or (listed_set part sums) (set_if part sum.part sum.set.0) ≡ member_set tiles part (take done members)
  pub ordered : Pairwise (λ a b. a.part < b.part) sums
  pub passed : (s : PartSum) → In s sums → s.part < sum.part
  pub ahead : (k : ℕ) → done ≤ k → k < length members → sum.part ≤ (tile_at tiles (get_or members k 0)).part
  pub parts : (s : PartSum) → In s sums → HasMember tiles members s.part
  pub own : sum.set.0 ≢ 0 → HasMember tiles members sum.part
  pub material : (s : PartSum) → In s sums → s.set.0 ≢ 0

-- nothing is summed up yet
pub no_sums : (tiles : List SetTile) (members : List ℕ) (sums : List PartSum) → sums ≡ []
    → AreSumsUpTo tiles members 0 sums (record { part = 0; set = record { 0 = 0 } })
no_sums tiles members sums e = subst (λ (s : List PartSum). AreSumsUpTo tiles members 0 s (record { part = 0; set = record { 0 = 0 } })) (sym e)
    (record {
      sets = λ part. ap (bit_or 0) (set_if-empty part 0 0 refl) ∙ or_zero_l 0;
      ordered = tt;
      passed = λ s h. absurd h;
      ahead = λ k p q. omega arith;
      parts = λ s h. absurd h;
      own = λ n. absurd (n refl);
      material = λ s h. absurd h;
    })

-- the sums with one more, if it has anything
abbrev pub with_material : List PartSum → PartSum → List PartSum
with_material sums sum = cond (sum.set.0 == 0) sums (sums ++ sum ∷ [])

module _ (sums : List PartSum) (sum : PartSum) where
  with_material-cases : ((sum.set.0 ≡ 0) × (with_material sums sum ≡ sums)) ⊎ ((sum.set.0 ≢ 0) × (with_material sums sum ≡ sums ++ sum ∷ []))
  with_material-cases = elim (cases_eq sum.set.0 0) [
    | inl e ↦ inl (e, ap (λ (t : Bool). cond t sums (sums ++ sum ∷ [])) (eq-eqb sum.set.0 0 e))
    | inr n ↦ inr (n, ap (λ (t : Bool). cond t sums (sums ++ sum ∷ [])) (ne_eqb sum.set.0 0 n))
  ]

  listed_set-with : (part : ℕ) → listed_set part (with_material sums sum) ≡ bit_or (listed_set part sums) (set_if part sum.part sum.set.0)
  listed_set-with part = elim with_material-cases [
    | inl h ↦ ap (listed_set part) h.1 ∙ sym (or_zero_r (listed_set part sums))
        ∙ ap (bit_or (listed_set part sums)) (sym (set_if-empty part sum.part sum.set.0 h.0))
    | inr h ↦ ap (listed_set part) h.1 ∙ listed_set-push part sums sum
  ]

  In-with : (s : PartSum) → In s (with_material sums sum) → In s sums ⊎ ((sum.set.0 ≢ 0) × (sum ≡ s))
  In-with s here = elim with_material-cases [
    | inl h ↦ inl (subst (In s) h.1 here)
    | inr h ↦ elim (In-push_cases s sums sum (subst (In s) h.1 here)) [ inl k ↦ inl k | inr e ↦ inr (h.0, e) ]
  ]

  ordered_with : Pairwise (λ a b. a.part < b.part) sums → ((s : PartSum) → In s sums → s.part < sum.part)
      → Pairwise (λ a b. a.part < b.part) (with_material sums sum)
  ordered_with ordered passed = elim with_material-cases [
    | inl h ↦ subst (Pairwise (λ a b. a.part < b.part)) (sym h.1) ordered
    | inr h ↦ subst (Pairwise (λ a b. a.part < b.part)) (sym h.1) (Pairwise-push (λ a b. a.part < b.part) sums sum ordered passed)
  ]

module _ (tiles : List SetTile) (members : List ℕ) where
  -- a later member is of the same part or of a later one
  parts_rise : All (λ member. member < length tiles) members → AreInPartOrder tiles → AllPairs ◌<◌ members → (i k : ℕ) → i ≤ k → k < length members
      → (tile_at tiles (get_or members i 0)).part ≤ (tile_at tiles (get_or members k 0)).part
  parts_rise within ordered ascending i k p q = elim (cases_eq i k) [
    | inl e ↦ subst (λ (j : ℕ). (tile_at tiles (get_or members i 0)).part ≤ (tile_at tiles (get_or members j 0)).part) e (omega arith)
    | inr n ↦ ordered (get_or members i 0) (get_or members k 0) no_tile (ascending i k 0 (omega arith) q) (within k 0 q)
  ]

  module _ (done : ℕ) (sums : List PartSum) (sum : PartSum) (tile : SetTile) (so_far : AreSumsUpTo tiles members done sums sum)
      (more : done < length members) (is : tile ≡ tile_at tiles (get_or members done 0)) where
    -- the next member is of another part, whose sum begins
    pub next_part : All (λ member. member < length tiles) members → AreInPartOrder tiles → AllPairs ◌<◌ members → tile.part ≢ sum.part
        → AreSumsUpTo tiles members done (with_material sums sum) (record { part = tile.part; set = record { 0 = 0 } })
    next_part within ordered ascending differ =
        let at : tile.part ≡ (tile_at tiles (get_or members done 0)).part = ap (λ (t : SetTile). t.part) is in
        let ahead : sum.part ≤ (tile_at tiles (get_or members done 0)).part = so_far.ahead done (omega arith) more in
        let later : sum.part < tile.part = omega arith in
        record {
          sets = λ part. ap (bit_or (listed_set part (with_material sums sum))) (set_if-empty part tile.part 0 refl)
              ∙ or_zero_r (listed_set part (with_material sums sum)) ∙ listed_set-with sums sum part ∙ so_far.sets part;
          ordered = ordered_with sums sum so_far.ordered so_far.passed;
          passed = λ s h. elim (In-with sums sum s h) [
            | inl k ↦ (let before = so_far.passed s k in omega (arith, before))
            | inr e ↦ subst (λ (r : PartSum). r.part < tile.part) e.1 later
          ];
          ahead = λ k p q. let rise = parts_rise within ordered ascending done k p q in omega (arith, rise);
          parts = λ s h. elim (In-with sums sum s h) [
            | inl k ↦ so_far.parts s k
            | inr e ↦ subst (λ (r : PartSum). HasMember tiles members r.part) e.1 (so_far.own e.0)
          ];
          own = λ n. absurd (n refl);
          material = λ s h. elim (In-with sums sum s h) [
            | inl k ↦ so_far.material s k
            | inr e ↦ subst (λ (r : PartSum). r.set.0 ≢ 0) e.1 e.0
          ];
        }

    -- the next member is of the part at hand
    pub same_part : tile.part ≡ sum.part → AreSumsUpTo tiles members (done + 1) sums
        (record { part = sum.part; set = record { 0 = bit_or sum.set.0 tile.set.0 } })
    same_part same =
        let at : tile.part ≡ (tile_at tiles (get_or members done 0)).part = ap (λ (t : SetTile). t.part) is in
        record {
          sets = λ part.
              let own = set_if part sum.part sum.set.0 in
              let added = set_if part sum.part tile.set.0 in
              let kept : added ≡ set_if part (tile_at tiles (get_or members done 0)).part (tile_at tiles (get_or members done 0)).set.0 =
              ap (λ (p : ℕ). set_if part p tile.set.0) (sym same) ∙ ap (λ (t : SetTile). set_if part t.part t.set.0) is in
              ap (bit_or (listed_set part sums)) (set_if-or part sum.part sum.set.0 tile.set.0)
              ∙ sym (union_assoc (listed_set part sums) own added)
              ∙ ap (λ (x : ℕ). bit_or x added) (so_far.sets part)
              ∙ ap (bit_or (member_set tiles part (take done members))) kept
              ∙ sym (ap (member_set tiles part) (take_more members done 0 more)
              ∙ member_set-push tiles part (take done members) (get_or members done 0));
          ordered = so_far.ordered;
          passed = so_far.passed;
          ahead = λ k p q. so_far.ahead k (omega arith) q;
          parts = so_far.parts;
          own = λ n. record { member = get_or members done 0; listed = In-get_or members done 0 more; is = sym at ∙ same };
          material = so_far.material;
        }

  -- all members are summed up
  pub all_summed : (done : ℕ) (sums : List PartSum) (sum : PartSum) → AreSumsUpTo tiles members done sums sum → length members ≤ done
      → HaveSetsOf tiles members (with_material sums sum)
  all_summed done sums sum so_far end = record {
    sets = λ part. listed_set-with sums sum part ∙ so_far.sets part ∙ ap (member_set tiles part) (take_all done members end);
    ordered = AllPairs-from_Pairwise (λ a b. a.part < b.part) (with_material sums sum) (ordered_with sums sum so_far.ordered so_far.passed);
    parts = λ s h. elim (In-with sums sum s h) [
      | inl k ↦ so_far.parts s k
      | inr e ↦ subst (λ (r : PartSum). HasMember tiles members r.part) e.1 (so_far.own e.0)
    ];
    material = λ s h. elim (In-with sums sum s h) [
      | inl k ↦ so_far.material s k
      | inr e ↦ subst (λ (r : PartSum). r.set.0 ≢ 0) e.1 e.0
    ];
  }
