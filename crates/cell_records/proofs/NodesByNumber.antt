-- The nodes of a list of records, by their numbers: the places of each are those that go by its name.
use Rattle.cell_records.proofs.Common.{◌≡◌, ◌<◌, ℕ, pos, List, length, get_or, inl, inr, refl, sym, subst, arith, cases_lt, RawTech, IsWellFormed}
use Rattle.cell_records.proofs.Common.{NodeRec, HasTypesOf, Layout, IsMaterial, Place, IsOfNode, IsNodeBefore, name_at}
use Rattle.finite_sets.specs.Chain.Chain.{stay}
use Rattle.finite_sets.specs.Least.{IsLeast}
use Rattle.finite_sets.proofs.Chains.{Chain-append}
use Rattle.finite_sets.proofs.Leasts.{IsLeast-iff}
use Rattle.tech_model.specs.declared.raw.Label.{Label}
use Rattle.cell_paint.specs.LayoutModel.Places.{IsBefore, IsNoLater}
use Rattle.cell_paint.proofs.LayoutModel.PlaceLaws.{IsBefore-irreflexive}
use Rattle.own_record_laws.specs.Names.NamedNodes.{AreOneNamedNode, IsNameOf}
use Rattle.own_record_laws.specs.CellNodes.NodeRecords.{IsNodeRecord, AreNodeRecords}
use Rattle.own_record_laws.proofs.CellNodes.NodePlaces.{AreOneNamedNode-sym, material_along}
use Rattle.own_record_laws.proofs.NodesByName.{one_name_one_node}
use Rattle.own_record_laws.proofs.PreferredNames.{one_least, preferred_is_first}
use Rattle.cell_records.specs.steps.FetsOfRegions.{no_node}

abbrev pub origin : Place
origin = record { plane = 0; square = record { x = pos 0; y = pos 0 } }

module _ (raw : RawTech) (layout : Layout) (labels : List Label) (nodes : List NodeRec) (well : IsWellFormed raw) (typed : HasTypesOf raw layout)
    (are : AreNodeRecords raw layout labels nodes) where
  abbrev N : Place → Place → Type 0
  N = AreOneNamedNode raw layout labels

  -- the least place of the node with the number
  abbrev pub least_at : ℕ → Place
  least_at k = get_or are.leasts k origin

  record_at : (k : ℕ) → k < length nodes → IsNodeRecord raw layout labels (least_at k) (get_or nodes k no_node)
  record_at k inside = are.sound k origin no_node inside

  -- a place of the node goes by its name
  pub of_number : (k : ℕ) (place : Place) → k < length nodes → N (least_at k) place → IsOfNode raw layout labels (name_at nodes k) place
  of_number k place inside chain =
      let is = record_at k inside in
      record {
        material = material_along raw layout labels well chain is.material;
        least = least_at k;
        is_least = IsLeast-iff IsNoLater (N (least_at k)) (N place) (λ p there. Chain-append (AreOneNamedNode-sym raw layout labels chain) there)
            (λ p there. Chain-append chain there) (least_at k) is.is_least;
        first = preferred_is_first raw layout labels (least_at k) (get_or nodes k no_node) is;
      }

  -- nodes with one name have one least place
  joined_by_name : (k : ℕ) (name : List ℕ) (least : Place) → k < length nodes → name_at nodes k ≡ name → IsMaterial layout least
      → IsNameOf raw layout labels least name → N (least_at k) least
  joined_by_name k name least inside same material of =
      let is = record_at k inside in
      one_name_one_node raw layout labels well typed (least_at k) least name is.material material
      (subst (IsNameOf raw layout labels (least_at k)) same (is.names.2 (name_at nodes k) (inl refl))) of

  -- and a place that goes by the name is of the node
  pub to_number : (k : ℕ) (place : Place) → k < length nodes → IsOfNode raw layout labels (name_at nodes k) place → N (least_at k) place
  to_number k place inside is =
      Chain-append
      (joined_by_name k (name_at nodes k) is.least inside refl (material_along raw layout labels well is.is_least.0 is.material) is.first.0)
      (AreOneNamedNode-sym raw layout labels is.is_least.0)

  earlier_differs : (m n : ℕ) → m < n → n < length nodes → least_at m ≡ least_at n → ⊥
  earlier_differs m n less inside same =
      let long = are.one_each in
      IsBefore-irreflexive (least_at m)
      (subst (λ (p : Place). IsBefore (least_at m) p) (sym same) (are.in_order m n origin less (omega (arith, inside, long))))

  -- nodes that are joined have one number
  pub one_number : (m n : ℕ) → m < length nodes → n < length nodes → N (least_at m) (least_at n) → m ≡ n
  one_number m n m_in n_in joined =
      let same = one_least raw layout labels (least_at m) (least_at n) (least_at m) (least_at n) joined (record_at m m_in).is_least
      (record_at n n_in).is_least in
      elim (cases_lt m n) [
        | inl less ↦ absurd (earlier_differs m n less n_in same)
        | inr no_less ↦ (elim (cases_lt n m) [
          | inl more ↦ absurd (earlier_differs n m more m_in (sym same))
          | inr no_more ↦ omega (arith, no_less, no_more)
        ])
      ]

  -- names of different numbers differ
  pub one_name_at : (m n : ℕ) → m < length nodes → n < length nodes → name_at nodes m ≡ name_at nodes n → m ≡ n
  one_name_at m n m_in n_in same =
      let is = record_at n n_in in
      one_number m n m_in n_in (joined_by_name m (name_at nodes n) (least_at n) m_in same is.material (is.names.2 (name_at nodes n) (inl refl)))

  -- the least place that goes by the name
  least_of_name : (k : ℕ) → k < length nodes → IsLeast IsNoLater (IsOfNode raw layout labels (name_at nodes k)) (least_at k)
  least_of_name k inside = (
    of_number k (least_at k) inside stay,
    λ place of. (record_at k inside).is_least.1 place (to_number k place inside of),
  )

  -- a node of a lower number comes before
  pub number_before : (m n : ℕ) → m < n → n < length nodes → IsNodeBefore raw layout labels (name_at nodes m) (name_at nodes n)
  number_before m n less inside =
      let long = are.one_each in
      let m_in : m < length nodes = omega (arith, less, inside) in
      record {
        least = least_at m;
        next_least = least_at n;
        is_least = least_of_name m m_in;
        is_next_least = least_of_name n inside;
        before = are.in_order m n origin less (omega (arith, inside, long));
      }
