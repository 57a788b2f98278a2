-- The groups of a cell have what its members and its merges have.
use Rattle.tree_circuits.proofs.Common.{◌≡◌, ℕ, ℤ, pos, ◌+ℤ◌, Bool, cond, List, [], ◌∷◌, ◌++◌, inl, inr, refl, sym, ◌∙◌, ap, subst, arith, flat_map}
use Rattle.tree_circuits.proofs.Common.{ints, map-append, In, Distinct, Chain-append, Distinct-append, In-append_cases, In-append_left}
use Rattle.tree_circuits.proofs.Common.{In-append_right, In-map, In-map_source, sum_on-append, sum_on-map, In-flat_map, In-flat_map_source, RawTech}
use Rattle.tree_circuits.proofs.Common.{KeepsRules, IsWellFormed, CellExt, NodeRec, Place, IsOfNode, IsGroupName, IsMemberAt, IsMemberBelow}
use Rattle.tree_circuits.proofs.Common.{NamedTree, NamedElements, OwnBody, named_tree, IsGroupTotal, IsCleanTree, ids_in, member_begins}
use Rattle.tree_circuits.proofs.Common.{RecordedQuantity, IsOfGroups, AreGroupTotals, sum_passing}
use Rattle.tree_names.specs.TreeRecords.PlaceWeights.{IsMemberTotal}
use Rattle.tree_names.specs.TreeRecords.TreeRecords.{HasTreeRecord}
use Rattle.tree_names.proofs.GroupNames.{group_name_along, members_together, one_group, one_group_name}
use Rattle.tree_names.proofs.GroupNodes.{group_back}
use Rattle.tree_names.proofs.OwnNames.{goes_by_own, own_name_whole}
use Rattle.tree_names.proofs.Paths.{begins_with_slash}
use Rattle.tree_circuits.specs.TreeSums.{tree_sum, tree_sum_below, found_sum, NamesGroup}
use Rattle.tree_circuits.proofs.AllGroups.{AllShares, all_shares, shared_names}
use Rattle.tree_circuits.proofs.BelowSums.{Closed, ClosedBelow, total_has_place}
use Rattle.tree_circuits.proofs.RecordedQuantities.{IsRecordedQuantity}
use Rattle.tree_circuits.proofs.GroupShares.{IsShared, merges_passing}
use Rattle.tree_circuits.proofs.MaterialPlaces.{member_place}
use Rattle.tree_circuits.proofs.OwnMembers.{own_members, own_differ, own_placed, own_known, own_total}
use Rattle.tree_circuits.proofs.Shares.{Shared, shares_close, wholes_of}
use Rattle.tree_circuits.proofs.NamedSums.{names_in, sum_passing-same}

-- the names of groups with what they have
wholes_names : (groups : List Shared) → names_in (wholes_of groups) ≡ shared_names groups
wholes_names [] = refl
wholes_names (shared ∷ groups) = ap (λ (names : List (List ℕ)). shared.name ∷ names) (wholes_names groups)

module _ (raw : RawTech) (well : IsWellFormed raw) (rules : KeepsRules raw) (quantity : RecordedQuantity) (quantities : IsRecordedQuantity raw quantity)
    (exts : List CellExt)
    (own : OwnBody) (elements : NamedElements) (is : IsCleanTree raw (named_tree own elements))
    (has : HasTreeRecord raw exts (named_tree own elements)) (below : ClosedBelow raw quantity exts elements) where
  abbrev tree : NamedTree
  tree = named_tree own elements

  abbrev name_of : List ℕ × ℤ → List ℕ
  name_of one = one.0

  -- the nodes of the record
  abbrev nodes : List (List ℕ × ℤ)
  nodes = own_members quantity has.ext.nodes

  -- all members, each with what it has
  abbrev members : List (List ℕ × ℤ)
  members = nodes ++ below.members

  -- each node has a place
  node_placed : (member : List ℕ) → In member (names_in nodes) → (place : Place) × IsOfNode raw own.layout own.labels member place
  node_placed = own_placed raw own quantity has.ext.nodes well is.typed.0 has.is.nodes

  -- a node of the own layout is no group of an element
  node_apart : (place other : Place) (member : List ℕ) → IsOfNode raw own.layout own.labels member place → IsMemberBelow raw elements other member → ⊥
  node_apart place other member node group =
      begins_with_slash (ids_in elements) member (own_name_whole raw well own is.typed.0 place member (goes_by_own raw own place member node))
      (member_begins raw elements other member group)

  members_differ : Distinct (names_in members)
  members_differ =
      subst Distinct (sym (map-append name_of nodes below.members))
      (Distinct-append (names_in nodes) (names_in below.members) (own_differ raw own quantity has.ext.nodes well is.typed.0 has.is.nodes) below.differ
      (λ member here there.
      let node = node_placed member here in
      let group = below.placed member there in
      node_apart node.0 group.0 member node.1 group.1))

  -- each member has a place
  placed : (member : List ℕ) → In member (names_in members) → (place : Place) × IsMemberAt raw tree place member
  placed member here =
      elim (In-append_cases member (names_in nodes) (names_in below.members) (subst (In member) (map-append name_of nodes below.members) here)) [
        | inl node ↦ let found = node_placed member node in (found.0, inl found.1)
        | inr group ↦ let found = below.placed member group in (found.0, inr found.1)
      ]

  -- and each that has one is listed
  known : (place : Place) (member : List ℕ) → IsMemberAt raw tree place member → In member (names_in members)
  known place member (inl node) =
      subst (In member) (sym (map-append name_of nodes below.members))
      (In-append_left member (names_in nodes) (names_in below.members)
      (own_known raw own quantity has.ext.nodes well is.typed.0 has.is.nodes place member node))
  known place member (inr group) =
      subst (In member) (sym (map-append name_of nodes below.members))
      (In-append_right member (names_in nodes) (names_in below.members) (below.known place member group))

  -- what is counted of a member is what it has
  member_total : (one : List ℕ × ℤ) → In one members → (total : ℤ) → IsMemberTotal raw quantity.weight tree one.0 total → total ≡ one.1
  member_total one here total (inl node) = elim (In-append_cases one nodes below.members here) [
    | inl mine ↦ own_total raw own quantity has.ext.nodes well is.typed.0 has.is.nodes quantities one mine total node.sum
    | inr group ↦
        let found = below.placed one.0 (In-map name_of one below.members group) in
        absurd (node_apart node.place found.0 one.0 node.of_node found.1)
  ]
  member_total one here total (inr group) = elim (In-append_cases one nodes below.members here) [
    | inl mine ↦
        let node = node_placed one.0 (In-map name_of one nodes mine) in
        let found = total_has_place raw quantity.weight elements one.0 total group in
        absurd (node_apart node.0 found.0 one.0 node.1 found.1)
    | inr others ↦ below.totals one others total group
  ]

  -- all groups of the cell
  all : AllShares raw quantity quantities tree has.ext.merges
  all = all_shares raw quantity quantities tree (one_group raw well tree is) has.ext.merges has.is.merges (names_in members) members_differ
      (λ member here. let at = placed member here in (at.0, (at.1, member_place raw well rules tree is at.0 member at.1))) known

  abbrev parts : List (List ℕ × ℤ)
  parts = flat_map (λ (shared : Shared). shared.members) all.list

  -- groups that share a member go by one name
  one_owner : (one other : Shared) → IsShared raw quantity.weight tree one → IsShared raw quantity.weight tree other → (member : List ℕ)
      → In member (names_in one.members) → In member (names_in other.members) → one.name ≡ other.name
  one_owner one other sound sound_other member here there =
      let first = (sound.members member).0 here in
      let second = (sound_other.members member).0 there in
      let middle = members_together raw well tree is first.0 second.0 member first.2 second.2 in
      let joined = Chain-append first.1
      (Chain-append middle (group_back raw tree sound_other.place second.0 second.1)) in
      one_group_name raw tree sound_other.place one.name other.name
      (group_name_along raw tree sound.place sound_other.place one.name joined sound.named) sound_other.named

  parts_differ : (groups : List Shared) → ((shared : Shared) → In shared groups → IsShared raw quantity.weight tree shared)
      → Distinct (shared_names groups) → Distinct (names_in (flat_map (λ shared. shared.members) groups))
  parts_differ [] sound differ = tt
  parts_differ (shared ∷ groups) sound differ =
      let members_of : Shared → List (List ℕ × ℤ) = λ s. s.members in
      let rest = flat_map members_of groups in
      subst Distinct (sym (map-append name_of shared.members rest))
      (Distinct-append (names_in shared.members) (names_in rest) (sound shared (inl refl)).differ (parts_differ groups (λ s here. sound s (inr here)) differ.1)
      (λ member here there.
      let pair = In-map_source name_of member rest there in
      let owner = In-flat_map_source members_of pair.0 groups pair.1.0 in
      let P : List ℕ → Type 0 = λ n. In n (names_in owner.0.members) in
      let same = one_owner shared owner.0 (sound shared (inl refl)) (sound owner.0 (inr owner.1.0)) member here
      (subst P pair.1.1 (In-map name_of pair.0 owner.0.members owner.1.1)) in
      let Q : List ℕ → Type 0 = λ n. In n (shared_names groups) in
      let name : Shared → List ℕ = λ s. s.name in
      differ.0 (subst Q (sym same) (In-map name owner.0 groups owner.1.0))))

  -- the members are those of the groups
  same_members : (passes : List ℕ → Bool) → sum_passing passes members ≡ sum_passing passes parts
  same_members passes =
      let members_of : Shared → List (List ℕ × ℤ) = λ s. s.members in
      sum_passing-same passes members parts members_differ (parts_differ all.list all.sound all.differ)
      (λ member here.
      let at = placed member here in
      let owner = all.whole at.0 member at.1 in
      let pair = In-map_source name_of member owner.0.members owner.1.1 in
      let P : List ℕ → Type 0 = λ n. In n (names_in parts) in
      subst P pair.1.1 (In-map name_of pair.0 parts (In-flat_map members_of owner.0 pair.0 all.list owner.1.0 pair.1.0)))
      (λ member here.
      let pair = In-map_source name_of member parts here in
      let owner = In-flat_map_source members_of pair.0 all.list pair.1.0 in
      let of = ((all.sound owner.0 owner.1.0).members pair.0.0).0 (In-map name_of pair.0 owner.0.members owner.1.1) in
      let P : List ℕ → Type 0 = λ n. In n (names_in members) in
      subst P pair.1.1 (known of.0 pair.0.0 of.2))
      (λ one other here there same.
      let owner = In-flat_map_source members_of other all.list there in
      let total = (all.sound owner.0 owner.1.0).totals other owner.1.1 in
      let P : List ℕ → Type 0 = λ n. IsMemberTotal raw quantity.weight tree n other.1 in
      sym (member_total one here other.1 (subst P (sym same) total)))

  -- a group of the cell is listed
  group_listed : (name : List ℕ) → NamesGroup raw tree name → In name (shared_names all.list)
  group_listed name (place, named) =
      let owner = all.whole named.0.0 name named.0.2 in
      let sound = all.sound owner.0 owner.1.0 in
      let of = (sound.members name).0 owner.1.1 in
      let middle = members_together raw well tree is named.0.0 of.0 name named.0.2 of.2 in
      let joined = Chain-append named.0.1
      (Chain-append middle (group_back raw tree sound.place of.0 of.1)) in
      let same = one_group_name raw tree sound.place name owner.0.name (group_name_along raw tree place sound.place name joined named) sound.named in
      let P : List ℕ → Type 0 = λ n. In n (shared_names all.list) in
      let name_in : Shared → List ℕ = λ s. s.name in
      subst P (sym same) (In-map name_in owner.0 all.list owner.1.0)

  group_sound : (name : List ℕ) → In name (shared_names all.list) → NamesGroup raw tree name
  group_sound name here =
      let found = In-map_source (λ (s : Shared). s.name) name all.list here in
      let sound = all.sound found.0 found.1.0 in
      (sound.place, subst (IsGroupName raw tree sound.place) found.1.1 sound.named)

  are_totals : AreGroupTotals raw quantity.weight tree (wholes_of all.list)
  are_totals = record {
    named = (
      subst Distinct (sym (wholes_names all.list)) all.differ,
      (λ name named. subst (In name) (sym (wholes_names all.list)) (group_listed name named)),
      (λ name here. group_sound name (subst (In name) (wholes_names all.list) here)),
    );
    totals = λ group here.
        let whole_of : Shared → List ℕ × ℤ = λ shared. (shared.name, shared.whole) in
        let found = In-map_source whole_of group all.list here in
        let P : List ℕ × ℤ → Type 0 = λ pair. IsGroupTotal raw quantity.weight tree pair.0 pair.1 in
        subst P found.1.1 (all.sound found.0 found.1.0).has_whole;
  }

  regroup : (a b c : ℤ) → (a +ℤ b) +ℤ c ≡ (a +ℤ c) +ℤ b
  regroup a b c = omega (arith, ints)

  -- and what its groups have is what its records have
  closes : (passes : List ℕ → Bool) → IsOfGroups raw tree passes → tree_sum quantity exts tree passes ≡ sum_passing passes (wholes_of all.list)
  closes passes of =
      let node_of : NodeRec → List ℕ × ℤ = λ node. (node.name, quantity.of_node node) in
      let w : List ℕ × ℤ → ℤ = λ one. cond (passes one.0) one.1 (pos 0) in
      let merged = merges_passing quantity passes has.ext.merges in
      let lower = tree_sum_below quantity exts elements passes in
      ap (λ z. z +ℤ lower) (ap (found_sum quantity passes) has.found)
      ∙ ap (λ z. (z +ℤ merged) +ℤ lower) (sym (sum_on-map node_of w has.ext.nodes))
      ∙ ap (λ z. (sum_passing passes nodes +ℤ merged) +ℤ z) (below.closes passes of.1)
      ∙ regroup (sum_passing passes nodes) merged (sum_passing passes below.members)
      ∙ ap (λ z. z +ℤ merged) (sym (sum_on-append w nodes below.members) ∙ same_members passes)
      ∙ ap (λ z. sum_passing passes parts +ℤ z) (all.adds passes)
      ∙ shares_close passes all.list
      (λ shared here one among.
      let sound = all.sound shared here in
      let member = (sound.members one.0).0 (In-map name_of one shared.members among) in
      of.0 member.0 one.0 shared.name member.2 (group_name_along raw tree sound.place member.0 shared.name member.1 sound.named))
      (λ shared here. (all.sound shared here).rest)

  -- the sums of the cell close
  pub cell_closes : Closed raw quantity exts tree
  cell_closes = record { groups = wholes_of all.list; are = are_totals; closes = closes }
