-- Links of the names of nodes, which grow alias by alias and node by node.
use Rattle.name_classes.proofs.Common.{◌≡◌, ℕ, Bool, true, false, inl, inr, List, [], ◌∷◌, ◌++◌, refl, sym, subst, Option, Some, None, In}
use Rattle.name_classes.proofs.Common.{In-append_left, In-push_cases, In-flat_map, NodeRec, CellExt, names_of, is_node_name-lawful}
use Rattle.name_classes.proofs.Common.{slashes_in-node_name, FullNames, AreNames, MergeEnd, Link, IsEndFrom, IsNameOf, HasRecord, IsLink, HasLink}
use Rattle.name_classes.proofs.Common.{IsGlobalName, IsNear, IsLinkIn, AreNodeLinks}
use Rattle.std.specs.Prelude.{IsTrue, IfSome}
use Rattle.std.specs.Bool.{then_some}
use Rattle.partition.proofs.FiniteSets.Members.{In-push}
use Rattle.ext_model.specs.declared.names.NameKind.TheVariants.{Global}
use Rattle.ext_model.specs.NodeNames.{is_global, name_kind}
use Rattle.ext_model.proofs.NameKinds.{kinds_tell_global_names}
use Rattle.ext_model.proofs.PathNames.{last_name-whole}
use Rattle.name_classes.specs.declared.links.NodeLinks.{NodeLinks}
use Rattle.name_classes.specs.steps.Links.{IsNodeLink, IsLinkedByGlobal, IsLinkedTo, AddsAlias, Grow}
use Rattle.name_classes.specs.steps.Links.{AddsNode}
use Rattle.name_classes.proofs.TreeLaws.{lawful_at}

-- the names of a node of an element's record
pub node_name_of : (names : FullNames) (number : ℕ) (ext : CellExt) → HasRecord names number ext → (node : NodeRec) → In node ext.nodes
    → (name : List ℕ) → In name (names_of node) → IsNameOf names number name
node_name_of names number ext at node within name named = record {
  flat = at.flat;
  ext = ext;
  stands = at.stands;
  record_ = at.record_;
  named = In-flat_map names_of node name ext.nodes within named;
}

-- a name of a node whose kind is that of global names is the same everywhere
pub global_name : (names : FullNames) → AreNames names → (number : ℕ) (name : List ℕ) → IsNameOf names number name → name_kind name ≡ Global
    → IsGlobalName name
global_name names are number name of kind =
    let formed = is_node_name-lawful of.ext (lawful_at names are of.flat.cell of.ext of.record_) name of.named in
    let global : IsTrue (is_global name) = (kinds_tell_global_names name formed).1 kind in
    let last = last_name-whole name (slashes_in-node_name name formed) in
    subst (λ (n : List ℕ). IsTrue (is_global n)) (sym last) global

-- The end is that of a global name of the node that is near.
pub record IsGlobalEnd (names : FullNames) (number : ℕ) (node : NodeRec) (links : NodeLinks) (end : MergeEnd) : Type 0 where
  pub name : List ℕ
  pub named : In name (names_of node)
  pub global : IsGlobalName name
  pub is_end : IsEndFrom names number name end
  pub near : IsNear names number links node.name name

module _ (names : FullNames) (number : ℕ) where
  -- ---- what more links keep

  Keep : List Link → List Link → Type 0
  Keep old new = (link : Link) → In link old → In link new

  has_more : {old new : List Link} {one other : List ℕ} → ((link : Link) → In link old → In link new) → HasLink names number old one other
      → HasLink names number new one other
  has_more keep has = record { link = has.link; within = keep has.link has.within; is_link = has.is_link }

  near_more : (old new : NodeLinks) (preferred name : List ℕ) → ((link : Link) → In link old.each.items → In link new.each.items)
      → IsNear names number old preferred name → IsNear names number new preferred name
  near_more old new preferred name keep (inl same) = inl same
  near_more old new preferred name keep (inr has) = inr (has_more keep has)

  pub linked_more : (old new : NodeLinks) (preferred name : List ℕ) → ((link : Link) → In link old.each.items → In link new.each.items)
      → ((link : Link) → In link old.once.items → In link new.once.items) → IsLinkedTo names number old preferred name
      → IsLinkedTo names number new preferred name
  linked_more old new preferred name each once (inl near) = inl (near_more old new preferred name each near)
  linked_more old new preferred name each once (inr by) = inr (record {
    global = by.global;
    global_is = by.global_is;
    name_is = by.name_is;
    near = near_more old new preferred by.global each by.near;
    linked = has_more once by.linked;
  })

  global_more : (old new : NodeLinks) (node : NodeRec) (end : MergeEnd) → ((link : Link) → In link old.each.items → In link new.each.items)
      → IsGlobalEnd names number node old end → IsGlobalEnd names number node new end
  global_more old new node end each is = record {
    name = is.name;
    named = is.named;
    global = is.global;
    is_end = is.is_end;
    near = near_more old new node.name is.name each is.near;
  }

  -- ---- lists that grow

  grow_same : (node : NodeRec) (start old new : List Link) → new ≡ old → Grow names number node start old → Grow names number node start new
  grow_same node start old new same grow = subst (λ (links : List Link). Grow names number node start links) (sym same) grow

  grow_push : (node : NodeRec) (start old new : List Link) (link : Link) → new ≡ old ++ link ∷ [] → IsNodeLink names number node link
      → Grow names number node start old → Grow names number node start new
  grow_push node start old new link same is grow = subst (λ (links : List Link). Grow names number node start links) (sym same) (record {
    kept = λ l here. In-append_left l old (link ∷ []) (grow.kept l here);
    added = λ l here. elim (In-push_cases l old link here) [
      | inl before ↦ grow.added l before
      | inr last ↦ inr (subst (λ (x : Link). IsNodeLink names number node x) last is)
    ];
  })

  keep_same : (old new : List Link) → new ≡ old → (link : Link) → In link old → In link new
  keep_same old new same link here = subst (λ (links : List Link). In link links) (sym same) here

  keep_push : (old new : List Link) (more : Link) → new ≡ old ++ more ∷ [] → (link : Link) → In link old → In link new
  keep_push old new more same link here = subst (λ (links : List Link). In link links) (sym same) (In-append_left link old (more ∷ []) here)

  pushed : (old new : List Link) (more : Link) → new ≡ old ++ more ∷ [] → In more new
  pushed old new more same = subst (λ (links : List Link). In more links) (sym same) (In-push old more)

  -- ---- one more alias

  pub record Grown (node : NodeRec) (aliases : List (List ℕ)) (start now : NodeLinks) (global : Option MergeEnd) : Type 0 where
    pub adds : AddsNode names number node aliases start now
    pub first : IfSome global (IsGlobalEnd names number node now)

  module _ (node : NodeRec) (done : List (List ℕ)) (alias : List ℕ) (preferred end : MergeEnd) (start old new : NodeLinks)
      (adds : AddsNode names number node done start old) (is_preferred : IsEndFrom names number node.name preferred) (named : In alias (names_of node))
      (is_end : IsEndFrom names number alias end) where
    -- the aliases so far, and one more that is linked
    linked_push : ((link : Link) → In link old.each.items → In link new.each.items) → ((link : Link) → In link old.once.items → In link new.once.items)
        → IsLinkedTo names number new node.name alias → (name : List ℕ) → In name (done ++ alias ∷ []) → IsLinkedTo names number new node.name name
    linked_push each once last name here = elim (In-push_cases name done alias here) [
      | inl before ↦ linked_more old new node.name name each once (adds.linked name before)
      | inr same ↦ subst (λ (n : List ℕ). IsLinkedTo names number new node.name n) same last
    ]

    preferred_link : IsNodeLink names number node (record { first = preferred; second = end })
    preferred_link = record {
      one = node.name;
      other = alias;
      has_one = inl refl;
      has_other = named;
      is_link = record { first = is_preferred; second = is_end };
    }

    -- the alias is linked with the preferred name
    to_preferred : new.each.items ≡ old.each.items ++ record { first = preferred; second = end } ∷ [] → new.once.items ≡ old.once.items
        → AddsNode names number node (done ++ alias ∷ []) start new
    to_preferred each once =
        let link : Link = record { first = preferred; second = end } in
        let has : HasLink names number new.each.items node.name alias = record {
          link = link;
          within = pushed old.each.items new.each.items link each;
          is_link = record { first = is_preferred; second = is_end };
        } in record {
          each = grow_push node start.each.items old.each.items new.each.items link each preferred_link adds.each;
          once = grow_same node start.once.items old.once.items new.once.items once adds.once;
          linked = linked_push (keep_push old.each.items new.each.items link each) (keep_same old.once.items new.once.items once) (inl (inr has));
        }

    -- the alias is linked with the first global name
    to_global : (global : MergeEnd) → IsGlobalEnd names number node old global → IsGlobalName alias → new.each.items ≡ old.each.items
        → new.once.items ≡ old.once.items ++ record { first = global; second = end } ∷ [] → AddsNode names number node (done ++ alias ∷ []) start new
    to_global global first alias_is each once =
        let link : Link = record { first = global; second = end } in
        let is_link : IsLink names number link first.name alias = record { first = first.is_end; second = is_end } in
        let keep = keep_same old.each.items new.each.items each in
        let by : IsLinkedByGlobal names number new node.name alias = record {
          global = first.name;
          global_is = first.global;
          name_is = alias_is;
          near = near_more old new node.name first.name keep first.near;
          linked = record { link = link; within = pushed old.once.items new.once.items link once; is_link = is_link };
        } in record {
          each = grow_same node start.each.items old.each.items new.each.items each adds.each;
          once = grow_push node start.once.items old.once.items new.once.items link once
              (record { one = first.name; other = alias; has_one = first.named; has_other = named; is_link = is_link }) adds.once;
          linked = linked_push keep (keep_push old.once.items new.once.items link once) (inr by);
        }

    pub alias_added : (global : Option MergeEnd) (flag : Bool) (next : Option MergeEnd) → IfSome global (IsGlobalEnd names number node old)
        → (flag ≡ true → IsGlobalName alias) → AddsAlias preferred global end flag old new next
        → Grown node (done ++ alias ∷ []) start new next
    alias_added (Some global) true next first tells is = record {
      adds = to_global global first (tells refl) is.0 is.1;
      first = rw is.2 (global_more old new node global (keep_same old.each.items new.each.items is.0) first);
    }
    alias_added (Some global) false next first tells is = record {
      adds = to_preferred is.0 is.1;
      first = rw is.2 (global_more old new node global (keep_push old.each.items new.each.items (record { first = preferred; second = end }) is.0) first);
    }
    alias_added None true next first tells is =
        let link : Link = record { first = preferred; second = end } in
        let end_is : IsGlobalEnd names number node new end = record {
          name = alias;
          named = named;
          global = tells refl;
          is_end = is_end;
          near = inr (record {
            link = link;
            within = pushed old.each.items new.each.items link is.0;
            is_link = record { first = is_preferred; second = is_end };
          });
        } in record {
          adds = to_preferred is.0 is.1;
          first = rw is.2 end_is;
        }
    alias_added None false next first tells is = record { adds = to_preferred is.0 is.1; first = rw is.2 tt }

  -- before the first alias
  pub none_added : (node : NodeRec) (links : NodeLinks) (preferred : MergeEnd) → IsEndFrom names number node.name preferred → (flag : Bool)
      → (flag ≡ true → IsGlobalName node.name) → Grown node [] links links (then_some flag preferred)
  none_added node links preferred is flag tells = record {
    adds = record {
      each = record { kept = λ link here. here; added = λ link here. inl here };
      once = record { kept = λ link here. here; added = λ link here. inl here };
      linked = λ name none. absurd none;
    };
    first = start flag tells;
  }
    where
      start : (flag : Bool) → (flag ≡ true → IsGlobalName node.name) → IfSome (then_some flag preferred) (IsGlobalEnd names number node links)
      start true tells = record { name = node.name; named = inl refl; global = tells refl; is_end = is; near = inl refl }
      start false tells = tt

  -- ---- one more node

  pub no_nodes : (links : NodeLinks) → links.each.items ≡ [] → links.once.items ≡ [] → AreNodeLinks names number [] links
  no_nodes links each once = record {
    each = λ link here. absurd (subst (λ (all : List Link). In link all) each here);
    once = λ link here. absurd (subst (λ (all : List Link). In link all) once here);
    linked = λ node none. absurd none;
  }

  more_nodes : (nodes : List NodeRec) (node : NodeRec) (link : Link) → IsLinkIn names number nodes link → IsLinkIn names number (nodes ++ node ∷ []) link
  more_nodes nodes node link is = record { node = is.node; within = In-append_left is.node nodes (node ∷ []) is.within; is_link = is.is_link }

  last_node : (nodes : List NodeRec) (node : NodeRec) (link : Link) → IsNodeLink names number node link → IsLinkIn names number (nodes ++ node ∷ []) link
  last_node nodes node link is = record { node = node; within = In-push nodes node; is_link = is }

  pub node_added : (nodes : List NodeRec) (node : NodeRec) (old new : NodeLinks) → AreNodeLinks names number nodes old
      → AddsNode names number node node.aliases old new → AreNodeLinks names number (nodes ++ node ∷ []) new
  node_added nodes node old new are adds = record {
    each = λ link here. elim (adds.each.added link here) [
      | inl before ↦ more_nodes nodes node link (are.each link before)
      | inr of ↦ last_node nodes node link of
    ];
    once = λ link here. elim (adds.once.added link here) [
      | inl before ↦ more_nodes nodes node link (are.once link before)
      | inr of ↦ last_node nodes node link of
    ];
    linked = λ other here alias of. elim (In-push_cases other nodes node here) [
      | inl before ↦ linked_more old new other.name alias adds.each.kept adds.once.kept (are.linked other before alias of)
      | inr same ↦
          let P : NodeRec → Type 0 = λ n. IsLinkedTo names number new n.name alias in
          subst P same (adds.linked alias (subst (λ (n : NodeRec). In alias n.aliases) (sym same) of))
    ];
  }
