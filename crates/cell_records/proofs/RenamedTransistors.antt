-- A transistor whose nodes get other names.
use Rattle.cell_records.proofs.Common.{◌≡◌, ℤ, pos, ◌<ℤ◌, List, [], ◌∷◌, map, refl, ap, subst, IsTrue, In, Distinct, In-map, In-map_source, RawTech}
use Rattle.cell_records.proofs.Common.{LeadsAcross, IsEdgeCount, Layout, Place, AreNeighbours, AreOneChannel, IsTerminalOf, Transistor, IsTransistor}
use Rattle.finite_sets.proofs.Distincts.{Distinct-map}
use Rattle.finite_sets.proofs.Totals.{Total-iff}
use Rattle.tech_model.specs.ChannelRoles.{is_terminal}
use Rattle.cell_records.proofs.JoinedLaws.{key}

-- the terminal of the other name
abbrev pub renamed : {M N : Type 0} → (M → N) → M × ℤ → N × ℤ
renamed name t = (name t.0, t.1)

-- the transistor with other names
abbrev pub renamed_transistor : {M N : Type 0} → (M → N) → Transistor M → Transistor N
renamed_transistor {M} {N} name fet = record {
  kind = fet.kind;
  least = fet.least;
  area = fet.area;
  perimeter = fet.perimeter;
  gate = name fet.gate;
  terminals = map {B = N × ℤ} (renamed {M = M} {N = N} name) fet.terminals;
}

-- the keys are renamed
renamed_keys : {M N : Type 0} (name : M → N) (ts : List (M × ℤ)) → map name (map key ts) ≡ map key (map (renamed {M = M} {N = N} name) ts)
renamed_keys name [] = refl
renamed_keys name (t ∷ ts) = ap (λ rest. name t.0 ∷ rest) (renamed_keys name ts)

module _ {M N : Type 0} (raw : RawTech) (layout : Layout) (Owns : M → Place → Type 0) (Has : N → Place → Type 0) (name : M → N) (fet : Transistor M)
    (is : IsTransistor raw layout Owns fet) (there : (m : M) (place : Place) → Owns m place → Has (name m) place)
    (back : (m : M) (place : Place) → In m (map key fet.terminals) → Has (name m) place → Owns m place)
    (one : (m n : M) → In m (map key fet.terminals) → In n (map key fet.terminals) → name m ≡ name n → m ≡ n) where
  abbrev Channel : Place → Type 0
  Channel = AreOneChannel layout fet.least

  abbrev terms : List (N × ℤ)
  terms = map {B = N × ℤ} (renamed {M = M} {N = N} name) fet.terminals

  terminal_is : (node : N) (length : ℤ) → In {X = N × ℤ} (node, length) terms
      → (pos 0 <ℤ length) × IsEdgeCount Channel (IsTerminalOf raw layout Has fet.kind node) length
  terminal_is node length among =
      let source = In-map_source {Y = N × ℤ} (renamed {M = M} {N = N} name) (node, length) fet.terminals among in
      let m = source.0.0 in
      let was = is.terminals m source.0.1 source.1.0 in
      let P : N × ℤ → Type 0 = λ t. (pos 0 <ℤ t.1) × IsEdgeCount Channel (IsTerminalOf raw layout Has fet.kind t.0) t.1 in
      subst P source.1.1 (
        was.0,
        Total-iff (LeadsAcross Channel (IsTerminalOf raw layout Owns fet.kind m)) (LeadsAcross Channel (IsTerminalOf raw layout Has fet.kind (name m)))
            (λ e. pos 1) source.0.1
            (λ e h. record { from = h.from; to = record { listed = h.to.listed; owned = there m e.1 h.to.owned }; near = h.near })
            (λ e h. record {
              from = h.from;
              to = record { listed = h.to.listed; owned = back m e.1 (In-map key source.0 fet.terminals source.1.0) h.to.owned };
              near = h.near;
            }) was.1,
      )

  terminal_there : (a b : Place) → Channel a → AreNeighbours a b → IsTrue (is_terminal raw fet.kind (layout b))
      → (node : N) × In node (map key terms) × Has node b
  terminal_there a b chain near listed =
      let at = is.whole a b chain near listed in (
        name at.0,
        subst (λ (names : List N). In (name at.0) names) (renamed_keys name fet.terminals) (In-map name at.0 (map key fet.terminals) at.1),
        there at.0 b at.2,
      )

  -- it is one over the other names
  pub renamed_is : IsTransistor raw layout Has (renamed_transistor name fet)
  renamed_is = record {
    listed = is.listed;
    kind = is.kind;
    least = is.least;
    area = is.area;
    perimeter = is.perimeter;
    gate = there fet.gate fet.least is.gate;
    terminals = terminal_is;
    whole = terminal_there;
    once = subst (λ (names : List N). Distinct names) (renamed_keys name fet.terminals) (Distinct-map name (map key fet.terminals) one is.once);
  }
