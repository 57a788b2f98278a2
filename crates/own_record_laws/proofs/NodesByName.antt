-- Nodes that share a name are one: a text attaches to one node alone, and generated names differ by layer and square.
use Rattle.own_record_laws.proofs.Common.{◌≡◌, ◌⊎◌, ℕ, suc, ◌<◌, ℤ, pos, negsuc, true, List, [], ◌∷◌, length, IsTrue, inl, inr, refl, sym, ◌∙◌, ap}
use Rattle.own_record_laws.proofs.Common.{subst, arith, eq-eqb, is_ascii_digit, all_ascii_digits, false≢true, In, Chain-append, In-append_cases}
use Rattle.own_record_laws.proofs.Common.{In-get_or, digit_is, Square, Label, RawTech, IsWellFormed, is_node_name, is_global, Place, IsNoLater}
use Rattle.own_record_laws.proofs.Common.{HasTypesOf, Layout, IsMaterial, IsNoLater-antisym, HasText, label_at, coordinate_text, generated_name}
use Rattle.own_record_laws.proofs.Common.{AreOneNamedNode, IsNameOf}
use Rattle.std.proofs.Common.{◌≤◌, not, ◌++◌}
use Rattle.std.proofs.Common.{append_assoc}
use Rattle.std.proofs.lemmas.Bool.{and_parts, cases_eq, cases_lt}
use Rattle.std.proofs.lemmas.List.{append_cancel_right}
use Rattle.full_names.proofs.FiniteSets.Chains.{Chain-one, Chain-same}
use Rattle.full_names.proofs.FiniteSets.Leasts.{IsLeast-unique}
use Rattle.full_names.proofs.FiniteSets.Members.{In-append_right}
use Rattle.full_names.specs.TextScan.Decimal.{natural_text, decimal}
use Rattle.full_names.proofs.TextScan.DecimalLemmas.{all_ascii_digits-natural_text, decimal-injective}
use Rattle.full_names.proofs.GeoCore.SquareLaws.{square_is}
use Rattle.tree_records.specs.TechModel.Types.{layer_at, layer_of, first_name, no_layer}
use Rattle.tree_records.proofs.TechModel.TypeLaws.{connects_layer}
use Rattle.tree_records.proofs.TechModel.WellFormedLaws.{layer_well_formed}
use Rattle.full_names.specs.ExtModel.NodeNames.{ends_in, is_naming_text}
use Rattle.tree_records.specs.Names.Attachments.{Suits, AttachesTo}
use Rattle.tree_records.proofs.CellNodes.NodePlaces.{AreOneNamedNode-sym}

-- ---- generated names

-- texts cut at the last place of a byte are cut alike
cut_alike : (byte : ℕ) (xs ys us vs : List ℕ) → (In byte us → ⊥) → (In byte vs → ⊥) → xs ++ byte ∷ us ≡ ys ++ byte ∷ vs → (xs ≡ ys) × (us ≡ vs)
cut_alike byte [] [] us vs p q e = (refl, cc)
cut_alike byte [] (y ∷ ys) us vs p q e =
    let rest : us ≡ ys ++ byte ∷ vs = cc in
    absurd (p (subst (In byte) (sym rest) (In-append_right byte ys (byte ∷ vs) (inl refl))))
cut_alike byte (x ∷ xs) [] us vs p q e =
    let rest : xs ++ byte ∷ us ≡ vs = cc in
    absurd (q (subst (In byte) rest (In-append_right byte xs (byte ∷ us) (inl refl))))
cut_alike byte (x ∷ xs) (y ∷ ys) us vs p q e =
    let first : x ≡ y = cc in
    let rest : xs ++ byte ∷ us ≡ ys ++ byte ∷ vs = cc in
    let cut = cut_alike byte xs ys us vs p q rest in
    ((λ k. first k ∷ cut.0 k), cut.1)

-- what stands among digits is one
digit_among : (text : List ℕ) (byte : ℕ) → all_ascii_digits text ≡ true → In byte text → (48 ≤ byte) × (byte < 58)
digit_among [] byte all among = absurd among
digit_among (first ∷ text) byte all (inl same) =
    let is = digit_is first (and_parts (is_ascii_digit first) (all_ascii_digits text) all).0 in
    (omega (arith, is.0, same), omega (arith, is.1, same))
digit_among (first ∷ text) byte all (inr later) = digit_among text byte (and_parts (is_ascii_digit first) (all_ascii_digits text) all).1 later

natural_digit : (n byte : ℕ) → In byte (natural_text n) → (48 ≤ byte) × (byte < 58)
natural_digit n byte = digit_among (natural_text n) byte (all_ascii_digits-natural_text n)

-- a coordinate has digits, and may have the letter for the sign
coordinate_byte : (z : ℤ) (byte : ℕ) → In byte (coordinate_text z) → (byte ≡ 110) ⊎ ((48 ≤ byte) × (byte < 58))
unfolding decimal
coordinate_byte (pos n) byte among = inr (natural_digit n byte among)
coordinate_byte (negsuc n) byte (inl sign) = inl (sym sign)
coordinate_byte (negsuc n) byte (inr among) = inr (natural_digit (suc n) byte among)

-- it has no such byte
coordinate_free : (z : ℤ) (byte : ℕ) → byte < 48 ⊎ ((57 < byte) × (byte < 110)) → In byte (coordinate_text z) → ⊥
coordinate_free z byte other among = elim (coordinate_byte z byte among) [
  | inl sign ↦ elim other [ inl low ↦ omega (arith, sign, low) | inr high ↦ omega (arith, sign, high.1) ]
  | inr digit ↦ elim other [ inl low ↦ omega (arith, digit.0, low) | inr high ↦ omega (arith, digit.1, high.0) ]
]

-- a number without a sign does not begin with one
unsigned_apart : (n : ℕ) (text : List ℕ) → natural_text n ≡ 110 ∷ text → ⊥
unsigned_apart n text same =
    let digit = natural_digit n 110 (subst (In 110) (sym same) (inl refl)) in
    let low = digit.1 in
    omega (arith, low)

-- coordinates with one text are equal
coordinate_text-injective : (y z : ℤ) → coordinate_text y ≡ coordinate_text z → y ≡ z
unfolding decimal
coordinate_text-injective (pos m) (pos n) same = decimal-injective (pos m) (pos n) same
coordinate_text-injective (pos m) (negsuc n) same = absurd (unsigned_apart m (natural_text (suc n)) same)
coordinate_text-injective (negsuc m) (pos n) same = absurd (unsigned_apart n (natural_text (suc m)) (sym same))
coordinate_text-injective (negsuc m) (negsuc n) same =
    let rest : natural_text (suc m) ≡ natural_text (suc n) = cc in
    let number : pos (suc m) ≡ pos (suc n) = decimal-injective (pos (suc m)) (pos (suc n)) rest in
    let numbers : suc m ≡ suc n = cc in
    ap negsuc (omega (arith, numbers))

-- the text of a square behind a word
abbrev square_text : List ℕ → Square → List ℕ
square_text word square = word ++ 95 ∷ (coordinate_text square.x ++ 95 ∷ (coordinate_text square.y ++ 35 ∷ []))

-- a byte that a coordinate does not have stands in none of it with the last mark
behind_free : (z : ℤ) → In 95 (coordinate_text z ++ 35 ∷ []) → ⊥
behind_free z among = elim (In-append_cases 95 (coordinate_text z) (35 ∷ []) among) [
  | inl here ↦ coordinate_free z 95 (inr (omega arith, omega arith)) here
  | inr (inl mark) ↦ omega (arith, mark)
  | inr (inr none) ↦ none
]

-- such texts tell the word and the square
square_text-injective : (v w : List ℕ) (p q : Square) → square_text v p ≡ square_text w q → (v ≡ w) × (p ≡ q)
square_text-injective v w p q same =
    let x = coordinate_text p.x in
    let y = coordinate_text p.y ++ 35 ∷ [] in
    let a = coordinate_text q.x in
    let b = coordinate_text q.y ++ 35 ∷ [] in
    let whole : (v ++ 95 ∷ x) ++ 95 ∷ y ≡ (w ++ 95 ∷ a) ++ 95 ∷ b = append_assoc v (95 ∷ x) (95 ∷ y) ∙ same ∙ sym (append_assoc w (95 ∷ a) (95 ∷ b)) in
    let last = cut_alike 95 (v ++ 95 ∷ x) (w ++ 95 ∷ a) y b (behind_free p.y) (behind_free q.y) whole in
    let no_mark : (z : ℤ) → In 95 (coordinate_text z) → ⊥ = λ z. coordinate_free z 95 (inr (omega arith, omega arith)) in
    let first = cut_alike 95 v w x a (no_mark p.x) (no_mark q.x) last.0 in (
      first.0,
      square_is p q (coordinate_text-injective p.x q.x first.1)
          (coordinate_text-injective p.y q.y (append_cancel_right (coordinate_text p.y) (coordinate_text q.y) (35 ∷ []) last.1)),
    )

-- a generated name is such a text
generated_text : (raw : RawTech) (kind : ℕ) (square : Square)
    → generated_name raw kind square ≡ square_text (first_name (layer_at raw (layer_of raw kind))) square
generated_text raw kind square = simp append_assoc

-- layers with one first name are one
first_name-injective : (raw : RawTech) → IsWellFormed raw → (k l : ℕ) → k < length raw.layers → l < length raw.layers
    → first_name (layer_at raw k) ≡ first_name (layer_at raw l) → k ≡ l
first_name-injective raw well k l k_in l_in same =
    let named : (m : ℕ) → m < length raw.layers → In (first_name (layer_at raw m)) (layer_at raw m).names = λ m inside.
    In-get_or (layer_at raw m).names 0 [] (layer_well_formed raw m well inside).named in
    elim (cases_lt k l) [
      | inl less ↦ absurd (well.names_differ k l no_layer less l_in (first_name (layer_at raw k)) (named k k_in)
          (subst (λ (name : List ℕ). In name (layer_at raw l).names) (sym same) (named l l_in)))
      | inr no_less ↦ (elim (cases_lt l k) [
        | inl more ↦ absurd (well.names_differ l k no_layer more k_in (first_name (layer_at raw l)) (named l l_in)
            (subst (λ (name : List ℕ). In name (layer_at raw k).names) same (named k k_in)))
        | inr no_more ↦ omega (arith, no_less, no_more)
      ])
    ]

-- the last byte of a text
pub ends_in-mark : (byte : ℕ) (text : List ℕ) → ends_in byte (text ++ byte ∷ []) ≡ true
ends_in-mark byte [] = eq-eqb byte byte refl
ends_in-mark byte (first ∷ []) = eq-eqb byte byte refl
ends_in-mark byte (first ∷ next ∷ text) = ends_in-mark byte (next ∷ text)

module _ (raw : RawTech) (layout : Layout) (labels : List Label) (well : IsWellFormed raw) (typed : HasTypesOf raw layout) where
  abbrev name_at : Place → List ℕ
  name_at place = generated_name raw (layout place) place.square

  -- a generated name is none that a label gives
  generated_apart : (place other : Place) (text : List ℕ) → HasText raw layout labels text other → text ≡ name_at place → ⊥
  generated_apart place other text has same =
      let naming : is_naming_text text ≡ true = subst (λ (t : List ℕ). is_naming_text t ≡ true) has.is has.names.attaches.names in
      let marked : ends_in 35 text ≡ true = ap (ends_in 35) same
      ∙ ends_in-mark 35 (first_name (layer_at raw (layer_of raw (layout place))) ++ 95 ∷ [] ++ coordinate_text place.square.x ++ 95 ∷ []
      ++ coordinate_text place.square.y) in
      let plain = (and_parts (is_node_name text) (not (ends_in 35 text)) naming).1 in
      false≢true (sym (ap not marked) ∙ plain)

  -- nodes with one generated name are one
  generated_once : (a b : Place) → IsMaterial layout a → IsMaterial layout b → name_at a ≡ name_at b → AreOneNamedNode raw layout labels a b
  generated_once a b here there same =
      let word = λ (place : Place). first_name (layer_at raw (layer_of raw (layout place))) in
      let parts = square_text-injective (word a) (word b) a.square b.square
      (sym (generated_text raw (layout a) a.square) ∙ same ∙ generated_text raw (layout b) b.square) in
      let type_a = (typed a here).0 in
      let type_b = (typed b there).0 in
      let layer = first_name-injective raw well (layer_of raw (layout a)) (layer_of raw (layout b)) (well.type_layers (layout a) type_a)
      (well.type_layers (layout b) type_b) parts.0 in
      elim (cases_eq a.plane b.plane) [
        | inl plane ↦ Chain-same _ a b (λ k. record { plane = plane k; square = parts.1 k })
        | inr apart ↦ Chain-one (inl (record {
          here = here;
          there = there;
          near = inr (apart, parts.1);
          connected = connects_layer raw (layout a) (layout b) type_a type_b layer;
        }))
      ]

  -- a text attaches to one node
  text_once : (a b : Place) (text : List ℕ) → HasText raw layout labels text a → HasText raw layout labels text b → AreOneNamedNode raw layout labels a b
  text_once a b text p q = elim p.names.counts [
    | inl global ↦ Chain-one (inr (record { text = text; global = subst (λ (t : List ℕ). IsTrue (is_global t)) p.is global; here = p; there = q }))
    | inr first ↦ (elim q.names.counts [
      | inl global ↦ Chain-one (inr (record { text = text; global = subst (λ (t : List ℕ). IsTrue (is_global t)) q.is global; here = p; there = q }))
      | inr other ↦ (elim (cases_lt p.index q.index) [
        | inl less ↦ absurd (other p.index a less (p.is ∙ sym q.is) p.names.attaches)
        | inr no_less ↦ (elim (cases_lt q.index p.index) [
          | inl more ↦ absurd (first q.index b more (q.is ∙ sym p.is) q.names.attaches)
          | inr no_more ↦
              (let index : p.index ≡ q.index = omega (arith, no_less, no_more) in
              let label = label_at labels q.index in
              let attaches = subst (λ (k : ℕ). AttachesTo raw layout (label_at labels k) a) index p.names.attaches in
              Chain-same _ a b (IsLeast-unique IsNoLater (Suits raw layout label) IsNoLater-antisym a b attaches.least q.names.attaches.least))
        ])
      ])
    ])
  ]

  -- nodes that share a name are one
  pub one_name_one_node : (a b : Place) (name : List ℕ) → IsMaterial layout a → IsMaterial layout b → IsNameOf raw layout labels a name
      → IsNameOf raw layout labels b name → AreOneNamedNode raw layout labels a b
  one_name_one_node a b name here there (inl p) (inl q) =
      Chain-append p.inside (Chain-append (text_once p.place q.place name p.text q.text) (AreOneNamedNode-sym raw layout labels q.inside))
  one_name_one_node a b name here there (inl p) (inr q) = absurd (generated_apart b p.place name p.text q.1)
  one_name_one_node a b name here there (inr p) (inl q) = absurd (generated_apart a q.place name q.text p.1)
  one_name_one_node a b name here there (inr p) (inr q) = generated_once a b here there (sym p.1 ∙ q.1)
