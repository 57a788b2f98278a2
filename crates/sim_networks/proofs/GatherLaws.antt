-- Names that are met one after another, each kept once.
use Rattle.sim_networks.proofs.Common.{◌≡◌, ℕ, ℤ, ◌+◌, ◌<◌, Bool, true, false, cond, List, [], ◌∷◌, ◌++◌, length, get_or, take, map, inl, inr, refl}
use Rattle.sim_networks.proofs.Common.{sym, ap, ◌∙◌, subst, arith, bytes_eq, cases_lt, bytes_eq-Decides, map_more, take_more, In, Distinct}
use Rattle.sim_networks.proofs.Common.{In-append_left, In-get_or, In-index, names_of_aliases, names_of_transistors, SimFet, SimFile, NodeNames}
use Rattle.sim_networks.proofs.Common.{transistor_of, records_of, AddsNames}
use Rattle.std.proofs.Common.{append_assoc, append-nil, length-append}
use Rattle.std.specs.List.{list_any}
use Rattle.std.proofs.Math.ListN.{get_or-append}
use Rattle.std.proofs.Math.Seq.{get_or-append_seam}
use Rattle.finite_sets.proofs.Members.{In-push_cases, In-push}
use Rattle.finite_sets.proofs.Distincts.{Distinct-push}
use Rattle.finite_sets.proofs.Searches.{In-from_list_any, absent-from_list_any}
use Rattle.switch_net.specs.SimRecords.{TransistorLine}
use Rattle.sim_networks.specs.steps.Numbering.{with_name, with_names, arrivals, AreIndexed, AreNamesOf}

with_names-append : (names xs ys : List (List ℕ)) → with_names names (xs ++ ys) ≡ with_names (with_names names xs) ys
with_names-append names [] ys = refl
with_names-append names (x ∷ xs) ys = with_names-append (with_name names x) xs ys

-- no name is added
pub adds_none : (names : NodeNames) → AreIndexed names → AddsNames [] names names
adds_none names indexed = record { index = refl; indexed = indexed }

-- some names are added, and then others
pub adds_append : (xs ys : List (List ℕ)) (old mid new : NodeNames) → AddsNames xs old mid → AddsNames ys mid new
    → AddsNames (xs ++ ys) old new
adds_append xs ys old mid new first second = record {
  index = second.index ∙ ap (λ (names : List (List ℕ)). with_names names ys) first.index ∙ sym (with_names-append old.index xs ys);
  indexed = second.indexed;
}

names_of_transistors-push : (lines : List TransistorLine) (line : TransistorLine)
    → names_of_transistors (lines ++ line ∷ []) ≡ names_of_transistors lines ++ line.gate ∷ line.source ∷ line.drain ∷ []
names_of_transistors-push [] line = refl
names_of_transistors-push (one ∷ lines) line =
    ap (λ (rest : List (List ℕ)). one.gate ∷ one.source ∷ one.drain ∷ rest) (names_of_transistors-push lines line)

names_of_aliases-push : (pairs : List (List ℕ × List ℕ)) (pair : List ℕ × List ℕ)
    → names_of_aliases (pairs ++ pair ∷ []) ≡ names_of_aliases pairs ++ pair.0 ∷ pair.1 ∷ []
names_of_aliases-push [] pair = refl
names_of_aliases-push (one ∷ pairs) pair = ap (λ (rest : List (List ℕ)). one.0 ∷ one.1 ∷ rest) (names_of_aliases-push pairs pair)

-- the name of one more capacitance
pub adds_cap : (caps : List (List ℕ × ℤ)) (i : ℕ) (cap : List ℕ × ℤ) (old mid new : NodeNames) → i < length caps → cap ≡ get_or caps i cap
    → AddsNames (map (λ cap. cap.0) (take i caps)) old mid → AddsNames (cap.0 ∷ []) mid new
    → AddsNames (map (λ cap. cap.0) (take (i + 1) caps)) old new
adds_cap caps i cap old mid new within is first second =
    let name : List ℕ × ℤ → List ℕ = λ cap. cap.0 in
    let next : map name (take (i + 1) caps) ≡ map name (take i caps) ++ cap.0 ∷ [] =
    map_more name caps i cap within ∙ ap (λ (one : List ℕ × ℤ). map name (take i caps) ++ one.0 ∷ []) (sym is) in
    subst (λ (names : List (List ℕ)). AddsNames names old new) (sym next)
    (adds_append (map name (take i caps)) (cap.0 ∷ []) old mid new first second)

-- the names of one more transistor
pub adds_fet : (fets : List SimFet) (i : ℕ) (fet : SimFet) (old mid new : NodeNames) → i < length fets → fet ≡ get_or fets i fet
    → AddsNames (names_of_transistors (map transistor_of (take i fets))) old mid
    → AddsNames (fet.gate ∷ fet.source ∷ fet.drain ∷ []) mid new
    → AddsNames (names_of_transistors (map transistor_of (take (i + 1) fets))) old new
adds_fet fets i fet old mid new within is first second =
    let lines = map transistor_of (take i fets) in
    let next : map transistor_of (take (i + 1) fets) ≡ lines ++ transistor_of fet ∷ [] =
    map_more transistor_of fets i fet within ∙ ap (λ (one : SimFet). lines ++ transistor_of one ∷ []) (sym is) in
    subst (λ (names : List (List ℕ)). AddsNames names old new)
    (sym (ap names_of_transistors next ∙ names_of_transistors-push lines (transistor_of fet)))
    (adds_append (names_of_transistors lines) (fet.gate ∷ fet.source ∷ fet.drain ∷ []) old mid new first second)

-- the names of one more alias
pub adds_alias : (pairs : List (List ℕ × List ℕ)) (i : ℕ) (pair : List ℕ × List ℕ) (old mid new : NodeNames) → i < length pairs
    → pair ≡ get_or pairs i pair
    → AddsNames (names_of_aliases (take i pairs)) old mid → AddsNames (pair.0 ∷ pair.1 ∷ []) mid new
    → AddsNames (names_of_aliases (take (i + 1) pairs)) old new
adds_alias pairs i pair old mid new within is first second =
    let before = take i pairs in
    let next : take (i + 1) pairs ≡ before ++ pair ∷ [] =
    take_more pairs i pair within ∙ ap (λ (one : List ℕ × List ℕ). before ++ one ∷ []) (sym is) in
    subst (λ (names : List (List ℕ)). AddsNames names old new) (sym (ap names_of_aliases next ∙ names_of_aliases-push before pair))
    (adds_append (names_of_aliases before) (pair.0 ∷ pair.1 ∷ []) old mid new first second)

-- all names of a sim file
pub names_made : (sim : SimFile) (caps : List (List ℕ × ℤ)) (fets : List SimFet) (pairs : List (List ℕ × List ℕ))
    (start first second names : NodeNames)
    → caps ≡ sim.caps → fets ≡ sim.fets → pairs ≡ sim.aliases → start.index ≡ [] → AddsNames (map (λ cap. cap.0) caps) start first
    → AddsNames (names_of_transistors (map transistor_of fets)) first second → AddsNames (names_of_aliases pairs) second names
    → AreNamesOf sim names
names_made sim caps fets pairs start first second names caps_are fets_are pairs_are none adds_caps adds_fets adds_aliases =
    let name : List ℕ × ℤ → List ℕ = λ cap. cap.0 in
    let of_caps = map name caps in
    let of_fets = names_of_transistors (map transistor_of fets) in
    let of_pairs = names_of_aliases pairs in
    let front = adds_append of_caps of_fets start first second adds_caps adds_fets in
    let all = adds_append (of_caps ++ of_fets) of_pairs start second names front adds_aliases in
    let met : (of_caps ++ of_fets) ++ of_pairs ≡ arrivals (records_of sim) =
    ap (λ (list : List (List ℕ × ℤ)). (map name list ++ of_fets) ++ of_pairs) caps_are
    ∙ (ap (λ (list : List SimFet). (map name sim.caps ++ names_of_transistors (map transistor_of list)) ++ of_pairs) fets_are
    ∙ ap (λ (list : List (List ℕ × List ℕ)).
    (map name sim.caps ++ names_of_transistors (map transistor_of sim.fets)) ++ names_of_aliases list) pairs_are) in
    record {
      index = all.index ∙ (ap (λ (old : List (List ℕ)). with_names old ((of_caps ++ of_fets) ++ of_pairs)) none ∙ ap (with_names []) met);
      indexed = all.indexed;
    }

-- The name stands in the list before the place.
pub record StandsBefore (met : List (List ℕ)) (name : List ℕ) (place : ℕ) : Type 0 where
  pub at : ℕ
  pub before : at < place
  pub is : get_or met at [] ≡ name

-- The names are those that were met, each once, and in the order in which they were met first.
pub record AreGathered (met names : List (List ℕ)) : Type 0 where
  pub once : Distinct names
  pub sound : (name : List ℕ) → In name names → In name met
  pub whole : (name : List ℕ) → In name met → In name names
  pub in_order : (a b place : ℕ) → a < b → b < length names → place < length met → get_or met place [] ≡ get_or names b []
      → StandsBefore met (get_or names a []) place

stands_still : (met : List (List ℕ)) (more name : List ℕ) (place : ℕ) → place < length met → StandsBefore met name place
    → StandsBefore (met ++ more ∷ []) name place
stands_still met more name place within stands = record {
  at = stands.at;
  before = stands.before;
  is = (let inside : stands.at < length met = omega (arith, stands.before) in
      get_or-append met (more ∷ []) [] stands.at inside ∙ stands.is);
}

-- what was met stands before the end
stands_met : (met : List (List ℕ)) (more name : List ℕ) (place : ℕ) → place ≡ length met → In name met
    → StandsBefore (met ++ more ∷ []) name place
stands_met met more name place end here =
    let found = In-index name met here in record {
      at = found.0;
      before = omega (arith, found.1.0);
      is = get_or-append met (more ∷ []) [] found.0 found.1.0 ∙ found.1.1 [];
    }

gathered_again : (met names : List (List ℕ)) (name : List ℕ) → AreGathered met names → In name names → AreGathered (met ++ name ∷ []) names
gathered_again met names name are known = record {
  once = are.once;
  sound = λ one here. In-append_left one met (name ∷ []) (are.sound one here);
  whole = λ one here. elim (In-push_cases one met name here) [
    | inl old ↦ are.whole one old
    | inr this ↦ subst (λ (n : List ℕ). In n names) this known
  ];
  in_order = λ a b place less within inside same. elim (cases_lt place (length met)) [
    | inl old ↦ stands_still met name (get_or names a []) place old
        (are.in_order a b place less within old (sym (get_or-append met (name ∷ []) [] place old) ∙ same))
    | inr last ↦ stands_met met name (get_or names a []) place (omega (arith, length-append met (name ∷ [])))
        (are.sound (get_or names a []) (In-get_or names a [] (omega arith)))
  ];
}

gathered_new : (met names : List (List ℕ)) (name : List ℕ) → AreGathered met names → (In name names → ⊥)
    → AreGathered (met ++ name ∷ []) (names ++ name ∷ [])
gathered_new met names name are new = record {
  once = Distinct-push names name are.once new;
  sound = λ one here. elim (In-push_cases one names name here) [
    | inl old ↦ In-append_left one met (name ∷ []) (are.sound one old)
    | inr this ↦ subst (λ (n : List ℕ). In n (met ++ name ∷ [])) this (In-push met name)
  ];
  whole = λ one here. elim (In-push_cases one met name here) [
    | inl old ↦ In-append_left one names (name ∷ []) (are.whole one old)
    | inr this ↦ subst (λ (n : List ℕ). In n (names ++ name ∷ [])) this (In-push names name)
  ];
  in_order = λ a b place less within inside same.
      let a_in : a < length names = omega (arith, length-append names (name ∷ [])) in
      let a_is = get_or-append names (name ∷ []) [] a a_in in
      let stands : StandsBefore (met ++ name ∷ []) (get_or names a []) place = elim (cases_lt place (length met)) [
        | inl old ↦ (let met_is = sym (get_or-append met (name ∷ []) [] place old) ∙ same in elim (cases_lt b (length names)) [
          | inl b_in ↦ stands_still met name (get_or names a []) place old
              (are.in_order a b place less b_in old (met_is ∙ get_or-append names (name ∷ []) [] b b_in))
          | inr last ↦ (let end : b ≡ length names = omega (arith, length-append names (name ∷ [])) in
              let this : get_or (names ++ name ∷ []) b [] ≡ name =
              ap (λ (k : ℕ). get_or (names ++ name ∷ []) k []) end ∙ get_or-append_seam names name [] [] in
              absurd (new (are.whole name (subst (λ (n : List ℕ). In n met) (met_is ∙ this) (In-get_or met place [] old)))))
        ])
        | inr last ↦ stands_met met name (get_or names a []) place (omega (arith, length-append met (name ∷ [])))
            (are.sound (get_or names a []) (In-get_or names a [] a_in))
      ] in
      subst (λ (n : List ℕ). StandsBefore (met ++ name ∷ []) n place) (sym a_is) stands;
}

gathered_push : (met names : List (List ℕ)) (name : List ℕ) → AreGathered met names → AreGathered (met ++ name ∷ []) (with_name names name)
gathered_push met names name are = step (list_any (bytes_eq name) names) refl
  where
    step : (known : Bool) → list_any (bytes_eq name) names ≡ known → AreGathered (met ++ name ∷ []) (cond known names (names ++ name ∷ []))
    step true is = gathered_again met names name are (In-from_list_any bytes_eq bytes_eq-Decides name names is)
    step false is = gathered_new met names name are (absent-from_list_any bytes_eq bytes_eq-Decides name names is)

gathered_more : (met names more : List (List ℕ)) → AreGathered met names → AreGathered (met ++ more) (with_names names more)
gathered_more met names [] are = subst (λ (all : List (List ℕ)). AreGathered all names) (sym (append-nil met)) are
gathered_more met names (name ∷ more) are =
    subst (λ (all : List (List ℕ)). AreGathered all (with_names (with_name names name) more)) (append_assoc met (name ∷ []) more)
    (gathered_more (met ++ name ∷ []) (with_name names name) more (gathered_push met names name are))

-- names that are added to none
pub gathered : (met : List (List ℕ)) → AreGathered met (with_names [] met)
gathered met = gathered_more [] [] met (record {
  once = tt;
  sound = λ name here. here;
  whole = λ name here. here;
  in_order = λ a b place less within inside same. absurd (omega arith);
})
